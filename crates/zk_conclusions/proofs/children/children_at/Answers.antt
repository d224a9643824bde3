-- What `children_of` ensures, said of the cache: `has_children`, and `not_whole` and `too_many` where there are none to give.
use Rattle.std.proofs.Common.{◌≡◌, true, ap}
use Rattle.std.proofs.lemmas.Result.{IfOk-weaker, IfErr-weaker}
use Rattle.zk_client.specs.Clients.{view_of}
use Rattle.zk_conclusions.specs.Subtrees.{IsKeptWhole, is_full_good}
use Rattle.zk_conclusions.specs.inner.Walks.{HasFault, HasMore, HasTooMany}
use Rattle.zk_conclusions.proofs.Keeping.{on_ok, says_more, has_children, too_many, not_whole}
use Rattle.zk_conclusions.proofs.children.children_at.Goals as goal

pub returns-in_default-clause-refused : goal.returns-in_default-clause-refused
returns-in_default-clause-refused g c = λ whole. c.names_if_full.ensures.none c.in_default.is whole.names whole.full

pub returns-clause-children : goal.returns-clause-children
returns-clause-children g c =
    IfOk-weaker c.children_of.result _ _ (λ children added. has_children (view_of c.args.client.now).cache c.args.path.now
    c.in-Some.names.now children.items c.children_of.ensures.sorted c.in-Some.ensures.some.children added) c.children_of.ensures.added

pub returns-clause-data : goal.returns-clause-data
returns-clause-data g c = on_ok c.children_of.result (is_full_good ((view_of c.args.client.now).cache.nodes c.args.path.now) ≡ true)
    (ap is_full_good c.in-Some.ensures.some.node)

pub returns-clause-refused : goal.returns-clause-refused
returns-clause-refused g c =
    let cache = (view_of c.args.client.now).cache in
    let path = c.args.path.now in
    let all = c.in-Some.names.now.names in
    IfErr-weaker c.children_of.result _ _ (λ why says.
    says_more why (HasFault path all) (HasMore path all c.args.room) (IsKeptWhole cache path → ⊥) (HasTooMany cache path c.args.room)
    (not_whole cache path c.in-Some.names.now c.children_of.ensures.sorted c.in-Some.ensures.some)
    (too_many cache path c.in-Some.names.now c.args.room c.children_of.ensures.sorted c.in-Some.ensures.some.children) says)
    c.children_of.ensures.refused
