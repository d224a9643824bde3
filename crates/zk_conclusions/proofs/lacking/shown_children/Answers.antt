-- Good names make the children: `has_children`. What `children_of` refuses is refused of the cache: `no_path` and `too_many`.
use Rattle.std.proofs.Common.{inl, inr}
use Rattle.std.proofs.lemmas.Result.{IfOk-weaker, IfErr-weaker}
use Rattle.zk_client.specs.Clients.{view_of}
use Rattle.zk_conclusions.specs.inner.Walks.{HasFault, HasMore, HasTooMany}
use Rattle.zk_conclusions.specs.Lacks.{HasFaultAt}
use Rattle.zk_conclusions.proofs.Keeping.{says_more, has_children, too_many, no_path}
use Rattle.zk_conclusions.proofs.lacking.shown_children.Goals as goal

pub returns-in_default-clause-found : goal.returns-in_default-clause-found
returns-in_default-clause-found g c = inr (c.good_names.ensures.none c.in_default.is, c.new.ensures.items)

pub returns-clause-found : goal.returns-clause-found
returns-clause-found g c =
    IfOk-weaker c.children_of.result _ _ (λ children added. inl (has_children (view_of c.args.client.now).cache c.args.path.now
    c.in-Some.names.now children.items c.children_of.ensures.sorted c.in-Some.ensures.some added)) c.children_of.ensures.added

pub returns-clause-refused : goal.returns-clause-refused
returns-clause-refused g c =
    let cache = (view_of c.args.client.now).cache in
    let path = c.args.path.now in
    let all = c.in-Some.names.now.names in
    IfErr-weaker c.children_of.result _ _ (λ why says.
    says_more why (HasFault path all) (HasMore path all c.args.room) (HasFaultAt cache path) (HasTooMany cache path c.args.room)
    (no_path cache path c.in-Some.names.now c.children_of.ensures.sorted c.in-Some.ensures.some)
    (too_many cache path c.in-Some.names.now c.args.room c.children_of.ensures.sorted c.in-Some.ensures.some) says)
    c.children_of.ensures.refused
