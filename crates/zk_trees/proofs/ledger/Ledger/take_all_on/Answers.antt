-- Where nothing is wanted nothing is taken on (`none_taken`); else `index_for` makes the index that `take_each_on` requires.
use Rattle.std.proofs.Common.{List, subst, sym, ◌∙◌}
use Rattle.std.specs.Prelude.{⊤}
use Rattle.zk_trees.specs.Tending.{bed_of}
use Rattle.zk_trees.specs.inner.Tending.{footing_of}
use Rattle.zk_trees.specs.inner.Trees.{IsIndexIfMade}
use Rattle.zk_trees.specs.declared.member.Member.{Member}
use Rattle.zk_trees.proofs.Tending.{none_taken}
use Rattle.zk_trees.proofs.ledger.Ledger.take_all_on.Goals as goal

pub returns-then-is_none-clause-takes : goal.returns-then-is_none-clause-takes
returns-then-is_none-clause-takes g c =
    none_taken c.args.subjects.now (bed_of (footing_of c.args.follower.now c.args.self.now) c.args.tree.now)
    (sym c.is_none.ensures ∙ c.if-is_none.true)

pub take_each_on-requires : goal.take_each_on-requires
take_each_on-requires g c =
    subst (λ (l : List (Member g.row.A.Denot ⊤)). IsIndexIfMade c.in_ok-index.index l) c.as_slice.ensures.value c.in_ok-index.ensures
