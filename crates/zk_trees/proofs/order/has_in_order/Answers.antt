-- The members after the first rise.
use Rattle.std.proofs.Common.{◌-◌, drop, length}
use Rattle.std.specs.Prelude.{⊤}
use Rattle.std.proofs.lemmas.List.Sorted.{IsNonDecreasingBy-take}
use Rattle.zk_trees.specs.declared.member.Member.{Member}
use Rattle.zk_trees.proofs.order.has_in_order.Goals as goal

pub has_rising-requires : goal.has_rising-requires
has_rising-requires g c =
    IsNonDecreasingBy-take (λ (one : Member g.row.A.Denot ⊤). one.ticket) (length c.args.members.now - 1)
    (drop 1 c.args.members.now) c.requires
