-- The first member that is not below the ticket has it, or none does.
use Rattle.std.proofs.Common.{rules, nat_lt, arith}
use Rattle.std.specs.Prelude.{⊤}
use Rattle.std.proofs.lemmas.Bool.Decides.{nat_tests}
use Rattle.std.proofs.lemmas.List.Sorted.{IsPartitionPoint-from_clause, IsPartitionedBy-ltb}
use Rattle.zk_trees.specs.declared.member.Member.{Member}
use Rattle.zk_trees.proofs.Searching.{found_there, none_beyond}
use Rattle.zk_trees.proofs.order.has_rising.Goals as goal

pub returns-then-place-members : goal.returns-then-place-members
returns-then-place-members g c =
    let members = c.args.members.now in
    let point = IsPartitionPoint-from_clause (λ (one : Member g.row.A.Denot ⊤). nat_lt one.ticket c.args.ticket) members
    c.partition_point-place.result c.partition_point-place.ensures.partitioned
    (IsPartitionedBy-ltb (λ (one : Member g.row.A.Denot ⊤). one.ticket) members c.args.ticket c.requires) (λ a r f k. search rules) in
    found_there c.args.ticket members c.requires c.partition_point-place.result point c.index-members-place.result
    (grind (arith, nat_tests, c.if-place-members.true))

pub returns-else-place-members : goal.returns-else-place-members
returns-else-place-members g c =
    let members = c.args.members.now in
    let point = IsPartitionPoint-from_clause (λ (one : Member g.row.A.Denot ⊤). nat_lt one.ticket c.args.ticket) members
    c.partition_point-place.result c.partition_point-place.ensures.partitioned
    (IsPartitionedBy-ltb (λ (one : Member g.row.A.Denot ⊤). one.ticket) members c.args.ticket c.requires) (λ a r f k. search rules) in
    none_beyond c.args.ticket members c.requires c.partition_point-place.result point c.if-place-members.false
