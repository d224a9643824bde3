-- The loop over the members: at its end none is left, so the tickets found are those of all members.
use Rattle.std.proofs.Common.{◌≡◌, ◌++◌, drop, map}
use Rattle.zk_trees.proofs.leaving.tickets_of.Given as goal

-- what was found, with what is left to be found
abbrev pub invariant-loop-one : goal.invariant-loop-one
invariant-loop-one g l = l.tickets.items ++ map (λ one. one.ticket) (drop l.one-index l.members) ≡ map (λ one. one.ticket) l.members
