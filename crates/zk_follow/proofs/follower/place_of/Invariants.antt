-- The loop over the subjects: those before the index have another ticket.
use Rattle.std.proofs.Common.{◌≡◌, ◌==◌, not, true}
use Rattle.zk_follow.proofs.Visiting.{AllBefore}
use Rattle.zk_follow.proofs.follower.place_of.Given as goal

-- those before have another ticket
abbrev pub invariant-loop-index : goal.invariant-loop-index
invariant-loop-index g l = AllBefore l.index (λ subject. not (subject.ticket == l.ticket) ≡ true) l.subjects
