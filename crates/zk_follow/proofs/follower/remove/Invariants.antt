-- The loop of `remove`: those that stay are the same.
use Rattle.std.proofs.Common.{◌≡◌, ◌==◌, not, length}
use Rattle.std.specs.List.{filter}
use Rattle.zk_follow.proofs.follower.remove.Given as goal

-- so far those were taken out that go
abbrev pub invariant-loop-place : goal.invariant-loop-place
invariant-loop-place g l =
    filter (λ subject. not (subject.ticket == l.ticket)) l.subjects.items
    ≡ filter (λ subject. not (subject.ticket == l.ticket)) l.fn.subjects.items

-- each takes one out
abbrev pub decreases-loop-place : goal.decreases-loop-place
decreases-loop-place g l = length l.subjects.items
