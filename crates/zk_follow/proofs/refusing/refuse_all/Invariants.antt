-- The loop over the subjects: those before the index are as they are where the answer was too long, and the rest are as they were.
use Rattle.std.proofs.Common.{◌≡◌, ◌++◌, drop, map, take}
use Rattle.zk_follow.specs.Refusing.{too_long_for}
use Rattle.zk_follow.proofs.refusing.refuse_all.Given as goal

-- those before were refused if they have the ticket, and those after it are as they were
abbrev pub invariant-loop-subject : goal.invariant-loop-subject
invariant-loop-subject g l =
    l.subjects ≡ map (too_long_for l.now l.ticket) (take l.subject-index l.fn.subjects) ++ drop l.subject-index l.fn.subjects
