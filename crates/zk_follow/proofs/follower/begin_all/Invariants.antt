-- The loop over the subjects: those before the index are due, and the rest are as they were. At the end all are due.
use Rattle.std.proofs.Common.{◌≡◌, ◌++◌, drop, map, take}
use Rattle.zk_follow.specs.Following.{due_again}
use Rattle.zk_follow.proofs.follower.begin_all.Given as goal

-- those before are to be read, and those after it are as they were
abbrev pub invariant-loop-subject : goal.invariant-loop-subject
invariant-loop-subject g l = l.subjects ≡ map due_again (take l.subject-index l.fn.subjects) ++ drop l.subject-index l.fn.subjects
