-- The loop over the subjects: those before the index are doubted, and the rest are as they were. At the end all are doubted.
use Rattle.std.proofs.Common.{◌≡◌, ◌++◌, drop, map, take}
use Rattle.zk_follow.specs.Following.{doubted}
use Rattle.zk_follow.proofs.doubting.doubt_each.Given as goal

-- those before are doubted, and those after it are as they were
abbrev pub invariant-loop-subject : goal.invariant-loop-subject
invariant-loop-subject g l = l.subjects ≡ map doubted (take l.subject-index l.fn.subjects) ++ drop l.subject-index l.fn.subjects
