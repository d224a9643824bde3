-- The loop over the subjects: `first` is the fold over those before the index. At the end it is the fold over all.
use Rattle.std.proofs.Common.{◌≡◌, fold, take, None}
use Rattle.zk_follow.specs.Following.{again_at, first_of}
use Rattle.zk_follow.proofs.follower.first_again.Given as goal

-- the first of those so far
abbrev pub invariant-loop-subject : goal.invariant-loop-subject
invariant-loop-subject g l =
    l.first ≡ fold (λ first subject. first_of first (again_at subject.progress)) None (take l.subject-index l.subjects)
