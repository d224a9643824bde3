-- The loop over the places: those before what comes after the last one are awake, the rest are as they were. At the end all are.
use Rattle.std.proofs.Common.{◌≡◌, [], ℕ, length}
use Rattle.zk_follow.specs.Following.{woken}
use Rattle.zk_follow.proofs.Skipping.{start_of, Told}
use Rattle.zk_follow.proofs.heard.wake_each.Given as goal

-- those up to the last place are
abbrev pub invariant-loop-place : goal.invariant-loop-place
invariant-loop-place g l = record {
  size : length l.subjects ≡ length l.fn.subjects;
  awake : Told {Y = ℕ} (woken l.now) (λ subject. []) l.fn.subjects l.subjects [] []
      (start_of l.places l.place-index);
}
