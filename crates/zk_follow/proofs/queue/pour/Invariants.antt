-- The loop of `pour`: what was there, or waited, is there or waits still. At the end none waits. Those that wait become fewer.
use Rattle.std.proofs.Common.{◌≡◌, ◌<◌, ◌||◌, ℕ, true, length}
use Rattle.zk_follow.specs.Following.{is_among}
use Rattle.zk_follow.proofs.queue.pour.Given as goal

-- none is lost
abbrev pub invariant-loop-place : goal.invariant-loop-place
invariant-loop-place g l = (at : ℕ) → at < l.count → (is_among at l.fn.all.items || is_among at l.fn.waiting.items) ≡ true
    → (is_among at l.all.items || is_among at l.waiting.items) ≡ true

abbrev pub decreases-loop-place : goal.decreases-loop-place
decreases-loop-place g l = length l.waiting.items
