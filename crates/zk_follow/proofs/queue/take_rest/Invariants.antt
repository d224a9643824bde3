-- The loop of `take_rest`: what waited is one of the rest, or of the other places, or waits still. Those that wait become fewer.
use Rattle.std.proofs.Common.{◌≡◌, ◌<◌, ◌||◌, ℕ, true, false, length}
use Rattle.std.specs.Prelude.{All}
use Rattle.zk_follow.specs.Following.{is_among}
use Rattle.zk_follow.proofs.queue.take_rest.Given as goal

-- none is lost
abbrev pub invariant-loop-place : goal.invariant-loop-place
invariant-loop-place g l = record {
  below : All (λ at. at < l.count) l.all.items;
  apart : (at : ℕ) → is_among at l.all.items ≡ true → is_among at l.places ≡ false;
  has : (at : ℕ) → at < l.count → is_among at l.fn.waiting.items ≡ true
      → ((is_among at l.all.items || is_among at l.places) || is_among at l.waiting.items) ≡ true;
}

abbrev pub decreases-loop-place : goal.decreases-loop-place
decreases-loop-place g l = length l.waiting.items
