-- The loop of `take_first`: what was among the places is so, and what was so or waited is so or waits. Those that wait become fewer.
use Rattle.std.proofs.Common.{◌≡◌, ◌<◌, ◌||◌, ℕ, true, length}
use Rattle.std.specs.Prelude.{All}
use Rattle.zk_follow.specs.Following.{is_among}
use Rattle.zk_follow.proofs.queue.take_first.Given as goal

-- none is lost
abbrev pub invariant-loop-place : goal.invariant-loop-place
invariant-loop-place g l = record {
  below : All (λ at. at < length l.subjects) l.fn.places.items → All (λ at. at < length l.subjects) l.places.items;
  had : (at : ℕ) → at < length l.subjects → is_among at l.fn.places.items ≡ true → is_among at l.places.items ≡ true;
  kept : (at : ℕ) → at < length l.subjects → (is_among at l.fn.places.items || is_among at l.fn.waiting.items) ≡ true
      → (is_among at l.places.items || is_among at l.waiting.items) ≡ true;
}

abbrev pub decreases-loop-place : goal.decreases-loop-place
decreases-loop-place g l = length l.waiting.items
