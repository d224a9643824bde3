-- The loop over the places: those before the index are marked. At the end all are.
use Rattle.std.proofs.Common.{◌≡◌, ◌<◌, ℕ, true, false, get_or, length, take}
use Rattle.zk_follow.specs.Following.{is_among}
use Rattle.zk_follow.proofs.leaving.mark_each.Given as goal

-- those so far
abbrev pub invariant-loop-place : goal.invariant-loop-place
invariant-loop-place g l = record {
  size : length l.marks.items ≡ l.size;
  marked : (at : ℕ) → at < l.size → is_among at (take l.place-index l.places) ≡ true → get_or l.marks.items at false ≡ true;
}
