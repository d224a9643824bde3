-- The loop over the places: those from the known ones on and before this one are awake. At the end all new ones are.
use Rattle.std.proofs.Common.{◌≡◌, ◌≤◌, ◌<◌, ℕ, true}
use Rattle.zk_follow.specs.Following.{is_among}
use Rattle.zk_follow.proofs.index.fit_all.Given as goal

-- those so far
abbrev pub invariant-loop-place : goal.invariant-loop-place
invariant-loop-place g l = record {
  had : (at : ℕ) → is_among at l.fn.awake.items ≡ true → is_among at l.awake.items ≡ true;
  woken : (at : ℕ) → l.known ≤ at → at < l.place → is_among at l.awake.items ≡ true;
}
