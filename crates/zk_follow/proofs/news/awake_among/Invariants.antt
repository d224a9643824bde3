-- The loop over the places: of those before the index each is still that is not awake, and quiet if it does not wait. At the end all were
-- gone over.
use Rattle.std.proofs.Common.{◌≡◌, ◌<◌, ◌||◌, ℕ, true, false, get_or, length, take}
use Rattle.zk_client.specs.Clients.{view_of}
use Rattle.zk_follow.specs.declared.subject.Subject.{Subject}
use Rattle.zk_follow.specs.Following.{is_among, is_quiet, is_still}
use Rattle.zk_follow.proofs.news.awake_among.Given as goal

-- those so far
abbrev pub invariant-loop-place : goal.invariant-loop-place
invariant-loop-place g l = record {
  kept : (at : ℕ) → is_among at l.fn.waiting.items ≡ true → is_among at l.waiting.items ≡ true;
  still : (k : ℕ) (d : Subject _) → k < length l.subjects → is_among k (take l.place-index l.places) ≡ true
      → is_among k l.awake.items ≡ false → is_still (view_of l.client) (get_or l.subjects k d) ≡ true;
  quiet : (k : ℕ) (d : Subject _) → k < length l.subjects → is_among k (take l.place-index l.places) ≡ true
      → (is_among k l.awake.items || is_among k l.waiting.items) ≡ false → is_quiet (view_of l.client) (get_or l.subjects k d) ≡ true;
}
