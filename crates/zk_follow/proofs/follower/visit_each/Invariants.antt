-- The loop over the places: those before the index were visited, so that they are followed, and from the last of them on all are as they
-- were. The client was only asked reads.
use Rattle.std.proofs.Common.{◌≡◌, ◌≤◌, ◌<◌, ◌⊎◌, ℕ, true, get_or, length, take}
use Rattle.std.specs.Prelude.{All}
use Rattle.zk_client.specs.Clients.{view_of}
use Rattle.zk_client.specs.Views.{said}
use Rattle.zk_follow.specs.declared.reads.TheConstants.{MOST_READS}
use Rattle.zk_follow.specs.declared.subject.Subject.{Subject}
use Rattle.zk_follow.specs.Following.{how_many_reading, is_among, IsCounted, IsFollowed}
use Rattle.zk_follow.specs.inner.Following.{AreSeen, Asks, Reads}
use Rattle.zk_follow.specs.inner.Places.{AreSameBut}
use Rattle.zk_follow.proofs.Skipping.{start_of}
use Rattle.zk_follow.proofs.Visiting.{SameFrom}
use Rattle.zk_follow.proofs.follower.visit_each.Given as goal

-- those before the index are followed
abbrev pub invariant-loop-place : goal.invariant-loop-place
invariant-loop-place g l = record {
  asks : Asks (view_of l.fn.client) (view_of l.client);
  size : length l.subjects ≡ length l.fn.subjects;
  followed : (k : ℕ) (d : Subject _) → k < length l.fn.subjects
      → (is_among k (take l.place-index l.places) ≡ true) ⊎ IsFollowed l.now (view_of l.fn.client) l.fn.reads (get_or l.fn.subjects k d)
      → IsFollowed l.now (view_of l.client) l.reads (get_or l.subjects k d);
  counted : All (IsCounted (view_of l.client)) l.subjects;
  seen : AreSeen l.now l.fn.subjects l.subjects;
  same : SameFrom (start_of l.places l.place-index) l.subjects l.fn.subjects;
  made : Reads l.fn.subjects (view_of l.fn.client) (said l.fn.made.items) (view_of l.client) (said l.made.items) l.reads;
  count : l.reads ≡ how_many_reading l.subjects;
  room : (l.reads ≡ l.fn.reads) ⊎ (l.reads ≤ MOST_READS);
  left : AreSameBut l.places l.fn.subjects l.subjects;
}
