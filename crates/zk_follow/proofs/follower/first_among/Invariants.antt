-- The loop over the places: `first` is the first of those before the index, and not before the first of all. At the end it is that.
use Rattle.std.proofs.Common.{◌≡◌, take}
use Rattle.zk_follow.specs.Following.{first_again, first_of}
use Rattle.zk_follow.proofs.Again.{IsFirstOf}
use Rattle.zk_follow.proofs.follower.first_among.Given as goal

-- the first of those so far
abbrev pub invariant-loop-place : goal.invariant-loop-place
invariant-loop-place g l = record {
  least : IsFirstOf l.first l.subjects (take l.place-index l.places);
  above : first_of l.first (first_again l.subjects) ≡ first_again l.subjects;
}
