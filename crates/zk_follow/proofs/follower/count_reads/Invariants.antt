-- The loop over the places: `reads` counts those up to the last one. At the end it counts all.
use Rattle.std.proofs.Common.{◌≡◌, ◌≤◌, take}
use Rattle.zk_follow.specs.Following.{how_many_reading}
use Rattle.zk_follow.proofs.Skipping.{start_of}
use Rattle.zk_follow.proofs.follower.count_reads.Given as goal

-- those up to the last place are counted
abbrev pub invariant-loop-place : goal.invariant-loop-place
invariant-loop-place g l = record {
  count : l.reads ≡ how_many_reading (take (start_of l.places l.place-index) l.subjects);
  few : l.reads ≤ l.place-index;
}
