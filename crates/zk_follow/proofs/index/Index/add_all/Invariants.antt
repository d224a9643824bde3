-- The loop over the subjects: those before the count are found. At the end all are.
use Rattle.std.proofs.Common.{◌<◌, ◌-◌, length}
use Rattle.zk_follow.specs.Places.{AreFound}
use Rattle.zk_follow.proofs.index.Index.add_all.Given as goal

-- those so far
abbrev pub invariant-loop-self : goal.invariant-loop-self
invariant-loop-self g l = record {
  sized : 0 < length l.self.keys.buckets.items;
  found : AreFound l.self l.subjects;
}

-- each adds one
abbrev pub decreases-loop-self : goal.decreases-loop-self
decreases-loop-self g l = length l.subjects - l.self.count
