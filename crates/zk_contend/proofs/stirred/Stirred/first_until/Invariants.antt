-- The loop over those that are looked at: `first` is the first moment of those so far.
use Rattle.std.proofs.Common.{◌≡◌, nat_eq, take}
use Rattle.indexmap.specs.IndexMap.{get}
use Rattle.zk_contend.specs.inner.Stirred.{first_of}
use Rattle.zk_contend.proofs.stirred.Stirred.first_until.Given as goal

-- of those so far
abbrev pub invariant-loop-place : goal.invariant-loop-place
invariant-loop-place g l = l.first ≡ first_of (get nat_eq l.all) (take l.place l.self.awake.items)
