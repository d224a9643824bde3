-- The loop over the places: `last` is the last rival before `own` in the names so far, or none is there. At the end these are all names.
use Rattle.zk_conclusions.specs.Kinds.{kind_of}
use Rattle.zk_conclusions.specs.inner.Predecessors.{Found}
use Rattle.zk_conclusions.proofs.listing.last_before.Given as goal

-- what was found so far
abbrev pub invariant-loop-place : goal.invariant-loop-place
invariant-loop-place g l = Found (kind_of l.kind) l.names l.own l.place l.last
