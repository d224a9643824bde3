-- The loop over the members: those before the index are in it, and no others; at the end these are all.
use Rattle.std.proofs.Common.{take}
use Rattle.zk_trees.specs.inner.Trees.{IsIndexOf}
use Rattle.zk_trees.proofs.index.index_of.Given as goal

-- those so far are in the index
abbrev pub invariant-loop-one : goal.invariant-loop-one
invariant-loop-one g l = IsIndexOf l.index (take l.one-index l.members)
