-- The loop over the trees: those before the index are noted, and the rest are as they were. At the end all are noted.
use Rattle.std.proofs.Common.{◌≡◌, ◌++◌, drop, map, take}
use Rattle.zk_trees.specs.Tending.{noted_shown}
use Rattle.zk_trees.proofs.trees.note_each_shown.Given as goal

-- those before are noted, and those after it are as they were
abbrev pub invariant-loop-tree : goal.invariant-loop-tree
invariant-loop-tree g l = l.trees ≡ map (noted_shown l.ticket) (take l.tree-index l.fn.trees) ++ drop l.tree-index l.fn.trees
