-- The loop over the paths: at its end none is left, so the subjects are the old ones, then this side of each path.
use Rattle.std.proofs.Common.{◌≡◌, ◌++◌, drop}
use Rattle.zk_trees.specs.Trees.{aims_at}
use Rattle.zk_trees.specs.Trees.{aims_of}
use Rattle.zk_trees.proofs.wanting.add_each.Given as goal

-- what was added, with what is left to be added
abbrev pub invariant-loop-path : goal.invariant-loop-path
invariant-loop-path g l =
    aims_of l.subjects.items ++ aims_at l.side (drop l.path-index l.paths) ≡ aims_of l.initial.subjects.items ++ aims_at l.side l.paths
