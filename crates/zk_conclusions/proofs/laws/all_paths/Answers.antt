-- The law is `paths_are_all`: what is reached has a node, and what has a node is reached, both by `one_subtree_here`.
use Rattle.zk_conclusions.proofs.Reached.{paths_are_all}
use Rattle.zk_conclusions.proofs.laws.all_paths.Goals as goal

pub returns : goal.returns
returns c = paths_are_all
