-- The law is `one_tree_here`: each path has a good answer, and that fits the tree at the last seen zxid (`data_fits`, `names_fit`).
use Rattle.zk_conclusions.proofs.Truths.{one_tree_here}
use Rattle.zk_conclusions.proofs.laws.one_tree.Goals as goal

pub returns : goal.returns
returns c = one_tree_here
