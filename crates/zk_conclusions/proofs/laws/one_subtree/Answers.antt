-- The law is `one_subtree_here`: what is kept whole is true, and each node below the root is reached, by induction on the names below it.
use Rattle.zk_conclusions.proofs.Reached.{one_subtree_here}
use Rattle.zk_conclusions.proofs.laws.one_subtree.Goals as goal

pub returns : goal.returns
returns c = one_subtree_here
