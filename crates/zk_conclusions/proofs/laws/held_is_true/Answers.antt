-- The law is `held_here`: the good answers about the node and the directory fit the tree at the last seen zxid.
use Rattle.zk_conclusions.proofs.Holding.{held_here}
use Rattle.zk_conclusions.proofs.laws.held_is_true.Goals as goal

pub returns : goal.returns
returns c = held_here
