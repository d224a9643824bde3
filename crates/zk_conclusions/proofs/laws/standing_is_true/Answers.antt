-- The law is `standing_here`: the good answer about the node fits the tree, and who was first at the listing still is (`first_stays`).
use Rattle.zk_conclusions.proofs.Stands.{standing_here}
use Rattle.zk_conclusions.proofs.laws.standing_is_true.Goals as goal

pub returns : goal.returns
returns c = standing_here
