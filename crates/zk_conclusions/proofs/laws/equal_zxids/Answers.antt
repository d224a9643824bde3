-- The law is `one_zxid_here`: each good answer fits the tree at its client's last seen zxid, and the zxids are the same.
use Rattle.zk_conclusions.proofs.Looks.{one_zxid_here}
use Rattle.zk_conclusions.proofs.laws.equal_zxids.Goals as goal

pub returns : goal.returns
returns c = one_zxid_here
