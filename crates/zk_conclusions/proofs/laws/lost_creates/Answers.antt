-- The law is `lost_are_listed`: a node with the tag was made by the last answer's zxid, so it was there at the listing (`made_before`).
use Rattle.zk_conclusions.proofs.Tags.{lost_are_listed}
use Rattle.zk_conclusions.proofs.laws.lost_creates.Goals as goal

pub returns : goal.returns
returns c = lost_are_listed
