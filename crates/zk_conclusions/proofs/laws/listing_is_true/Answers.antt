-- The law is `listing_here`: a reply to getChildren reads the tree at its zxid truly, so each name that is there is listed.
use Rattle.zk_conclusions.proofs.Listed.{listing_here}
use Rattle.zk_conclusions.proofs.laws.listing_is_true.Goals as goal

pub returns : goal.returns
returns c = listing_here
