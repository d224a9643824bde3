-- The law is `first_stays`: a rival before the node was made no later, since numbers rise, so it was before it at the listing already.
use Rattle.zk_conclusions.proofs.Stays.{first_stays}
use Rattle.zk_conclusions.proofs.laws.first_stays.Goals as goal

pub returns : goal.returns
returns c = first_stays
