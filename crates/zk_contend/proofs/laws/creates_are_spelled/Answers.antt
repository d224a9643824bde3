-- The law is `spells_creates`.
use Rattle.zk_contend.proofs.Acls.{spells_creates}
use Rattle.zk_contend.proofs.laws.creates_are_spelled.Goals as goal

pub returns : goal.returns
returns c = spells_creates
