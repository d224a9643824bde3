-- The law is `watches_one`.
use Rattle.zk_contend.proofs.Watches.{watches_one}
use Rattle.zk_contend.proofs.laws.rivals.Goals as goal

pub returns : goal.returns
returns g c = watches_one
