-- The law is `waits_quietly`.
use Rattle.zk_contend.proofs.Waiting.{waits_quietly}
use Rattle.zk_contend.proofs.laws.waits_quietly.Goals as goal

pub returns : goal.returns
returns g c = waits_quietly
