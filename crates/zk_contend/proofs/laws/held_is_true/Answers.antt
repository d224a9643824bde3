-- The law is `held_here`.
use Rattle.zk_contend.proofs.Helds.{held_here}
use Rattle.zk_contend.proofs.laws.held_is_true.Goals as goal

pub returns : goal.returns
returns g c = held_here
