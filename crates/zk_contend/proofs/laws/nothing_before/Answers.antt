-- The law is `nothing_before`.
use Rattle.zk_contend.proofs.Moments.{nothing_before}
use Rattle.zk_contend.proofs.laws.nothing_before.Goals as goal

pub returns : goal.returns
returns g c = nothing_before _
