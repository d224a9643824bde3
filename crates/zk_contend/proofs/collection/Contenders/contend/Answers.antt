-- One more is looked at: `stirs_one`.
use Rattle.zk_contend.proofs.Collected.{stirs_one}
use Rattle.zk_contend.proofs.collection.Contenders.contend.Goals as goal

pub returns-clause-stirs : goal.returns-clause-stirs
returns-clause-stirs g c = stirs_one _ _ c.args.ticket c.in_default.ensures.awake c.in_default.ensures.untold
