-- Each ticket at which there is a contender is among the keys (`stirs_all`).
use Rattle.zk_contend.proofs.Collected.{stirs_all}
use Rattle.zk_contend.proofs.collection.Contenders.renew.Goals as goal

pub returns-clause-stirs : goal.returns-clause-stirs
returns-clause-stirs g c = stirs_all _ c.add_all.result c.add_all.ensures.awake c.add_all.ensures.untold
