-- In one tree by `one_holds`: of two first names neither is before the other, so they are one. Of clients by `one_shows`, at one zxid.
use Rattle.zk_conclusions.proofs.Holding.{one_holds, one_shows}
use Rattle.zk_conclusions.proofs.laws.one_holder.Goals as goal

pub returns-clause-tree : goal.returns-clause-tree
returns-clause-tree c = one_holds

pub returns-clause-clients : goal.returns-clause-clients
returns-clause-clients c = one_shows
