-- In one tree by `one_stands`: of two first rivals neither is before the other, so they are one. Of clients by `one_shows_standing`.
use Rattle.zk_conclusions.proofs.Stays.{one_stands}
use Rattle.zk_conclusions.proofs.Stands.{one_shows_standing}
use Rattle.zk_conclusions.proofs.laws.one_standing.Goals as goal

pub returns-clause-tree : goal.returns-clause-tree
returns-clause-tree c = one_stands

pub returns-clause-clients : goal.returns-clause-clients
returns-clause-clients c = one_shows_standing
