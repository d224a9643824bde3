-- At each stage the nodes are those that the place says, so none is there once it has left: `nothing_is_left`, `one_is_there`,
-- `given_up_asks`.
use Rattle.zk_contend.proofs.Stages.{nothing_is_left, one_is_there, given_up_asks}
use Rattle.zk_contend.proofs.laws.nothing_left.Goals as goal

pub returns-clause-one : goal.returns-clause-one
returns-clause-one g c = one_is_there

pub returns-clause-asks : goal.returns-clause-asks
returns-clause-asks g c = given_up_asks

pub returns-clause-left : goal.returns-clause-left
returns-clause-left g c = nothing_is_left
