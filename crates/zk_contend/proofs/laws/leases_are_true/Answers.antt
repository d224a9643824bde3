-- The laws are `lease_here`, `among_stays` and `one_is_first`.
use Rattle.zk_contend.proofs.Leasing.{lease_here, among_stays, one_is_first}
use Rattle.zk_contend.proofs.laws.leases_are_true.Goals as goal

pub returns-clause-is_true : goal.returns-clause-is_true
returns-clause-is_true c = lease_here

pub returns-clause-stays : goal.returns-clause-stays
returns-clause-stays c = among_stays

pub returns-clause-one : goal.returns-clause-one
returns-clause-one c = one_is_first
