-- Turns that tell no change keep what is good: `quiet_is_unchanged`. Where the number is the same, no turn told one: `same_number`.
use Rattle.zk_conclusions.proofs.Quiet.{quiet_is_unchanged}
use Rattle.zk_conclusions.proofs.Revised.{same_number}
use Rattle.zk_conclusions.proofs.laws.same_number.Goals as goal

pub returns-clause-quiet : goal.returns-clause-quiet
returns-clause-quiet c = quiet_is_unchanged

pub returns-clause-number : goal.returns-clause-number
returns-clause-number c = same_number
