-- The text of `Behind`: by what `write!` ensures, rewritten by the case.
use Rattle.zk_client.proofs.fault.FaultDisplay.fmt.Goals as goal

pub returns-in-Behind-clause-writes : goal.returns-in-Behind-clause-writes
returns-in-Behind-clause-writes g c = λ plain ok. rw c.in-Behind.is (c.write-in-Behind.ensures.writes plain ok)
