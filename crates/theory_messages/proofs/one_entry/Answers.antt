-- The invariant holds at the start (`first_entry`), is kept by each entry (`entry_here`), and gives coherence (`sim_coherent`).
use Rattle.zk_laws.specs.Served.{WasSent}
use Rattle.zk_laws.proofs.Headlines.{sim_coherent}
use Rattle.zk_laws.proofs.Moving.{first_entry, entry_here}
use Rattle.theory_messages.proofs.one_entry.Goals as goal

pub returns-clause-begins : goal.returns-clause-begins
returns-clause-begins c h is start = first_entry h is start

pub returns-clause-goes_on : goal.returns-clause-goes_on
returns-clause-goes_on c h is start entry earlier asked may s = entry_here h is start entry earlier asked may s

pub returns-clause-coherent : goal.returns-clause-coherent
returns-clause-coherent c h is start entries items view wire s sim = sim_coherent h is start (WasSent entries) items view wire s sim
