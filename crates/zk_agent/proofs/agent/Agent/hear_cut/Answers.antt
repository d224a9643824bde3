-- The client hears the cut: the first half of what `step_client_once` ensures.
use Rattle.zk_agent.proofs.agent.Agent.hear_cut.Goals as goal

pub returns-clause-hears : goal.returns-clause-hears
returns-clause-hears g c = c.in_ok-_is_lost.ensures.hears.0
