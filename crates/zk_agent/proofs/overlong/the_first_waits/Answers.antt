-- Once the connection is over the calls are answered in the order in which they wait: `first_lost`.
use Rattle.zk_agent.proofs.Oversized.{first_lost}
use Rattle.zk_agent.proofs.overlong.the_first_waits.Goals as goal

pub returns : goal.returns
returns c view = first_lost view.pending
