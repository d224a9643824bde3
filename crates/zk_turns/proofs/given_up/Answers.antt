-- A drop is among what happens exactly where one of its causes is there: `given_up`, each way by the signal; bytes and ticks
-- alone can bring one.
use Rattle.zk_turns.proofs.Ending
use Rattle.zk_turns.proofs.given_up.Goals as goal

pub returns : goal.returns
returns c view signal fault live = Ending.given_up view signal fault live
