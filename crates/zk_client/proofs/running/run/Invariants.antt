-- The loop over the inputs: the turns so far led here, and the outside tells them. `ended` and `halted` need no more.
use Rattle.zk_client.specs.Clients.{view_of}
use Rattle.zk_client.proofs.Holding.{HasCome}
use Rattle.zk_client.proofs.running.run.Given as goal

-- the turns so far led here, and the outside tells them
abbrev pub invariant-loop-input : goal.invariant-loop-input
invariant-loop-input g l = HasCome (view_of l.fn.client) (view_of l.client) (g.O.Outside.told l.fn.outside) (g.O.Outside.told l.outside)

-- what is still to come
abbrev pub decreases-loop-input : goal.decreases-loop-input
decreases-loop-input g l = g.O.Outside.bound l.outside
