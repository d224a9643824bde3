-- The law is `smaller_is_refused`: the greatest token stays at or above one that was taken, so a smaller one is not taken.
use Rattle.zk_fence.proofs.Fencing.{smaller_is_refused}
use Rattle.zk_fence.proofs.laws.smaller_is_refused.Goals as goal

pub returns : goal.returns
returns c = smaller_is_refused
