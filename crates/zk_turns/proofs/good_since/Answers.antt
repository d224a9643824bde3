-- An answer is good exactly where a reply left a watch that nothing has ended since: `is_good_since`, for each side: one way by
-- induction over what happened, the other through what came since that reply.
use Rattle.zk_turns.proofs.good_since.Goals as goal
use Rattle.zk_turns.proofs.Meant.{is_good_since}

pub returns : goal.returns
returns c side path past = is_good_since side path past
