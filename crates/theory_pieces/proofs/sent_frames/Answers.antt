-- What an open connection was sent is what was due: `sent_is`, by an invariant of past and outputs that each happening keeps.
use Rattle.theory_pieces.proofs.sent_frames.Goals as goal
use Rattle.zk_turns.proofs.Sending.{sent_is}

pub returns : goal.returns
returns c = sent_is
