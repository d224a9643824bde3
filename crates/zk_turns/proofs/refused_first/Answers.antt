-- The refusal is that of the first condition that applies: `first_of`, by the state of the session.
use Rattle.zk_turns.proofs.Refusing.{first_of}
use Rattle.zk_turns.proofs.refused_first.Goals as goal

pub returns : goal.returns
returns c view call = first_of view call
