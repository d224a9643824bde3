-- The last seen zxid is the greatest that counts: `is_last_seen`, by induction over what happened; messages alone bring new ones.
use Rattle.zk_turns.proofs.last_seen.Goals as goal
use Rattle.zk_turns.proofs.Meant.{is_last_seen}

pub returns : goal.returns
returns c start past = is_last_seen start past
