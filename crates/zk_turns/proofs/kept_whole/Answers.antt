-- Good data came of a getData whose watch still stands (`has_data`), and such a reply is what is kept (`data_kept`).
use Rattle.zk_turns.proofs.kept_whole.Goals as goal
use Rattle.zk_turns.proofs.Meant.{has_data, data_kept}

pub returns : goal.returns
returns c path bytes fields past = (has_data path bytes fields past, data_kept path bytes fields past)
