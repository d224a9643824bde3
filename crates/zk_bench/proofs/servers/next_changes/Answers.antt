-- The transaction at this place has the next changes (`next_are`), within the history (`is_room`), below 2^63 as zxids rise (`few`).
use Rattle.zk_history.specs.HistoryView.{history_of}
use Rattle.zk_bench.proofs.Continuing.{few}
use Rattle.zk_bench.proofs.Placed.{next_are, is_room}
use Rattle.zk_bench.proofs.servers.next_changes.Goals as goal

pub returns-in-Some-clause-small : goal.returns-in-Some-clause-small
returns-in-Some-clause-small g c = few _ c.args.taken _ c.last_zxid-last.ensures.history.rising c.in-Some.ensures

pub returns-in-Some-clause-changes : goal.returns-in-Some-clause-changes
returns-in-Some-clause-changes g c = next_are (history_of c.args.history.now) c.args.taken _ c.in-Some.ensures

pub returns-in-Some-clause-room : goal.returns-in-Some-clause-room
returns-in-Some-clause-room g c = is_room c.args.history.now.transactions c.args.taken _ c.in-Some.ensures
