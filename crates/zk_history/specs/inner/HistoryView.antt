-- What contracts of private functions say: nobody has to believe it.
use Rattle.std.specs.Prelude.{ℕ}
use Rattle.zk_nodes.specs.Path.{NodePath}
use Rattle.zk_history.specs.Replay.{children_at}
use Rattle.zk_history.specs.HistoryView.{HistoryView}
use Rattle.std.specs.FinSet as set

-- how many children a path has in the newest tree
abbrev pub newest_count : HistoryView → NodePath → ℕ
newest_count kept path = set.len (children_at 9223372036854775808 path kept.transactions (children_at 0 path kept.nodes set.empty))
