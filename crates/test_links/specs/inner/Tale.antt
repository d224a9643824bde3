-- The history that the servers in memory go through while they are watched.
use Rattle.std.specs.Prelude.{ℕ, pos, List, codes, Some}
use Rattle.zk_nodes.specs.History.{Sets}
use Rattle.zk_nodes.specs.Path.{path_of}
use Rattle.zk_history.specs.HistoryView.{empty_kept, with_change, with_node, with_transaction, HistoryView}

-- the data of the node are set by one more transaction, at this time
abbrev pub then_set : (zxid time : ℕ) → List ℕ → HistoryView → HistoryView
then_set zxid time bytes kept = with_change (with_transaction kept zxid (pos time)) (Sets (path_of (codes "/config")) (Some bytes))

-- a node, in the first transaction
abbrev pub begun : HistoryView
begun = with_node empty_kept (path_of (codes "/config")) (Some (codes "one")) (pos 1000)

abbrev pub told : HistoryView
told =
    then_set 8 8000 (codes "five") (then_set 7 7000 (codes "four") (then_set 6 6000 (codes "three") (then_set 5 5000 (codes "two") begun)))
