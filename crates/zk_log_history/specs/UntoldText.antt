-- What is said of entries that are no transactions.
use Rattle.std.specs.Prelude.{ℕ, List, ◌++◌, codes}
use Rattle.zk_nodes.specs.FaultText.{path_fault_words}
use Rattle.zk_log.specs.FaultText.{entry_fault_words}
use Rattle.zk_log_history.specs.declared.untold.Untold.{Untold}
use Rattle.zk_log_history.specs.declared.untold.Untold.TheVariants as untold

abbrev pub untold_words : Untold → List ℕ
untold_words (untold.Path fault) = codes "a path: " ++ path_fault_words fault
untold_words (untold.Part fault) = codes "a part of a multi: " ++ entry_fault_words fault
untold_words untold.Order = codes "its zxid is not above the one before"
untold_words untold.Missing = codes "transactions before it are not in the logs"
untold_words untold.Illegal = codes "the tree as it stands does not admit a change"
untold_words untold.Memory = codes "out of memory"
