-- What is said of a history's fault, in words and by its code.
use Rattle.std.specs.Prelude.{codes}
use Rattle.zk_nodes.specs.Path.{Text}
use Rattle.zk_history.specs.declared.history_fault.HistoryFault.{HistoryFault}
use Rattle.zk_history.specs.declared.history_fault.HistoryFault.TheVariants as history

abbrev pub history_fault_words : HistoryFault → Text
history_fault_words history.Place = codes "a node of the first tree comes after the first transaction, or a change before it"
history_fault_words history.Order = codes "a zxid is below 1, or not above the one before"
history_fault_words history.Illegal = codes "the tree as it stands does not admit the node or the change"
history_fault_words history.Memory = codes "out of memory"

abbrev pub history_fault_code : HistoryFault → Text
history_fault_code history.Place = codes "H1"
history_fault_code history.Order = codes "H2"
history_fault_code history.Illegal = codes "H3"
history_fault_code history.Memory = codes "H4"
