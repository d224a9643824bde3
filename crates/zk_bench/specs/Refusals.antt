-- Why a request gets no result.
use Rattle.zk_jute.specs.declared.fault.PutError.TheVariants as put_errors
use Rattle.zk_jute.specs.declared.fault.TakeError.TheVariants as take_errors
use Rattle.zk_nodes.specs.declared.path_fault.PathFault.TheVariants as path_faults
use Rattle.zk_records.specs.declared.code.Code.TheVariants as codes
use Rattle.zk_history.specs.declared.history_fault.HistoryFault.{HistoryFault}
use Rattle.zk_history.specs.declared.history_fault.HistoryFault.TheVariants.{Place, Order, Illegal, Memory}
use Rattle.zk_bench.specs.declared.stop.Stop.{Stop}
use Rattle.zk_bench.specs.declared.stop.Stop.TheVariants as stops
use Rattle.zk_bench.specs.declared.stop.Refusal.TheVariants as refusals

-- what a fault of the history makes of the connection
abbrev pub stop_of : HistoryFault → Stop
stop_of Place = stops.End
stop_of Order = stops.End
stop_of Illegal = stops.End
stop_of Memory = stops.Memory
