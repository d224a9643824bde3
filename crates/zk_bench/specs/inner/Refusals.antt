-- What contracts of private functions say: nobody has to believe it.
use Rattle.std.specs.Prelude.{⊤}
use Rattle.zk_jute.specs.declared.fault.PutError.{PutError}
use Rattle.zk_jute.specs.declared.fault.TakeError.{TakeError}
use Rattle.zk_nodes.specs.declared.path_fault.PathFault.{PathFault}
use Rattle.zk_records.specs.declared.request_fault.RequestFault.{RequestFault}
use Rattle.zk_records.specs.declared.request_fault.RequestFault.TheVariants.{Unknown, Unread}
use Rattle.zk_history.specs.declared.history_fault.HistoryFault.TheVariants.{Memory}
use Rattle.zk_bench.specs.declared.stop.Stop.{Stop}
use Rattle.zk_bench.specs.declared.stop.Refusal.{Refusal}
use Rattle.zk_jute.specs.declared.fault.PutError.TheVariants as put_errors
use Rattle.zk_jute.specs.declared.fault.TakeError.TheVariants as take_errors
use Rattle.zk_nodes.specs.declared.path_fault.PathFault.TheVariants as path_faults
use Rattle.zk_records.specs.declared.code.Code.TheVariants as codes
use Rattle.zk_bench.specs.declared.stop.Stop.TheVariants as stops
use Rattle.zk_bench.specs.declared.stop.Refusal.TheVariants as refusals

-- the request is answered by a code
abbrev pub IsCode : Refusal → Type 0
IsCode (refusals.Code code) = ⊤
IsCode (refusals.Stop stop) = ⊥

-- what a payload that can't be written makes of it
abbrev pub stop_of_put : PutError → Stop
stop_of_put put_errors.TooLong = stops.End
stop_of_put put_errors.Memory = stops.Memory

-- what a payload that can't be read makes of it
abbrev pub stop_of_take : TakeError → Stop
stop_of_take take_errors.Memory = stops.Memory
stop_of_take fault = stops.End

abbrev pub stop_of_request : RequestFault → Stop
stop_of_request (Unknown number) = stops.End
stop_of_request (Unread fault) = stop_of_take fault

-- why a write at a text that is no path gets no result
abbrev pub refusal_of_path : PathFault → Refusal
refusal_of_path path_faults.Memory = refusals.Stop stops.Memory
refusal_of_path fault = refusals.Code codes.BadArguments
