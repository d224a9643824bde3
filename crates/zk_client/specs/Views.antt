-- What goes in and comes out, without where it lies in memory.
use Rattle.std.specs.Prelude.{List, map, string_bytes}
use Rattle.std.specs.Option.{option_map}
use Rattle.zk_records.specs.Codes.{code_number}
use Rattle.zk_conversation.specs.Results.{Result, Found, Read, Listing, Made, Done, Brought}
use Rattle.zk_conversation.specs.Views.{call_view, code_result}
use Rattle.zk_turns.specs.Turns as turns
use Rattle.zk_client.specs.declared.call_result.CallResult.{CallResult}
use Rattle.zk_client.specs.declared.call_result.CallResult.TheVariants as result
use Rattle.zk_client.specs.declared.fault.Fault.{Fault}
use Rattle.zk_client.specs.declared.fault.Fault.TheVariants as fault
use Rattle.zk_client.specs.declared.input.Input.{Input}
use Rattle.zk_client.specs.declared.input.Input.TheVariants as input
use Rattle.zk_client.specs.declared.output.Outcome.{Outcome}
use Rattle.zk_client.specs.declared.output.Outcome.TheVariants as outcome
use Rattle.zk_client.specs.declared.output.Output.{Output}
use Rattle.zk_client.specs.declared.output.Output.TheVariants as output

abbrev pub call_result_view : {A : Type 0} → CallResult A → Result
call_result_view (result.Code code) = code_result (code_number code)
call_result_view (result.Stat stat) = Found stat
call_result_view (result.Data bytes stat) = Read (option_map (λ v. v.items) bytes) stat
call_result_view (result.Names names stat) = Listing names stat
call_result_view (result.Created path) = Made (string_bytes path)
call_result_view result.Done = Done
call_result_view (result.Raw bytes) = Brought bytes.items

abbrev pub fault_view : Fault → turns.Fault
fault_view (fault.Framed why) = turns.Framed why
fault_view (fault.Talked why) = turns.Talked why
fault_view fault.Silent = turns.Silent
fault_view (fault.Behind seen came) = turns.Behind seen came
fault_view (fault.WatchesRefused code) = turns.WatchesRefused code

abbrev pub outcome_view : {A : Type 0} → Outcome A → turns.Outcome
outcome_view (outcome.Replied zxid result) = turns.Replied zxid (call_result_view result)
outcome_view outcome.ConnectionLoss = turns.ConnectionLoss
outcome_view outcome.SessionExpired = turns.SessionExpired
outcome_view outcome.SessionClosed = turns.SessionClosed
outcome_view outcome.NotConnected = turns.NotConnected
outcome_view outcome.TooManyWatches = turns.TooManyWatches
outcome_view outcome.TooLarge = turns.TooLarge
outcome_view outcome.TooManyPending = turns.TooManyPending

abbrev pub output_view : {A : Type 0} → Output A → turns.Output
output_view (output.Send bytes) = turns.Send bytes.items
output_view (output.Answer ticket outcome) = turns.Answer ticket (outcome_view outcome)
output_view (output.Report path side event) = turns.Report (string_bytes path) side event
output_view (output.State state) = turns.Enters state
output_view (output.Drop fault) = turns.Drop (fault_view fault)

-- the outputs of a list
abbrev pub said : {A : Type 0} → List (Output A) → List turns.Output
said outputs = map output_view outputs

abbrev pub input_view : {A : Type 0} → Input A → turns.Input
input_view input.Opened = turns.Opened
input_view (input.Bytes bytes) = turns.Bytes bytes.items
input_view input.Cut = turns.Cut
input_view (input.Now moment) = turns.Now moment
input_view (input.Call ticket asked) = turns.Call ticket (call_view asked)

-- an input with the outputs that it gave
abbrev pub turn_of : {A : Type 0} → Input A → List (Output A) → turns.Turn
turn_of input outputs = record { input = input_view input; outputs = said outputs }
