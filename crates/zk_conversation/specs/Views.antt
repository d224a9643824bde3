-- What calls, questions and replies are, without where they lie in memory.
use Rattle.std.specs.Prelude.{ℕ, ℤ, negsuc, List, map, if◌then◌else◌}
use Rattle.std.specs.Option.{option_map}
use Rattle.std.specs.Ordering.{int_eq}
use Rattle.zk_conversation.specs.declared.call.Call.{Call as RustCall}
use Rattle.zk_conversation.specs.declared.call.Call.TheVariants as made
use Rattle.zk_conversation.specs.declared.call.CreateMode.{CreateMode}
use Rattle.zk_conversation.specs.declared.call.CreateMode.TheVariants.{Persistent, Ephemeral, PersistentSequential, EphemeralSequential}
use Rattle.zk_conversation.specs.declared.question.Question.{Question as RustQuestion}
use Rattle.zk_conversation.specs.declared.question.Question.TheVariants as kept
use Rattle.zk_conversation.specs.declared.awaited.Awaited.{Awaited}
use Rattle.zk_conversation.specs.declared.awaited.Waiting.{Waiting as RustWaiting}
use Rattle.zk_conversation.specs.declared.awaited.Waiting.TheVariants as waits
use Rattle.zk_conversation.specs.declared.arrival.Arrival.{Arrival}
use Rattle.zk_conversation.specs.declared.arrival.Arrival.TheVariants as arrival
use Rattle.zk_conversation.specs.Pending.{Pending, Waiting, Part_waits, Call_waits}
use Rattle.zk_conversation.specs.Arriving.{Arrived, Connected, Replied, Watches_set, Notice, Pong, Skipped}
use Rattle.zk_records.specs.Views.{lent_response_of}
use Rattle.zk_conversation.specs.declared.result.ReplyResult.{ReplyResult}
use Rattle.zk_conversation.specs.declared.result.ReplyResult.TheVariants as reply
use Rattle.zk_jute.specs.Lenient.{or_empty}
use Rattle.zk_records.specs.Codes.{code_number}
use Rattle.zk_conversation.specs.Results.{Result, NoNode, Refused, Found, Read, Listing, Made, Done, Brought}
use Rattle.zk_records.specs.declared.set_watches.SetWatchesRef.{SetWatchesRef}
use Rattle.zk_conversation.specs.Calls.{part_payload, Call, Exists, GetData, GetChildren, SetData, Create, Delete, Close, Raw}
use Rattle.zk_conversation.specs.Questions.{Question}
use Rattle.zk_conversation.specs.Questions as question

-- the flags of a create request
abbrev pub mode_number : CreateMode → ℕ
mode_number Persistent = 0
mode_number Ephemeral = 1
mode_number PersistentSequential = 2
mode_number EphemeralSequential = 3

abbrev pub call_view : {A : Type 0} → RustCall A → Call
call_view (made.Exists path watch) = Exists path watch
call_view (made.GetData path watch) = GetData path watch
call_view (made.GetChildren path watch) = GetChildren path watch
call_view (made.SetData path bytes version) = SetData path (option_map (λ v. v.items) bytes) version
call_view (made.Create path bytes mode) = Create path (option_map (λ v. v.items) bytes) (mode_number mode)
call_view (made.Delete path version) = Delete path version
call_view made.Close = Close
call_view (made.Raw operation body) = Raw operation body.items

abbrev pub question_view : {A : Type 0} → RustQuestion A → Question
question_view (kept.Exists path watch) = question.Exists path watch
question_view (kept.GetData path watch) = question.GetData path watch
question_view (kept.GetChildren path watch) = question.GetChildren path watch
question_view (kept.SetData path) = question.SetData path
question_view (kept.Create path) = question.Create path
question_view (kept.Delete path) = question.Delete path
question_view kept.Close = question.Close
question_view kept.Raw = question.Raw

-- an error code that is not 0
abbrev pub code_result : ℤ → Result
code_result code = if int_eq code (negsuc 100) then NoNode else Refused code

abbrev pub result_view : {A : Type 0} → ReplyResult A → Result
result_view (reply.Code code) = code_result (code_number code)
result_view (reply.Stat stat) = Found stat
result_view (reply.Data bytes stat) = Read (option_map (λ b. b.now) bytes) stat
result_view (reply.Names names stat) = Listing (map (λ name. or_empty (option_map (λ text. text.now) name.text)) names.items) stat
result_view (reply.Created path) = Made path.now
result_view reply.Done = Done
result_view (reply.Raw bytes) = Brought bytes.now

abbrev pub waiting_view : {A : Type 0} → RustWaiting A → Waiting
waiting_view (waits.Part last) = Part_waits last
waiting_view (waits.Call ticket asked) = Call_waits ticket (question_view asked)

abbrev pub pending_view : {A : Type 0} → Awaited A → Pending
pending_view awaited = record { xid = awaited.xid; waiting = waiting_view awaited.waiting }

abbrev pub arrival_view : {A : Type 0} → Arrival A → Arrived
arrival_view (arrival.Connected response) = Connected (lent_response_of response)
arrival_view (arrival.Reply ticket asked zxid result) = Replied ticket (question_view asked) zxid (result_view result)
arrival_view (arrival.WatchesSet last zxid err) = Watches_set last zxid err
arrival_view (arrival.Notice event path) = Notice event path.now
arrival_view arrival.Pong = Pong
arrival_view arrival.Skipped = Skipped

-- the payload of a part of setWatches
abbrev pub payload_of_part : SetWatchesRef → List ℕ
payload_of_part part = part_payload part.relative_zxid (map (λ s. s.now) part.data_watches.now) (map (λ s. s.now) part.exist_watches.now)
    (map (λ s. s.now) part.child_watches.now)
