-- The line of a frame: a function of its payload, its direction, its place there, and the requests before it.
use Rattle.std.specs.Prelude.{ℕ, ℤ, pos, negsuc, zero, suc, ◌==◌, Bool, true, false, if◌then◌else◌, List, [], ◌∷◌, ◌++◌, length, codes}
use Rattle.std.specs.Prelude.{Option, Some, None, Result, Ok, Err}
use Rattle.std.specs.Fmt.{decimal, signed_decimal}
use Rattle.zk_jute.specs.declared.fault.TakeError.{TakeError}
use Rattle.zk_jute.specs.FaultText.{take_error_words}
use Rattle.zk_jute.specs.Layout.{Value}
use Rattle.zk_jute.specs.Reading.{reading}
use Rattle.zk_nodes.specs.StatLayout.{stat}
use Rattle.zk_records.specs.declared.operation.Operation.{Operation}
use Rattle.zk_records.specs.declared.operation.Operation.TheVariants.{Create, Delete, Exists, GetData, SetData, GetChildren, Ping}
use Rattle.zk_records.specs.declared.operation.Operation.TheVariants.{GetChildren2, SetWatches, CloseSession}
use Rattle.zk_records.specs.declared.reply_header.ReplyHeader.{ReplyHeader}
use Rattle.zk_records.specs.declared.request_header.RequestHeader.{RequestHeader}
use Rattle.zk_records.specs.Layouts.{connect_request, create_request, set_watches, read_request, set_data_request, delete_request}
use Rattle.zk_records.specs.Layouts.{get_data_response, get_children_response, get_children2_response, create_response, watcher_event}
use Rattle.zk_records.specs.Layouts.{request_header, reply_header}
use Rattle.zk_records.specs.Operations.{operation_numbered}
use Rattle.zk_records.specs.Response.{Response, response_at}
use Rattle.script_words.specs.Words.{optional_boolean_word}
use Rattle.script_stream.specs.declared.asked.Topic.{Topic}
use Rattle.script_stream.specs.declared.asked.Topic.TheVariants.{Notice, Reply, Unasked}
use Rattle.script_stream.specs.declared.way.Way.{Way}
use Rattle.script_stream.specs.declared.way.Way.TheVariants.{Client, Server}
use Rattle.script_stream.specs.Asked.{topic_of}
use Rattle.script_stream.specs.Names.{code_name, type_name}
use Rattle.script_stream.specs.Records.{connect_labels, create_labels, created_labels, delete_labels, event_labels, get_children2_labels}
use Rattle.script_stream.specs.Records.{get_children_labels, get_data_labels, read_labels, set_data_labels, set_watches_labels, stat_labels}
use Rattle.script_stream.specs.Records.{words_of}
use Rattle.script_stream.specs.Ways.{way_mark}
use Rattle.script_stream.specs.Words.{named, numbered}

-- why bytes do not read, with the place in the payload
abbrev pub fault_told : TakeError → List ℕ
fault_told fault = named (codes "fault") (take_error_words fault)

-- the words of what is read, or why it does not read
abbrev pub read_told : {V : Type 0} → (V → List ℕ) → Result (V × List ℕ) TakeError → List ℕ
read_told words (Ok found) = words found.0
read_told words (Err fault) = fault_told fault

abbrev pub type_words : ℤ → List ℕ
type_words operation = numbered (codes "type") operation ++ 32 ∷ type_name operation

-- What stands after the header of a request: nothing is told of a type whose record is not read here.
abbrev pub body_by : Option Operation → ℕ → List ℕ → List ℕ
body_by None end bytes = []
body_by (Some Create) end bytes = read_told (words_of create_request create_labels) (reading create_request end bytes)
body_by (Some Delete) end bytes = read_told (words_of delete_request delete_labels) (reading delete_request end bytes)
body_by (Some Exists) end bytes = read_told (words_of read_request read_labels) (reading read_request end bytes)
body_by (Some GetData) end bytes = read_told (words_of read_request read_labels) (reading read_request end bytes)
body_by (Some SetData) end bytes = read_told (words_of set_data_request set_data_labels) (reading set_data_request end bytes)
body_by (Some GetChildren) end bytes = read_told (words_of read_request read_labels) (reading read_request end bytes)
body_by (Some Ping) end bytes = []
body_by (Some GetChildren2) end bytes = read_told (words_of read_request read_labels) (reading read_request end bytes)
body_by (Some SetWatches) end bytes = read_told (words_of set_watches set_watches_labels) (reading set_watches end bytes)
body_by (Some CloseSession) end bytes = []

abbrev pub body_told : ℤ → ℕ → List ℕ → List ℕ
body_told operation end bytes = body_by (operation_numbered operation) end bytes

abbrev pub request_words : RequestHeader → ℕ → List ℕ → List ℕ
request_words header end bytes = numbered (codes "xid") header.xid ++ (type_words header.operation ++ body_told header.operation end bytes)

abbrev pub asked_by : ℕ → Result (Value request_header × List ℕ) TakeError → List ℕ
asked_by end (Ok found) = request_words (record { xid = found.0.0; operation = found.0.1 }) end found.1
asked_by end (Err fault) = fault_told fault

abbrev pub asked_told : List ℕ → List ℕ
asked_told payload = asked_by (length payload) (reading request_header (length payload) payload)

abbrev pub response_words : Response → List ℕ
response_words r =
    numbered (codes "protocolVersion") r.front.0 ++ (numbered (codes "timeOut") r.front.1.0 ++ (numbered (codes "sessionId") r.front.1.1.0
    ++ named (codes "readOnly") (optional_boolean_word r.read_only)))

abbrev pub accepted_told : List ℕ → List ℕ
accepted_told payload = read_told response_words (response_at (length payload) payload)

-- What stands after the header of a reply that has a result.
abbrev pub result_by : Option Operation → ℕ → List ℕ → List ℕ
result_by None end bytes = []
result_by (Some Create) end bytes = read_told (words_of create_response created_labels) (reading create_response end bytes)
result_by (Some Delete) end bytes = []
result_by (Some Exists) end bytes = read_told (words_of stat stat_labels) (reading stat end bytes)
result_by (Some GetData) end bytes = read_told (words_of get_data_response get_data_labels) (reading get_data_response end bytes)
result_by (Some SetData) end bytes = read_told (words_of stat stat_labels) (reading stat end bytes)
result_by (Some GetChildren) end bytes =
    read_told (words_of get_children_response get_children_labels) (reading get_children_response end bytes)
result_by (Some Ping) end bytes = []
result_by (Some GetChildren2) end bytes =
    read_told (words_of get_children2_response get_children2_labels) (reading get_children2_response end bytes)
result_by (Some SetWatches) end bytes = []
result_by (Some CloseSession) end bytes = []

abbrev pub result_told : ℤ → ℕ → List ℕ → List ℕ
result_told operation end bytes = result_by (operation_numbered operation) end bytes

abbrev pub topic_words : Topic → List ℕ
topic_words Notice = codes " notice"
topic_words (Reply operation) = type_words operation
topic_words Unasked = codes " unasked"

abbrev pub code_words : ℤ → List ℕ
code_words err = numbered (codes "err") err ++ 32 ∷ code_name err

abbrev pub header_words : ReplyHeader → Topic → List ℕ
header_words header topic =
    numbered (codes "xid") header.xid ++ (topic_words topic ++ (numbered (codes "zxid") header.zxid ++ code_words header.err))

-- A notice has an event after its header, and a reply a result where its err is 0.
abbrev pub behind_told : Topic → ℤ → ℕ → List ℕ → List ℕ
behind_told Notice err end bytes = read_told (words_of watcher_event event_labels) (reading watcher_event end bytes)
behind_told (Reply operation) (pos zero) end bytes = result_told operation end bytes
behind_told (Reply operation) (pos (suc n)) end bytes = []
behind_told (Reply operation) (negsuc n) end bytes = []
behind_told Unasked err end bytes = []

abbrev pub answer_words : List RequestHeader → ReplyHeader → ℕ → List ℕ → List ℕ
answer_words asked header end bytes =
    header_words header (topic_of asked header.xid) ++ behind_told (topic_of asked header.xid) header.err end bytes

abbrev pub reply_by : List RequestHeader → ℕ → Result (Value reply_header × List ℕ) TakeError → List ℕ
reply_by asked end (Ok found) = answer_words asked (record { xid = found.0.0; zxid = found.0.1.0; err = found.0.1.1 }) end found.1
reply_by asked end (Err fault) = fault_told fault

abbrev pub reply_told : List RequestHeader → List ℕ → List ℕ
reply_told asked payload = reply_by asked (length payload) (reading reply_header (length payload) payload)

abbrev pub place_words : Way → ℕ → List ℕ
place_words way place = way_mark way ++ 32 ∷ decimal place

-- What a payload says. The first in each direction has no header.
abbrev pub frame_told : Way → (is_first : Bool) → List RequestHeader → List ℕ → List ℕ
frame_told Client true asked payload =
    codes " connect" ++ read_told (words_of connect_request connect_labels) (reading connect_request (length payload) payload)
frame_told Client false asked payload = asked_told payload
frame_told Server true asked payload = codes " connected" ++ accepted_told payload
frame_told Server false asked payload = reply_told asked payload

-- the direction, the place, how long the payload is, and what it says
abbrev pub frame_line : Way → (place : ℕ) → List RequestHeader → List ℕ → List ℕ
frame_line way place asked payload =
    place_words way place ++ (named (codes "length") (decimal (length payload)) ++ (frame_told way (place == 0) asked payload ++ 10 ∷ []))
