-- What is shown of a frame in hex.
use Rattle.std.specs.Prelude.{◌≡◌, ℕ, ℤ, List, [], ◌++◌, length, codes, Option, Some, None, Ok, Err}
use Rattle.std.specs.Fmt.{signed_decimal}
use Rattle.hex.specs.Hex.{decode_of}
use Rattle.hex.specs.declared.error.FromHexError.{FromHexError}
use Rattle.zk_jute.specs.declared.fault.TakeError.{TakeError}
use Rattle.zk_jute.specs.declared.fault.TakeError.TheVariants as jute
use Rattle.zk_frames.specs.FaultText.{frame_fault_code}
use Rattle.zk_frames.specs.declared.fault.FrameFault.TheVariants as frame_faults
use Rattle.zk_jute.specs.Layout.{Layout, Value, ◌⨾◌}
use Rattle.zk_jute.specs.Spelling.{spelling, Fits}
use Rattle.zk_jute.specs.Reading.{reading}
use Rattle.zk_nodes.specs.StatLayout.{stat}
use Rattle.zk_records.specs.Layouts.{connect_request, reply_header, watcher_event, get_data_response, get_children_response}
use Rattle.zk_records.specs.Layouts.{get_children2_response, create_response}
use Rattle.zk_records.specs.Response.{Response, response_spelling, IsPayload, response_at}
use Rattle.zk_records.specs.Reply.{ReplyValue, ReplyFits, reply_spelling, reply_at}
use Rattle.zk_records.specs.declared.request_fault.RequestFault.TheVariants as request
use Rattle.zk_records.specs.Operations.{request_layout}
use Rattle.zk_records.specs.Asked.{Asked, asked_value, request_at}
use Rattle.script_words.specs.Words.{bytes_word, optional_boolean_word}
use Rattle.script_words.specs.Lines.{line}
use Rattle.script_replay.specs.FaultTexts.{take_error_text}
use Rattle.shell_commands.specs.declared.fault.ShowFault.{ShowFault}
use Rattle.shell_commands.specs.declared.fault.ShowFault.TheVariants.{Hex, Incomplete, Negative, TooLong, BytesAfter, Unknown, Reading}
use Rattle.shell_commands.specs.declared.fault.ShowFault.TheVariants.{Memory}
use Rattle.shell_commands.specs.declared.kind.FrameKind.{FrameKind}
use Rattle.shell_commands.specs.declared.kind.FrameKind.TheVariants.{Connect, Accepted, Request, Notice, ReplyExists, ReplySetData}
use Rattle.shell_commands.specs.declared.kind.FrameKind.TheVariants.{ReplyGetData, ReplyGetChildren, ReplyGetChildren2, ReplyCreate}
use Rattle.shell_commands.specs.declared.kind.FrameKind.TheVariants.{ReplyHeader}
use Rattle.shell_commands.specs.Frame.{payload_of}
use Rattle.shell_commands.specs.Names.{connect_names, reply_header_names, stat_names, get_data_names, get_children_names}
use Rattle.shell_commands.specs.Names.{get_children2_names, create_names, notice_names, request_names}
use Rattle.shell_commands.specs.Print.{Names, lines_of, frame_of, print_of}

-- The text is the print of a value whose spelling begins the payload: IsValue says which lines and which spelling a value of
-- the kind has, and which bytes may stand after it.
pub record Prints (IsValue : List ℕ → List ℕ → List ℕ → Type 0) (payload text : List ℕ) : Type 0 where
  pub lines : List ℕ
  pub spelled : List ℕ
  pub ignored : List ℕ
  pub value : IsValue lines spelled ignored
  pub begins : payload ≡ spelled ++ ignored
  pub printed : text ≡ print_of lines spelled ignored

-- a value that fits, of which this is the spelling and these are the lines
pub record IsShown {V : Type 0} (IsFit : V → Type 0) (spelling_of lines_of : V → List ℕ) (lines spelled : List ℕ) : Type 0 where
  pub value : V
  pub fits : IsFit value
  pub spells : spelled ≡ spelling_of value
  pub shows : lines ≡ lines_of value

-- a value of a layout, whose fields have these names
abbrev pub IsRecord : (layout : Layout) → Names → (lines spelled ignored : List ℕ) → Type 0
IsRecord layout names lines spelled ignored = IsShown (Fits layout) (spelling layout) (lines_of layout names) lines spelled

abbrev pub response_lines : Response → List ℕ
response_lines r =
    line (codes "protocolVersion") (signed_decimal r.front.0)
    ++ (line (codes "timeOut") (signed_decimal r.front.1.0) ++ (line (codes "sessionId") (signed_decimal r.front.1.1.0)
    ++ (line (codes "passwd") (bytes_word r.front.1.1.1) ++ line (codes "readOnly") (optional_boolean_word r.read_only))))

-- a response that the whole payload spells: if readOnly is missing, nothing stands after it
abbrev pub IsResponse : (payload lines spelled ignored : List ℕ) → Type 0
IsResponse payload lines spelled ignored =
    IsShown (λ response. IsPayload payload response ignored) response_spelling response_lines lines spelled

abbrev pub result_lines : (layout : Layout) → Names → Option (Value layout) → List ℕ
result_lines layout names None = []
result_lines layout names (Some value) = lines_of layout names value

abbrev pub reply_lines : (layout : Layout) → Names → ReplyValue layout → List ℕ
reply_lines layout names reply = lines_of reply_header reply_header_names reply.0 ++ result_lines layout names reply.1

-- a header, and with err 0 a value of a layout
abbrev pub IsReply : (layout : Layout) → Names → (lines spelled ignored : List ℕ) → Type 0
IsReply layout names lines spelled ignored = IsShown (ReplyFits layout) (reply_spelling layout) (reply_lines layout names) lines spelled

abbrev pub request_lines : Asked → List ℕ
request_lines asked = lines_of (request_layout asked.operation) (request_names asked.operation) (asked_value asked)

-- a request: its header, and the record of its type
abbrev pub IsRequest : (lines spelled ignored : List ℕ) → Type 0
IsRequest lines spelled ignored =
    IsShown (λ asked. Fits (request_layout asked.operation) (asked_value asked))
    (λ asked. spelling (request_layout asked.operation) (asked_value asked)) request_lines lines spelled

-- the values of a kind of payload
abbrev pub IsOf : FrameKind → List ℕ → List ℕ → List ℕ → List ℕ → Type 0
IsOf Connect payload = IsRecord connect_request connect_names
IsOf Accepted payload = IsResponse payload
IsOf Request payload = IsRequest
IsOf Notice payload = IsRecord (reply_header ⨾ watcher_event) notice_names
IsOf ReplyExists payload = IsReply stat stat_names
IsOf ReplySetData payload = IsReply stat stat_names
IsOf ReplyGetData payload = IsReply get_data_response get_data_names
IsOf ReplyGetChildren payload = IsReply get_children_response get_children_names
IsOf ReplyGetChildren2 payload = IsReply get_children2_response get_children2_names
IsOf ReplyCreate payload = IsReply create_response create_names
IsOf ReplyHeader payload = IsRecord reply_header reply_header_names

-- the fault that reading from left to right meets first in a payload of a kind
abbrev pub FailsWith : FrameKind → List ℕ → TakeError → Type 0
FailsWith Connect payload e = reading connect_request (length payload) payload ≡ Err e
FailsWith Accepted payload e = response_at (length payload) payload ≡ Err e
FailsWith Request payload e = request_at (length payload) payload ≡ Err (request.Unread e)
FailsWith Notice payload e = reading (reply_header ⨾ watcher_event) (length payload) payload ≡ Err e
FailsWith ReplyExists payload e = reply_at stat (length payload) payload ≡ Err e
FailsWith ReplySetData payload e = reply_at stat (length payload) payload ≡ Err e
FailsWith ReplyGetData payload e = reply_at get_data_response (length payload) payload ≡ Err e
FailsWith ReplyGetChildren payload e = reply_at get_children_response (length payload) payload ≡ Err e
FailsWith ReplyGetChildren2 payload e = reply_at get_children2_response (length payload) payload ≡ Err e
FailsWith ReplyCreate payload e = reply_at create_response (length payload) payload ≡ Err e
FailsWith ReplyHeader payload e = reading reply_header (length payload) payload ≡ Err e

-- a request's type that no operation has
abbrev pub IsUnknown : FrameKind → List ℕ → ℤ → Type 0
IsUnknown Request payload number = request_at (length payload) payload ≡ Err (request.Unknown number)
IsUnknown kind payload number = ⊥

abbrev pub IsPayloadFault : FrameKind → List ℕ → ShowFault → Type 0
IsPayloadFault kind payload (Reading e) = FailsWith kind payload e
IsPayloadFault kind payload (Unknown number) = IsUnknown kind payload number
IsPayloadFault kind payload fault = ⊥

pub record IsHexOf (bytes text : List ℕ) : Type 0 where
  pub decoded : decode_of text ≡ Ok bytes

pub record IsNotHex (text : List ℕ) : Type 0 where
  pub why : FromHexError
  pub refused : decode_of text ≡ Err why

-- If nothing is ignored, the frame that is printed is the frame that was read.
abbrev pub PrintsAgain : List ℕ → List ℕ → List ℕ → Type 0
PrintsAgain frame spelled ignored = ignored ≡ [] → frame_of spelled ≡ frame

-- The text in hex is one whole frame, and what is shown is the print of what its payload spells.
pub record ShowsFrame (kind : FrameKind) (hex text : List ℕ) : Type 0 where
  pub frame : List ℕ
  pub payload : List ℕ
  pub decoded : IsHexOf frame hex
  pub whole : payload_of frame ≡ Ok payload
  pub prints : Prints (IsOf kind payload) payload text
  pub again : PrintsAgain frame prints.spelled prints.ignored

-- The first fault that applies: of the text, of the frame that it means, or of the frame's payload.
pub data IsFault (kind : FrameKind) (hex : List ℕ) (fault : ShowFault) : Type 0 where
  no_hex : fault ≡ Hex → IsNotHex hex → IsFault kind hex fault
  no_frame : (frame : List ℕ) → IsHexOf frame hex → payload_of frame ≡ Err fault → IsFault kind hex fault
  no_payload : (frame payload : List ℕ)
      → IsHexOf frame hex → payload_of frame ≡ Ok payload → IsPayloadFault kind payload fault → IsFault kind hex fault

abbrev pub fault_text : ShowFault → List ℕ
fault_text Hex = codes "fault: hex"
fault_text Incomplete = codes "fault: incomplete frame"
fault_text Negative = codes "fault: " ++ frame_fault_code frame_faults.Negative
fault_text TooLong = codes "fault: " ++ frame_fault_code frame_faults.TooLong
fault_text BytesAfter = codes "fault: bytes after the frame"
fault_text (Unknown number) = codes "fault: unknown type " ++ signed_decimal number
fault_text (Reading e) = codes "fault: " ++ take_error_text e
fault_text Memory = codes "out of memory"
