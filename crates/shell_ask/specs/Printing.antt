-- What is printed and told of what came of a call.
use Rattle.std.specs.Prelude.{◌≡◌, ◌≢◌, ◌⊎◌, ⊤, ◌||◌, ◌&&◌, not, nat_eq, nat_le, ℕ, ℤ, Bool, true, false, if◌then◌else◌, List, [], ◌∷◌}
use Rattle.std.specs.Prelude.{◌++◌, chars, codes, Option, Some, None}
use Rattle.std.specs.Fmt.{signed_decimal}
use Rattle.std.specs.FinSet as set
use Rattle.std.specs.List.{flat_map, list_any, starts_with}
use Rattle.std.specs.Str.{is_utf8}
use Rattle.json.specs.Print.{print}
use Rattle.json.specs.Token as json
use Rattle.zk_nodes.specs.Names.{Names as NameSet}
use Rattle.zk_nodes.specs.Path.{Text}
use Rattle.zk_nodes.specs.declared.stat.Stat.{Stat}
use Rattle.zk_records.specs.Codes.{code_of}
use Rattle.zk_records.specs.declared.code.Code.{Code}
use Rattle.zk_records.specs.declared.code.Code.TheVariants as code
use Rattle.zk_conversation.specs.Calls.{Call, Exists, GetData, GetChildren}
use Rattle.zk_conversation.specs.Results.{Result, NoNode, Refused, Found, Read, Listing, Made, Brought}
use Rattle.zk_turns.specs.Turns.{Outcome, Replied, TooManyWatches, TooLarge, TooManyPending}
use Rattle.zk_client.specs.FaultText.{outcome_words}
use Rattle.script_words.specs.Values.{AreNames}
use Rattle.script_words.specs.Lines.{line}
use Rattle.script_words.specs.Words.{bytes_word, text_word}
use Rattle.shell_words.specs.Objects.{data_members, field_members, text_members}
use Rattle.shell_words.specs.Texts.{is_hidden, is_turning}
use Rattle.shell_ask.specs.declared.plan.Form.{Form}
use Rattle.shell_ask.specs.declared.plan.Form.TheVariants.{Plain, Hex, Raw, Quiet, Json}
use Rattle.shell_ask.specs.declared.end.CallEnd.{CallEnd}
use Rattle.shell_ask.specs.declared.end.CallEnd.TheVariants as ends
use Rattle.shell_ask.specs.Asking.{Coming, Answered, Late}

-- ---- what is printed

-- U+0000 to U+001F, U+007F to U+009F, and what turns the direction
abbrev pub is_control : ℕ → Bool
is_control c = (nat_le c 31 || (nat_le 127 c && nat_le c 159)) || is_turning c

-- what stands before hex if a text could
abbrev pub hex_mark : List ℕ
hex_mark = codes "hex:"

-- UTF-8 with no such character that does not begin as hex does
abbrev pub is_text : List ℕ → Bool
is_text bytes = is_utf8 bytes && not (list_any is_hidden (chars bytes) || starts_with nat_eq bytes hex_mark)

-- data as text if they are text, and else in hex with its mark; null data have no line
abbrev pub plain_data : Option (List ℕ) → List ℕ
plain_data None = []
plain_data (Some bytes) = (if is_text bytes then bytes else hex_mark ++ bytes_word (Some bytes)) ++ 10 ∷ []

abbrev pub data_text : Form → Option (List ℕ) → List ℕ
data_text Plain bytes = plain_data bytes
data_text Json bytes = plain_data bytes
data_text Raw bytes = plain_data bytes
data_text Hex bytes = bytes_word bytes ++ 10 ∷ []
data_text Quiet bytes = []

abbrev pub hex_line : List ℕ → List ℕ
hex_line bytes = bytes_word (Some bytes) ++ 10 ∷ []

-- a name or a path as it is, and if it has a control character or one that turns the direction, as a word of a script
abbrev pub name_text : Text → List ℕ
name_text name = if list_any is_control (chars name) then text_word (Some name) else name

abbrev pub name_line : Text → List ℕ
name_line name = name_text name ++ 10 ∷ []

-- the fields of a Stat by their names
abbrev pub fields : Stat → List (List ℕ × ℤ)
fields s =
    (codes "czxid", s.czxid)
    ∷ ((codes "mzxid", s.mzxid) ∷ ((codes "ctime", s.ctime) ∷ ((codes "mtime", s.mtime) ∷ ((codes "version", s.version)
    ∷ ((codes "cversion", s.cversion)
    ∷ ((codes "aversion", s.aversion) ∷ ((codes "ephemeralOwner", s.ephemeral_owner) ∷ ((codes "dataLength", s.data_length)
    ∷ ((codes "numChildren", s.num_children) ∷ ((codes "pzxid", s.pzxid) ∷ []))))))))))

abbrev pub field_lines : List (List ℕ × ℤ) → List ℕ
field_lines fields = flat_map (λ field. line field.0 (signed_decimal field.1)) fields

abbrev pub stat_lines : Form → Stat → List ℕ
stat_lines Quiet stat = []
stat_lines _ stat = field_lines (fields stat)

-- What is printed of a set of names: a line for each, once, in the order of their bytes.
pub record PrintsEach (line_of : Text → List ℕ) (names : NameSet) (text : List ℕ) : Type 0 where
  pub each : List Text
  pub are : AreNames each (set.contains names)
  pub printed : text ≡ flat_map line_of each

abbrev pub PrintsNames : NameSet → List ℕ → Type 0
PrintsNames names text = PrintsEach name_line names text

-- The path of a node that was made, below a chroot: without that where it begins with it.
abbrev pub IsBelow : (chroot path below : Text) → Type 0
IsBelow chroot path below = (path ≡ chroot ++ below) ⊎ (((rest : Text) → path ≢ chroot ++ rest) × (below ≡ path))

-- What is printed of a result in words. The names come each once, in the order of their bytes.
abbrev pub PrintsWords : Form → (chroot : Text) → Result → List ℕ → Type 0
PrintsWords form chroot (Read bytes stat) text = text ≡ data_text form bytes
PrintsWords form chroot (Found stat) text = text ≡ stat_lines form stat
PrintsWords form chroot (Listing names stat) text = PrintsNames (set.from_list names) text
PrintsWords form chroot (Made path) text = (below : Text) × IsBelow chroot path below × (text ≡ name_line below)
PrintsWords form chroot (Brought bytes) text = text ≡ hex_line bytes
PrintsWords form chroot _ text = text ≡ []

-- the line of an object of JSON with these members
abbrev pub object_line : List json.Token → List ℕ
object_line members = print (json.begin_object ∷ (members ++ json.end_object ∷ [])) ++ 10 ∷ []

-- data, and the fields of their node's Stat
abbrev pub read_line : Option (List ℕ) → Stat → List ℕ
read_line bytes stat = object_line (data_members bytes ++ field_members (fields stat))

abbrev pub fields_line : Stat → List ℕ
fields_line stat = object_line (field_members (fields stat))

abbrev pub text_line : (name text : List ℕ) → List ℕ
text_line name text = object_line (text_members name text)

-- What is printed of a result as JSON: an object a line.
abbrev pub PrintsObjects : (chroot : Text) → Result → List ℕ → Type 0
PrintsObjects chroot (Read bytes stat) text = text ≡ read_line bytes stat
PrintsObjects chroot (Found stat) text = text ≡ fields_line stat
PrintsObjects chroot (Listing names stat) text = PrintsEach (text_line (codes "name")) (set.from_list names) text
PrintsObjects chroot (Made path) text = (below : Text) × IsBelow chroot path below × (text ≡ text_line (codes "path") below)
PrintsObjects chroot (Brought bytes) text = text ≡ text_line (codes "hex") (bytes_word (Some bytes))
PrintsObjects chroot _ text = text ≡ []

-- the bytes that a result brings as data: none, if these are null
abbrev pub raw_bytes : Result → List ℕ
raw_bytes (Read (Some bytes) stat) = bytes
raw_bytes (Brought bytes) = bytes
raw_bytes _ = []

-- what is printed of a result
abbrev pub PrintsResult : Form → (chroot : Text) → Result → List ℕ → Type 0
PrintsResult Json chroot result text = PrintsObjects chroot result text
PrintsResult Raw chroot result text = text ≡ raw_bytes result
PrintsResult form chroot result text = PrintsWords form chroot result text

abbrev pub Prints : Form → (chroot : Text) → Coming → List ℕ → Type 0
Prints form chroot (Answered (Replied zxid result)) text = PrintsResult form chroot result text
Prints form chroot _ text = text ≡ []

-- ---- what is told

abbrev pub code_words : Code → List ℕ
code_words code.ConnectionLoss = codes "the server has lost its connection"
code_words code.Unimplemented = codes "the server does not know the request"
code_words code.BadArguments = codes "the path, the flags or the data are refused"
code_words code.NoNode = codes "no node"
code_words code.NoAuth = codes "the ACL does not admit it"
code_words code.BadVersion = codes "the node has another version"
code_words code.NoChildrenForEphemerals = codes "the parent is ephemeral"
code_words code.NodeExists = codes "the node is there"
code_words code.NotEmpty = codes "the node has children"
code_words code.SessionExpired = codes "the session is over"
code_words code.InvalidAcl = codes "the open ACL is refused"
code_words code.SessionMoved = codes "the session was taken up over another connection"
code_words (code.Other number) = codes "the server refuses it"

-- what it is, the path, and why
abbrev pub fault_line : (what name why : List ℕ) → List ℕ
fault_line what name why = what ++ (name ++ (codes ": " ++ (why ++ 10 ∷ [])))

abbrev pub refusal_words : ℤ → List ℕ
refusal_words number = code_words (code_of number) ++ (codes " (" ++ (signed_decimal number ++ codes ")"))

abbrev pub result_told : (name : Text) → Result → List ℕ
result_told name NoNode = codes "no node: " ++ (name ++ 10 ∷ [])
result_told name (Refused number) = fault_line (codes "refused: ") name (refusal_words number)
result_told name _ = []

-- whether a call that was not answered by a reply was refused by the client itself
abbrev pub is_refused : Outcome → Bool
is_refused TooManyWatches = true
is_refused TooLarge = true
is_refused TooManyPending = true
is_refused _ = false

-- whether a call changes nothing, whatever comes of it
abbrev pub is_read : Call → Bool
is_read (Exists path watch) = true
is_read (GetData path watch) = true
is_read (GetChildren path watch) = true
is_read _ = false

-- what a call met whose time is over, and why
abbrev pub late_told : (is_read was_sent was_accepted : Bool) → List ℕ × List ℕ
late_told is_read was_sent false = (codes "not connected: ", codes "no server has answered in time")
late_told true was_sent true = (codes "no answer: ", codes "its time is over")
late_told false true true = (codes "no answer: ", codes "its time is over, and it may or may not have happened")
late_told false false true = (codes "no answer: ", codes "its time is over, and it was not sent")

abbrev pub outcome_told : (name : Text) → Outcome → List ℕ
outcome_told name (Replied zxid result) = result_told name result
outcome_told name outcome = fault_line (if is_refused outcome then codes "refused: " else codes "no answer: ") name (outcome_words outcome)

-- what is told of a call, which may be a read
abbrev pub told : (is_read : Bool) → (name : Text) → Coming → List ℕ
told is_read name (Answered outcome) = outcome_told name outcome
told is_read name (Late was_sent was_accepted) =
    fault_line (late_told is_read was_sent was_accepted).0 name (late_told is_read was_sent was_accepted).1

-- ---- how it ends

abbrev pub result_end : Result → CallEnd
result_end NoNode = ends.NoNode
result_end (Refused number) = ends.Refused
result_end _ = ends.Done

abbrev pub outcome_end : Outcome → CallEnd
outcome_end (Replied zxid result) = result_end result
outcome_end outcome = if is_refused outcome then ends.Refused else ends.Unanswered

abbrev pub end_of : Coming → CallEnd
end_of (Answered outcome) = outcome_end outcome
end_of (Late was_sent false) = ends.Unconnected
end_of (Late was_sent true) = ends.Unanswered

-- it is told why a call is not done
abbrev pub IsToldEnd : CallEnd → Type 0
IsToldEnd ends.Done = ⊥
IsToldEnd ends.Memory = ⊥
IsToldEnd ends.Stream = ⊥
IsToldEnd _ = ⊤
