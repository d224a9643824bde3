-- What a reply holds, and how it is read: leniently, so that a null text is the empty text and a null list the empty
-- list. Null data stay null.
use Rattle.std.specs.Prelude.{ℕ, ℤ, pos, negsuc, List, map, Option, Ok, if◌then◌else◌}
use Rattle.std.specs.Prelude.{Result as Reading}
use Rattle.std.specs.Ordering.{int_eq}
use Rattle.zk_jute.specs.declared.fault.TakeError.{TakeError}
use Rattle.zk_jute.specs.Layout.{Layout, nothing, Value}
use Rattle.zk_jute.specs.Reading.{◌>>=◌, reading}
use Rattle.zk_nodes.specs.declared.stat.Stat.{Stat}
use Rattle.zk_nodes.specs.StatLayout.{stat}
use Rattle.zk_nodes.specs.Path.{Text}
use Rattle.zk_jute.specs.Lenient.{or_empty}
use Rattle.zk_records.specs.Layouts.{get_data_response, get_children2_response, create_response}
use Rattle.zk_records.specs.Response.{Response}
use Rattle.zk_conversation.specs.Questions.{Question, Exists, GetData, GetChildren, SetData, Create, Delete, Close, Raw}

-- what a reply holds: error code -101, another code that is not 0, or the record of its question; all that stands after the header,
-- where the caller has spelled what was asked
pub data Result : Type 0 where
  NoNode Done : Result
  Refused : (code : ℤ) → Result
  Found : Stat → Result
  Read : (bytes : Option (List ℕ)) → Stat → Result
  Listing : (names : List Text) → Stat → Result
  Made : (path : Text) → Result
  Brought : (bytes : List ℕ) → Result

abbrev pub texts_of : Option (List (Option (List ℕ))) → List Text
texts_of texts = map or_empty (or_empty texts)

-- the Stat of eleven numbers in wire order
abbrev pub stat_of : Value stat → Stat
stat_of v = record {
  czxid = v.0;
  mzxid = v.1.0;
  ctime = v.1.1.0;
  mtime = v.1.1.1.0;
  version = v.1.1.1.1.0;
  cversion = v.1.1.1.1.1.0;
  aversion = v.1.1.1.1.1.1.0;
  ephemeral_owner = v.1.1.1.1.1.1.1.0;
  data_length = v.1.1.1.1.1.1.1.1.0;
  num_children = v.1.1.1.1.1.1.1.1.1.0;
  pzxid = v.1.1.1.1.1.1.1.1.1.1;
}

-- what stands after the header of a reply with err 0, by its question
abbrev pub result_layout : Question → Layout
result_layout (Exists path watch) = stat
result_layout (GetData path watch) = get_data_response
result_layout (GetChildren path watch) = get_children2_response
result_layout (SetData path) = stat
result_layout (Create path) = create_response
result_layout (Delete path) = nothing
result_layout Close = nothing
result_layout Raw = nothing

-- the result of this record, which these bytes follow
abbrev pub result_from : (question : Question) → Value (result_layout question) → (behind : List ℕ) → Result
result_from (Exists path watch) value behind = Found (stat_of value)
result_from (GetData path watch) value behind = Read value.0 (stat_of value.1)
result_from (GetChildren path watch) value behind = Listing (texts_of value.0) (stat_of value.1)
result_from (SetData path) value behind = Found (stat_of value)
result_from (Create path) value behind = Made (or_empty value)
result_from (Delete path) value behind = Done
result_from Close value behind = Done
result_from Raw value behind = Brought behind

-- The record of a question, at the beginning of these bytes; what follows it is ignored, unless a caller has spelled the request.
unfoldable pub record_of : Question → (end : ℕ) → List ℕ → Reading Result TakeError
record_of question end bytes = reading (result_layout question) end bytes >>= λ found. Ok (result_from question found.0 found.1)

-- a reply with err other than 0 has no record, and what follows its header is ignored
abbrev pub result_of : Question → (err : ℤ) → (end : ℕ) → List ℕ → Reading Result TakeError
result_of question err end bytes =
    if int_eq err (pos 0) then record_of question end bytes
    else (if int_eq err (negsuc 100) then Ok NoNode else Ok (Refused err))

-- what counts of the answer to the first message
abbrev pub response_timeout : Response → ℤ
response_timeout response = response.front.1.0

abbrev pub response_session : Response → ℤ
response_session response = response.front.1.1.0

-- a null password is read as the empty one
abbrev pub response_password : Response → List ℕ
response_password response = or_empty response.front.1.1.1
