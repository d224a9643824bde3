-- What a payload spells: a header or a record by its layout, and after it any bytes. And what a request does that was sent.
use Rattle.std.specs.Prelude.{◌≡◌, ℕ, ℤ, List, ◌++◌, Ok, ⊤}
use Rattle.zk_jute.specs.Layout.{Layout, Value}
use Rattle.zk_jute.specs.Spelling.{spelling, Fits}
use Rattle.zk_jute.specs.Reading.{reading}
use Rattle.zk_records.specs.Layouts.{reply_header, request_header}
use Rattle.zk_records.specs.Operations.{operation_number, request_layout}
use Rattle.zk_conversation.specs.Calls.{Wording, Spelled, Given}
use Rattle.zk_conversation.specs.Questions.{Question}
use Rattle.zk_conversation.specs.Results.{Result, NoNode, Refused, result_layout, result_from}

-- the payload begins with this header
pub record IsHeaded (xid zxid err : ℤ) (payload behind : List ℕ) : Type 0 where
  pub fits : Fits reply_header (xid, (zxid, err))
  pub whole : payload ≡ spelling reply_header (xid, (zxid, err)) ++ behind

-- these bytes begin with the record; any bytes may follow
pub record HasRecord (layout : Layout) (value : Value layout) (bytes : List ℕ) : Type 0 where
  pub ignored : List ℕ
  pub fits : Fits layout value
  pub whole : bytes ≡ spelling layout value ++ ignored

-- these bytes begin with the record of the question, which has this result; a result of what a caller has spelled is all of them
abbrev pub BeginsWith : Question → Result → List ℕ → Type 0
BeginsWith question result bytes =
    (value : Value (result_layout question)) × (record_at : HasRecord (result_layout question) value bytes)
    × (result_from question value record_at.ignored ≡ result)

-- what stands after the header of a reply: with err 0 the record of its question, with another any bytes
abbrev pub HasResult : Question → Result → List ℕ → Type 0
HasResult question NoNode behind = ⊤
HasResult question (Refused code) behind = ⊤
HasResult question result behind = BeginsWith question result behind

-- the numbers, texts and lists of a request are in the range of their fields
abbrev pub WordingFits : (xid : ℤ) → Wording → Type 0
WordingFits xid (Spelled operation body) = Fits (request_layout operation) (xid, (operation_number operation, body))
WordingFits xid (Given operation bytes) = Fits request_header (xid, operation)

-- The bytes are read as this request, and these are left. Of what a caller has spelled the header is read.
abbrev pub ReadsAs : (xid : ℤ) → Wording → (end : ℕ) → (bytes rest : List ℕ) → Type 0
ReadsAs xid (Spelled operation body) end bytes rest =
    reading (request_layout operation) end bytes ≡ Ok ((xid, (operation_number operation, body)), rest)
ReadsAs xid (Given operation given) end bytes rest = reading request_header end bytes ≡ Ok ((xid, operation), given ++ rest)
