-- A reply: its header, and, with err 0, what stands after it. What follows the header of another reply is ignored.
use Rattle.std.specs.Prelude.{ℕ, zero, suc, ℤ, pos, negsuc, Bool, true, false, List, [], ◌++◌, Option, Some, None, Result, Ok}
use Rattle.std.specs.Option.{option_map}
use Rattle.zk_jute.specs.declared.fault.TakeError.{TakeError}
use Rattle.zk_jute.specs.Layout.{Layout, Value}
use Rattle.zk_jute.specs.Spelling.{spelling, Fits}
use Rattle.zk_jute.specs.Reading.{◌>>=◌, reading}
use Rattle.zk_records.specs.declared.reply.Reply.{Reply}
use Rattle.zk_records.specs.Layouts.{reply_header}

abbrev pub ReplyValue : Layout → Type 0
ReplyValue layout = Value reply_header × Option (Value layout)

abbrev pub reply_of : {R V : Type 0} → (R → V) → Reply R → Value reply_header × Option V
reply_of view r = ((r.header.xid, (r.header.zxid, r.header.err)), option_map view r.result)

abbrev pub result_spelling : (layout : Layout) → Option (Value layout) → List ℕ
result_spelling layout None = []
result_spelling layout (Some value) = spelling layout value

abbrev pub reply_spelling : (layout : Layout) → ReplyValue layout → List ℕ
reply_spelling layout r = spelling reply_header r.0 ++ result_spelling layout r.1

-- whether a reply with this err has a result
abbrev pub has_result : ℤ → Bool
has_result (pos zero) = true
has_result (pos (suc n)) = false
has_result (negsuc n) = false

-- a result is there exactly where err is 0
abbrev pub ResultFits : (layout : Layout) → ℤ → Option (Value layout) → Type 0
ResultFits layout (pos zero) (Some value) = Fits layout value
ResultFits layout (pos zero) None = ⊥
ResultFits layout (pos (suc n)) (Some value) = ⊥
ResultFits layout (pos (suc n)) None = Unit {0}
ResultFits layout (negsuc n) (Some value) = ⊥
ResultFits layout (negsuc n) None = Unit {0}

abbrev pub ReplyFits : (layout : Layout) → ReplyValue layout → Type 0
ReplyFits layout r = Fits reply_header r.0 × ResultFits layout r.0.1.1 r.1

unfoldable pub result_at : (layout : Layout) → ℤ → ℕ → List ℕ → Result (Option (Value layout) × List ℕ) TakeError
result_at layout (pos zero) end bytes = do
  value ← reading layout end bytes
  Ok (Some value.0, value.1)
result_at layout (pos (suc n)) end bytes = Ok (None, bytes)
result_at layout (negsuc n) end bytes = Ok (None, bytes)

unfoldable pub reply_at : (layout : Layout) → ℕ → List ℕ → Result (ReplyValue layout × List ℕ) TakeError
reply_at layout end bytes = do
  header ← reading reply_header end bytes
  result ← result_at layout header.0.1.1 end header.1
  Ok ((header.0, result.0), result.1)
