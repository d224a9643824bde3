-- What is told of the reply to a request whose bytes a caller has spelled.
use Rattle.std.specs.Prelude.{◌≡◌, ℕ, zero, ℤ, pos, List, [], length, Ok}
use Rattle.std.specs.declared.alloc.Global.{Global}
use Rattle.zk_conversation.specs.Questions.{Raw}
use Rattle.zk_conversation.specs.Results.{result_of}
use Rattle.zk_client.specs.Views.{call_result_view}
use Rattle.zk_client.specs.declared.call_result.CallResult.{CallResult}
use Rattle.zk_client.specs.declared.output.Outcome.TheVariants.{Replied}
use Rattle.ffi_device.specs.Flats.{outcome_flat, outcome_text, plain}
use Rattle.ffi_device.specs.declared.flat.Flat.{Flat}

-- the numbers of a reply, without those of what it brings, and without its ticket
abbrev pub reply_flat : (zxid : ℤ) → Flat
reply_flat zxid = record (plain (pos 2) (pos 0)) { zxid = zxid }

-- By the code of a reply and all bytes after its header: if the code is 0, the number 7, with these bytes as the text; else the number 1
-- with the code, and no text.
abbrev pub TellsReply : (zxid err : ℤ) (behind : List ℕ) (told : Flat) (text : List ℕ) → Type 0
TellsReply zxid (pos zero) behind told text =
    (told ≡ record (reply_flat zxid) { result = pos 7; length = length behind }) × (text ≡ behind)
TellsReply zxid err behind told text = (told ≡ record (reply_flat zxid) { result = pos 1; code = err }) × (text ≡ [])

-- THE law of such a reply: what a client has made of it, by its code and what stands after its header, is told, and nothing is lost of it.
abbrev pub BringsAll : Type 0
BringsAll = (zxid err : ℤ) (end : ℕ) (behind : List ℕ) (brought : CallResult Global)
    → result_of Raw err end behind ≡ Ok (call_result_view brought)
    → TellsReply zxid err behind (outcome_flat (Replied zxid brought)) (outcome_text (Replied zxid brought))
