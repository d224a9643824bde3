-- A reply to what a caller has spelled is told whole: by the test of its code, and then by the case of what the client has made of it,
-- which the view of the others is not.
use Rattle.std.proofs.Common.{◌≡◌, ℕ, zero, suc, ℤ, pos, negsuc, List, [], Bool, true, false, length, refl, sym, ap, ◌∙◌, Ok, cond}
use Rattle.std.proofs.Common.{true≢false}
use Rattle.std.specs.declared.alloc.Global.{Global}
use Rattle.std.specs.Ordering.{int_eq}
use Rattle.std.specs.Prelude.{Result as Reading}
use Rattle.std.proofs.lemmas.Bool.Decides.{Decides-int_eq}
use Rattle.zk_jute.specs.declared.fault.TakeError.{TakeError}
use Rattle.zk_records.specs.Codes.{code_number}
use Rattle.zk_conversation.specs.Questions.{Raw}
use Rattle.zk_conversation.specs.Results.{Result, NoNode, Refused, Brought, record_of, result_of}
use Rattle.zk_conversation.specs.Views.{code_result}
use Rattle.zk_client.specs.Views.{call_result_view}
use Rattle.zk_client.specs.declared.call_result.CallResult.{CallResult}
use Rattle.zk_client.specs.declared.call_result.CallResult.TheVariants as made
use Rattle.zk_client.specs.declared.output.Outcome.TheVariants.{Replied}
use Rattle.ffi_device.specs.Flats.{outcome_flat, outcome_text}
use Rattle.ffi_device.specs.Replies.{reply_flat, TellsReply, BringsAll}

-- ---- codes

other : (x y : ℤ) → (x ≡ y → ⊥) → int_eq x y ≡ false
other x y h = go (int_eq x y) refl where
  go : (b : Bool) → int_eq x y ≡ b → int_eq x y ≡ false
  go false e = e
  go true e = absurd (h ((Decides-int_eq x y).0 e))

same_code : (x y : ℤ) → code_result x ≡ code_result y → x ≡ y
same_code x y = go (int_eq x (negsuc 100)) refl (int_eq y (negsuc 100)) refl where
  go : (a : Bool) → int_eq x (negsuc 100) ≡ a → (b : Bool) → int_eq y (negsuc 100) ≡ b
      → cond a NoNode (Refused x) ≡ cond b NoNode (Refused y) → x ≡ y
  go true first true second e = (Decides-int_eq x (negsuc 100)).0 first ∙ sym ((Decides-int_eq y (negsuc 100)).0 second)
  go true first false second e = absurd cc
  go false first true second e = absurd cc
  go false first false second e = cc

-- what was read
abbrev read_as : Result → Reading Result TakeError
read_as result = Ok result

read_one : (err : ℤ) (b : Bool) → cond b (read_as NoNode) (read_as (Refused err)) ≡ read_as (cond b NoNode (Refused err))
read_one err true = refl
read_one err false = refl

-- of another code than 0 the code alone is read
read_code : (err : ℤ) (end : ℕ) (behind : List ℕ) → (err ≡ pos 0 → ⊥) → result_of Raw err end behind ≡ read_as (code_result err)
read_code err end behind not_zero =
    ap (λ (b : Bool). cond b (record_of Raw end behind) (cond (int_eq err (negsuc 100)) (read_as NoNode) (read_as (Refused err))))
    (other err (pos 0) not_zero)
    ∙ read_one err (int_eq err (negsuc 100))

same_read : (result other : Result) → read_as result ≡ read_as other → result ≡ other
same_read result other is = cc

-- whether a result is that of a code
abbrev is_code : Result → Bool
is_code NoNode = true
is_code (Refused code) = true
is_code _ = false

code_is_code : (code : ℤ) → is_code (code_result code) ≡ true
code_is_code code = go (int_eq code (negsuc 100)) where
  go : (b : Bool) → is_code (cond b NoNode (Refused code)) ≡ true
  go true = refl
  go false = refl

no_code : {P : Type 0} (code : ℤ) (result : Result) → code_result code ≡ result → is_code result ≡ false → P
no_code code result is not_code = absurd (true≢false (sym (code_is_code code) ∙ ap is_code is ∙ not_code))

-- ---- what is told

abbrev view : CallResult Global → Result
view brought = call_result_view brought

module _ (zxid : ℤ) where
  of_bytes : (behind : List ℕ) (brought : CallResult Global) → Brought behind ≡ call_result_view brought
      → TellsReply zxid (pos 0) behind (outcome_flat (Replied zxid brought)) (outcome_text (Replied zxid brought))
  of_bytes behind (made.Raw bytes) is =
      let same : behind ≡ bytes.items = cc in
      (ap (λ (b : List ℕ). record (reply_flat zxid) { result = pos 7; length = length b }) (sym same), sym same)
  of_bytes behind (made.Code code) is = no_code (code_number code) (Brought behind) (sym is) refl
  of_bytes behind (made.Stat stat) is = absurd cc
  of_bytes behind (made.Data bytes stat) is = absurd cc
  of_bytes behind (made.Names names stat) is = absurd cc
  of_bytes behind (made.Created path) is = absurd cc
  of_bytes behind made.Done is = absurd cc

  of_code : (err : ℤ) (brought : CallResult Global) → code_result err ≡ call_result_view brought
      → (outcome_flat (Replied zxid brought) ≡ record (reply_flat zxid) { result = pos 1; code = err })
      × (outcome_text (Replied zxid brought) ≡ [])
  of_code err (made.Code code) is =
      (ap (λ (c : ℤ). record (reply_flat zxid) { result = pos 1; code = c }) (sym (same_code err (code_number code) is)), refl)
  of_code err (made.Stat stat) is = no_code err (view (made.Stat stat)) is refl
  of_code err (made.Data bytes stat) is = no_code err (view (made.Data bytes stat)) is refl
  of_code err (made.Names names stat) is = no_code err (view (made.Names names stat)) is refl
  of_code err (made.Created path) is = no_code err (view (made.Created path)) is refl
  of_code err made.Done is = no_code err (view made.Done) is refl
  of_code err (made.Raw bytes) is = no_code err (view (made.Raw bytes)) is refl

no_zero : (n : ℕ) → pos (suc n) ≡ pos 0 → ⊥
no_zero n is = cc

no_minus : (n : ℕ) → negsuc n ≡ pos 0 → ⊥
no_minus n is = cc

pub brings_all : BringsAll
unfolding record_of
brings_all zxid (pos zero) end behind brought is = of_bytes zxid behind brought (same_read (Brought behind) (call_result_view brought) is)
brings_all zxid (pos (suc n)) end behind brought is =
    let err = pos (suc n) in
    of_code zxid err brought
    (same_read (code_result err) (call_result_view brought) (sym (read_code err end behind (no_zero n)) ∙ is))
brings_all zxid (negsuc n) end behind brought is =
    let err = negsuc n in
    of_code zxid err brought
    (same_read (code_result err) (call_result_view brought) (sym (read_code err end behind (no_minus n)) ∙ is))
