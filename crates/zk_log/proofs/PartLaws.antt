-- A part of a multi is the operation of its number, or has the fault of its fields.
use Rattle.std.proofs.Common.{◌≡◌, ℕ, ◌<◌, ℤ, arith, List, [], ◌∷◌, length, Option, Some, None, Result, Ok, Err, refl, sym, ap, subst, ◌∙◌}
use Rattle.std.specs.Prelude.{◌≢◌, IfOk, IfErr, MatchResult}
use Rattle.std.specs.Result.{IsErrAnd}
use Rattle.std.proofs.lemmas.Result.{err_from_is_err_and}
use Rattle.zk_jute.specs.declared.fault.TakeError.{TakeError}
use Rattle.zk_jute.specs.declared.fault.TakeError.TheVariants.{Memory}
use Rattle.zk_jute.specs.Layout.{Value}
use Rattle.zk_jute.specs.Reading.{place_of, reading}
use Rattle.zk_log.specs.declared.kind.TxnKind.{TxnKind}
use Rattle.zk_log.specs.declared.entry_fault.EntryFault.{EntryFault}
use Rattle.zk_log.specs.declared.entry_fault.EntryFault.TheVariants.{Unread, Unknown, Trailing}
use Rattle.zk_log.specs.Kinds.{kind_at, fields}
use Rattle.zk_log.specs.Parts.{Operation, left_at, with_fields, with_number, part_at}
use Rattle.zk_log.proofs.EntryLaws.{same_reading, some_kind}

abbrev good : Operation → Result Operation EntryFault
good operation = Ok operation

abbrev bad : EntryFault → Result Operation EntryFault
bad fault = Err fault

-- What a call returned, seen by view, is what reading gives, unless memory ran out.
abbrev GivesPart : {T : Type 0} → (T → Operation) → Result Operation EntryFault → Result T EntryFault → Type 0
GivesPart view read result = MatchResult result (λ t. read ≡ Ok (view t)) (λ e. e ≢ Unread Memory → read ≡ Err e)

-- a number that is no operation's
pub unknown : (number told : ℤ) (bytes : List ℕ) (at : Option TxnKind) → told ≡ number → at ≡ kind_at told bytes → at ≡ None
    → part_at number bytes ≡ Err (Unknown told)
unfolding part_at
unknown number told bytes at same e is =
    ap (with_number number bytes) (ap (λ (z : ℤ). kind_at z bytes) (sym same) ∙ sym e ∙ is) ∙ ap (λ (z : ℤ). bad (Unknown z)) (sym same)

known : (number told : ℤ) (bytes : List ℕ) (at : Option TxnKind) (kind : TxnKind) → told ≡ number → at ≡ kind_at told bytes → at ≡ Some kind
    → part_at number bytes ≡ with_fields (length bytes) kind (reading (fields kind) (length bytes) bytes)
unfolding part_at
known number told bytes at kind same e is =
    ap (with_number number bytes) (ap (λ (z : ℤ). kind_at z bytes) (sym same) ∙ sym e ∙ is)

pub fields_fail : {T : Type 0} (view : T
    → Operation) (number told : ℤ) (bytes start : List ℕ) (end : ℕ) (at : Option TxnKind) (kind : TxnKind)
    (result : Result T EntryFault) (fault : TakeError) → IsErrAnd result (λ e. e ≡ Unread fault) → told ≡ number → at ≡ kind_at told bytes
    → at ≡ Some kind → end ≡ length bytes → start ≡ bytes → (fault ≢ Memory → reading (fields kind) end start ≡ Err fault)
    → GivesPart view (part_at number bytes) result
fields_fail view number told bytes start end at kind result fault is same e found f g fails =
    let p = err_from_is_err_and result is in
    let gives : Unread fault ≢ Unread Memory → part_at number bytes ≡ Err (Unread fault) =
    λ other. known number told bytes at kind same e found
    ∙ ap (with_fields (length bytes) kind)
    (same_reading (fields kind) end (length bytes) start bytes (Err fault) f g (fails (λ (m : fault ≡ Memory). other (ap Unread m)))) in
    rw (p.1, p.2) gives

-- an operation, if no bytes are left after it
left_gives : {T : Type 0} (view : T → Operation) (place : ℕ) (rest : List ℕ) (operation : Operation) (result : Result T EntryFault)
    → IfOk result (λ t. (view t ≡ operation) × (length rest ≡ 0))
    → IfErr result (λ e. (e ≡ Trailing place) × (0 < length rest))
    → GivesPart view (left_at place rest operation) result
left_gives view place [] operation (Ok t) ok err = ap good (sym ok.0)
left_gives view place (byte ∷ bytes) operation (Ok t) ok err = absurd (omega (arith, ok.1))
left_gives view place [] operation (Err fault) ok err = absurd (omega (arith, err.1))
left_gives view place (byte ∷ bytes) operation (Err fault) ok err = λ other. ap bad (sym err.0)

same_gives : {T : Type 0} (view : T → Operation) (a b : Result Operation EntryFault) (result : Result T EntryFault) → b ≡ a
    → GivesPart view a result → GivesPart view b result
same_gives view a b (Ok t) e gives = e ∙ gives
same_gives view a b (Err fault) e gives = λ other. e ∙ gives other

pub fields_read : {T : Type 0} (view : T → Operation) (number told : ℤ) (bytes start rest : List ℕ) (end after place : ℕ)
    (at : Option TxnKind) (kind k : TxnKind) (body : Value (fields k)) (left : List ℕ) (result : Result T EntryFault) → told ≡ number
    → at ≡ kind_at told bytes → at ≡ Some kind → k ≡ kind → end ≡ length bytes → start ≡ bytes
    → reading (fields k) end start ≡ Ok (body, rest) → after ≡ end → place ≡ place_of after rest → left ≡ rest
    → IfOk result (λ t. (view t ≡ record { kind = k; body = body }) × (length left ≡ 0))
    → IfErr result (λ e. (e ≡ Trailing place) × (0 < length left))
    → GivesPart view (part_at number bytes) result
fields_read view number told bytes start rest end after place at kind k body left result same e found is f g read a h l ok err =
    let whole : part_at number bytes ≡ with_fields (length bytes) k (reading (fields k) (length bytes) bytes) =
    known number told bytes at k same e (found ∙ ap (λ (x : TxnKind). some_kind x) (sym is)) in
    let at_place : place_of (length bytes) rest ≡ place = ap (λ (n : ℕ). place_of n rest) (sym (a ∙ f)) ∙ sym h in
    same_gives view (left_at place left (record { kind = k; body = body })) (part_at number bytes) result
    (whole ∙ ap (with_fields (length bytes) k) (same_reading (fields k) end (length bytes) start bytes (Ok (body, rest)) f g read)
    ∙ ap (λ (n : ℕ). left_at n rest (record { kind = k; body = body })) at_place
    ∙ ap (λ (x : List ℕ). left_at place x (record { kind = k; body = body })) (sym l))
    (left_gives view place left (record { kind = k; body = body }) result ok err)
