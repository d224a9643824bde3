-- What is read in the payload of a request.
use Rattle.std.proofs.Common.{◌≡◌, refl, ap, ◌∙◌, ℕ, ℤ, List, [], ◌++◌, ◌+◌, ◌-◌, None, length, arith}
use Rattle.std.specs.Prelude.{Ok, Err, OnOk, MatchResult}
use Rattle.std.specs.Prelude.{Result as Outcome}
use Rattle.std.specs.Result.{IsErrAnd}
use Rattle.zk_jute.specs.Layout.{Layout, Value}
use Rattle.zk_jute.specs.Spelling.{IsBytes, spelling, Fits}
use Rattle.zk_jute.specs.inner.Laws.{reads}
use Rattle.zk_records.specs.declared.request_fault.RequestFault.TheVariants.{Unknown}
use Rattle.zk_records.specs.Operations.{operation_numbered}
use Rattle.zk_records.specs.Asked.{request_at}
use Rattle.zk_records.proofs.Asking.{is_unknown}
use Rattle.zk_conversation.specs.declared.raw.RawOperation.{RawOperation}
use Rattle.zk_conversation.specs.declared.raw.RawOperation.TheVariants as raw
use Rattle.zk_conversation.specs.Calls.{Raw, raw_number}
use Rattle.zk_laws.specs.Messages.{Ask}
use Rattle.zk_laws.specs.Parsed.{IsRecord, IsReadAs}

-- so many bytes stand between a length and the end
pub behind_four : (n : ℕ) → (4 + n) - 4 ≡ n
behind_four n = omega arith

-- a record that is read is spelled
pub record_spelled : (layout : Layout) (value : Value layout) (payload : List ℕ)
    → IsBytes payload → IsRecord layout value payload → Fits layout value × (payload ≡ spelling layout value ++ [])
record_spelled layout value payload bytes is = let t =
    (reads layout (length payload)).takes payload (value, []) bytes is in (t.1, t.0.parts)

-- what is said of an error that is handed on
pub errs_match : {T E : Type 0} (r : Outcome T E) (F : T → Type 0) (Q P : E → Type 0)
    → IsErrAnd r Q → ((e : E) → Q e → P e) → MatchResult r F P
errs_match (Ok x) F Q P h f = absurd h
errs_match (Err e) F Q P h f = f e h

pub errs_never : {T E : Type 0} (r : Outcome T E) (Q : E → Type 0) → IsErrAnd r Q → OnOk r ⊥
errs_never (Ok x) Q h = absurd h
errs_never (Err e) Q h = tt

-- the number of a call that its caller has spelled is that of no operation
no_operation : (operation : RawOperation) → operation_numbered (raw_number operation) ≡ None
no_operation raw.GetAcl = refl
no_operation raw.SetAcl = refl
no_operation raw.Sync = refl
no_operation raw.Multi = refl
no_operation raw.Create2 = refl
no_operation raw.CreateContainer = refl
no_operation raw.CreateTtl = refl
no_operation raw.MultiRead = refl
no_operation raw.GetEphemerals = refl
no_operation raw.GetAllChildrenNumber = refl
no_operation raw.WhoAmI = refl

-- so it is not read
pub raw_unread : (operation : RawOperation) (given : List ℕ) (xid : ℤ) (end : ℕ) (bytes payload : List ℕ)
    → end ≡ length payload → bytes ≡ payload → IsReadAs (Ask (Raw operation given)) xid payload
    → request_at end bytes ≡ Err (Unknown (raw_number operation))
raw_unread operation given xid end bytes payload long same read =
    ap (λ (n : ℕ). request_at n bytes) long ∙ ap (request_at (length payload)) same
    ∙ is_unknown (length payload) payload (given ++ []) (xid, raw_number operation) read (no_operation operation)
