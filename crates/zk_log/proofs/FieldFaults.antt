-- A fault in reading the fields of an operation is the fault of the whole.
use Rattle.std.proofs.Common.{◌≡◌, ℕ, List, Result, Err}
use Rattle.std.specs.Prelude.{◌≢◌, MatchResult}
use Rattle.std.specs.Result.{IsErrAnd}
use Rattle.std.proofs.lemmas.Result.{err_from_is_err_and}
use Rattle.zk_jute.specs.declared.fault.TakeError.{TakeError}
use Rattle.zk_jute.specs.declared.fault.TakeError.TheVariants.{Memory}
use Rattle.zk_jute.specs.Reading.{reading}
use Rattle.zk_log.specs.declared.kind.TxnKind.{TxnKind}
use Rattle.zk_log.specs.Kinds.{fields}

-- the fault of the fields of an operation, handed on by a `?`
pub handed_on : {T : Type 0} (P : T → Type 0) (operation kind : TxnKind) (end : ℕ) (bytes : List ℕ) (fault : TakeError)
    (r : Result T TakeError) → operation ≡ kind → IsErrAnd r (λ e. e ≡ fault)
    → (fault ≢ Memory → reading (fields kind) end bytes ≡ Err fault)
    → MatchResult r P (λ e. e ≢ Memory → reading (fields operation) end bytes ≡ Err e)
handed_on P operation kind end bytes fault r is err fails = let p = err_from_is_err_and r err in rw (p.1, p.2, is) fails
