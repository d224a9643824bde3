-- By the operation: a fault in reading its record is the fault of the body, by `handed_on`.
use Rattle.std.proofs.Common.{◌≡◌, ℕ, List, Result, Err}
use Rattle.std.specs.Prelude.{◌≢◌, MatchResult}
use Rattle.std.specs.Result.{IsErrAnd}
use Rattle.std.proofs.lemmas.Result.{err_from_is_err_and}
use Rattle.zk_jute.specs.declared.fault.TakeError.{TakeError}
use Rattle.zk_jute.specs.declared.fault.TakeError.TheVariants.{Memory}
use Rattle.zk_jute.specs.Reading.{reading}
use Rattle.zk_records.specs.declared.operation.Operation.{Operation}
use Rattle.zk_records.specs.Operations.{body_layout}
use Rattle.zk_records.proofs.request_body.read_body.Goals as goal

-- the fault of the record of an operation, handed on by a `?`
handed_on : {T : Type 0} (P : T → Type 0) (operation kind : Operation) (end : ℕ) (bytes : List ℕ) (fault : TakeError)
    (r : Result T TakeError) → operation ≡ kind → IsErrAnd r (λ e. e ≡ fault)
    → (fault ≢ Memory → reading (body_layout kind) end bytes ≡ Err fault)
    → MatchResult r P (λ e. e ≢ Memory → reading (body_layout operation) end bytes ≡ Err e)
handed_on P operation kind end bytes fault r is err fails = let p = err_from_is_err_and r err in rw (p.1, p.2, is) fails

pub returns-in_err-read-in-Exists-clause-gives : goal.returns-in_err-read-in-Exists-clause-gives
returns-in_err-read-in-Exists-clause-gives g c =
    handed_on _ _ _ _ _ _ _ c.in-Exists.is c.from_residual.ensures.1 c.in_err-read-in-Exists.ensures.gives

pub returns-in_err-read-in-GetData-clause-gives : goal.returns-in_err-read-in-GetData-clause-gives
returns-in_err-read-in-GetData-clause-gives g c =
    handed_on _ _ _ _ _ _ _ c.in-GetData.is c.from_residual-in_err-read-in-GetData.ensures.1 c.in_err-read-in-GetData.ensures.gives

pub returns-in_err-read-in-GetChildren-clause-gives : goal.returns-in_err-read-in-GetChildren-clause-gives
returns-in_err-read-in-GetChildren-clause-gives g c = handed_on _ _ _ _ _ _ _ c.in-GetChildren.is
    c.from_residual-in_err-read-in-GetChildren.ensures.1 c.in_err-read-in-GetChildren.ensures.gives

pub returns-in_err-read-in-GetChildren2-clause-gives : goal.returns-in_err-read-in-GetChildren2-clause-gives
returns-in_err-read-in-GetChildren2-clause-gives g c = handed_on _ _ _ _ _ _ _ c.in-GetChildren2.is
    c.from_residual-in_err-read-in-GetChildren2.ensures.1 c.in_err-read-in-GetChildren2.ensures.gives

pub returns-in_err-read-in-SetData-clause-gives : goal.returns-in_err-read-in-SetData-clause-gives
returns-in_err-read-in-SetData-clause-gives g c =
    handed_on _ _ _ _ _ _ _ c.in-SetData.is c.from_residual-in_err-read-in-SetData.ensures.1 c.in_err-read-in-SetData.ensures.gives

pub returns-in_err-read-in-Create-clause-gives : goal.returns-in_err-read-in-Create-clause-gives
returns-in_err-read-in-Create-clause-gives g c =
    handed_on _ _ _ _ _ _ _ c.in-Create.is c.from_residual-in_err-read-in-Create.ensures.1 c.in_err-read-in-Create.ensures.gives

pub returns-in_err-read-in-Delete-clause-gives : goal.returns-in_err-read-in-Delete-clause-gives
returns-in_err-read-in-Delete-clause-gives g c =
    handed_on _ _ _ _ _ _ _ c.in-Delete.is c.from_residual-in_err-read-in-Delete.ensures.1 c.in_err-read-in-Delete.ensures.gives

pub returns-in_err-read-in-SetWatches-clause-gives : goal.returns-in_err-read-in-SetWatches-clause-gives
returns-in_err-read-in-SetWatches-clause-gives g c =
    handed_on _ _ _ _ _ _ _ c.in-SetWatches.is c.from_residual-in_err-read-in-SetWatches.ensures.1 c.in_err-read-in-SetWatches.ensures.gives
