-- A part changes what its operation changes, by `part_as`, and has its fault, by `part_fault_as`; one that is not read has the fault of
-- reading it. Numbers fit, so they stay themselves.
use Rattle.std.proofs.Common.{◌≡◌, rules, None, subst, w32, w64, FitsSigned}
use Rattle.std.specs.Prelude.{OnOk, IfErr}
use Rattle.std.proofs.lemmas.Int.{to_z-of_z}
use Rattle.std.proofs.lemmas.Result.{IfOk-weaker}
use Rattle.zk_log.specs.Views.{part_of}
use Rattle.zk_log_history.specs.inner.Refused.{Unread}
use Rattle.zk_log_history.proofs.Operations.{part_as, part_fault_as}
use Rattle.zk_log_history.proofs.telling.part_change.Goals as goal

pub returns-in-Ok-clause-change : goal.returns-in-Ok-clause-change
returns-in-Ok-clause-change g c =
    let fits : FitsSigned w32 c.args.part.now.0 = search rules in
    IfOk-weaker c.operation_change.result _ _
    (λ change made. part_as c.args.session _ (part_of c.args.part.now) _ c.part_bytes.result.now c.in-Ok.txn _
    (to_z-of_z w64 c.args.session (search rules)) (to_z-of_z w32 c.args.part.now.0 fits) c.part_bytes.ensures (search rules) made)
    c.operation_change.ensures.change

pub returns-in-Ok-clause-read : goal.returns-in-Ok-clause-read
returns-in-Ok-clause-read g c =
    let fits : FitsSigned w32 c.args.part.now.0 = search rules in
    subst (λ f. OnOk c.operation_change.result (f ≡ None))
    (part_fault_as (part_of c.args.part.now) _ c.part_bytes.result.now c.in-Ok.txn (to_z-of_z w32 c.args.part.now.0 fits)
    c.part_bytes.ensures (search rules))
    c.operation_change.ensures.read

pub returns-in-Ok-clause-unread : goal.returns-in-Ok-clause-unread
returns-in-Ok-clause-unread g c =
    let fits : FitsSigned w32 c.args.part.now.0 = search rules in
    subst (λ f. IfErr c.operation_change.result (Unread f))
    (part_fault_as (part_of c.args.part.now) _ c.part_bytes.result.now c.in-Ok.txn (to_z-of_z w32 c.args.part.now.0 fits)
    c.part_bytes.ensures (search rules))
    c.operation_change.ensures.unread
