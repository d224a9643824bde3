-- What is added is what the part changes. The session's number fits, so it stays itself.
use Rattle.std.proofs.Common.{rules, ap, ◌∙◌, ℤ, None, sym, w64}
use Rattle.std.proofs.lemmas.Int.{to_z-of_z}
use Rattle.std.proofs.lemmas.Result.{on_ok_weaker}
use Rattle.zk_log.specs.Views.{part_of}
use Rattle.zk_log_history.specs.Changes.{part_changes, with_changes}
use Rattle.zk_log_history.specs.Refused.{part_fault}
use Rattle.zk_log_history.specs.inner.Refused.{Refuses}
use Rattle.zk_log_history.proofs.Refused.{err_as, no_fault, on_err, taken_by, unread_as}
use Rattle.zk_log_history.proofs.telling.add_part.Goals as goal

pub returns-clause-added : goal.returns-clause-added
returns-clause-added g c =
    on_ok_weaker c.add.result
    (λ added. added ∙ ap (with_changes c.args.history.now) c.in_ok-change.ensures.change
    ∙ ap (λ (n : ℤ). with_changes c.args.history.now (part_changes n (part_of c.args.part.now)))
    (to_z-of_z w64 c.args.session (search rules)))
    c.add.ensures.added

pub returns-clause-taken : goal.returns-clause-taken
returns-clause-taken g c =
    let same = c.in_ok-change.ensures.change
    ∙ ap (λ (n : ℤ). part_changes n (part_of c.args.part.now)) (to_z-of_z w64 c.args.session (search rules)) in
    on_ok_weaker c.add.result (λ taken. (c.in_ok-change.ensures.read, taken_by c.args.history.now _ _ (sym same) taken)) c.add.ensures.taken

pub returns-clause-refused : goal.returns-clause-refused
returns-clause-refused g c =
    let same = c.in_ok-change.ensures.change
    ∙ ap (λ (n : ℤ). part_changes n (part_of c.args.part.now)) (to_z-of_z w64 c.args.session (search rules)) in
    err_as c.add.result None (part_fault (part_of c.args.part.now)) c.args.history.now c.args.history.now _ _
    (no_fault (part_fault (part_of c.args.part.now))) (taken_by c.args.history.now _ _ same) c.add.ensures.refused

pub returns-in_err-change-clause-refused : goal.returns-in_err-change-clause-refused
returns-in_err-change-clause-refused g c =
    let fault = part_fault (part_of c.args.part.now) in
    let changes = part_changes c.args.session (part_of c.args.part.now) in
    on_err c.from_residual.result c.in_err-change.field-0.0 (Refuses fault c.args.history.now changes) c.from_residual.ensures.1
    (unread_as fault c.args.history.now changes _ c.in_err-change.ensures.unread)
