-- One part more is added: `parts_more`, `parts_left`. Where a part has failed there is none to add. The session's number fits, so it stays
-- itself.
use Rattle.std.proofs.Common.{◌≡◌, rules, sym, ◌∙◌, ℤ, false, map, subst, w64, to_z, of_z}
use Rattle.std.proofs.lemmas.Int.{to_z-of_z}
use Rattle.std.specs.List.{list_any}
use Rattle.zk_log.specs.Following.{is_failed}
use Rattle.zk_log.specs.Views.{part_of}
use Rattle.zk_log_history.specs.Changes.{all_changes, parts_changes}
use Rattle.zk_log_history.specs.Refused.{first_fault, part_fault, parts_fault}
use Rattle.zk_log_history.specs.inner.Refused.{Refuses}
use Rattle.zk_log_history.proofs.Changing.{parts_more}
use Rattle.zk_log_history.proofs.Refused.{on_err, parts_left, parts_refused, whole_fault, whole_changes}
use Rattle.zk_log_history.proofs.telling.add_parts.Goals as goal

pub loop-part-preserved : goal.loop-part-preserved
loop-part-preserved g c =
    let s = to_z w64 (of_z w64 c.args.session) in (
      parts_more part_of s c.args.parts.now c.loop-part.part-index c.part-item.result
          c.loop-part.history c.add_part.new.history _ (search rules) c.part-item.is c.in_ok-add_part.ensures.added c.loop-part.invariant.0,
      (λ made. c.in_ok-add_part.ensures.made (c.loop-part.invariant.1 made)),
      parts_left part_of s c.args.parts.now c.loop-part.part-index c.part-item.result _ c.loop-part.history c.add_part.new.history _ _
          (search rules) c.part-item.is c.in_ok-add_part.ensures.taken.0 c.in_ok-add_part.ensures.taken.1 c.in_ok-add_part.ensures.added
          c.loop-part.invariant.2,
    )

pub returns-in_err-add_part-clause-refused : goal.returns-in_err-add_part-clause-refused
returns-in_err-add_part-clause-refused g c =
    let s = to_z w64 (of_z w64 c.args.session) in
    let same : s ≡ c.args.session = to_z-of_z w64 c.args.session (search rules) in
    let kept = c.args.history.now in
    let parts = map part_of c.args.parts.now in
    let whole : list_any is_failed parts ≡ false = sym c.has_failed.ensures ∙ c.if-has_failed.false in
    let why = c.in_err-add_part.field-0.0 in
    on_err c.from_residual.result why (Refuses (parts_fault parts) kept (parts_changes c.args.session parts)) c.from_residual.ensures.1
    (subst (λ (n : ℤ). Refuses (parts_fault parts) kept (parts_changes n parts) why) same
    (subst (λ f. Refuses f kept (parts_changes s parts) why) (sym (whole_fault parts whole))
    (subst (λ cs. Refuses (first_fault part_fault parts) kept cs why) (sym (whole_changes s parts whole))
    (parts_refused part_of s c.args.parts.now c.loop-part.part-index c.part-item.result (first_fault part_fault parts)
    c.loop-part.history kept (all_changes s parts) why (search rules) c.part-item.is c.loop-part.invariant.2
    c.in_err-add_part.ensures.refused))))
