-- Whom an answer or a report may change, it names.
use Rattle.std.proofs.Common.{◌≡◌, true, get_or, inl, inr, subst, sym}
use Rattle.std.proofs.lemmas.Result.{IfOk-weaker}
use Rattle.zk_client.specs.Views.{output_view}
use Rattle.zk_follow.specs.inner.Places.{is_heard_by, is_named}
use Rattle.zk_follow.proofs.index.Index.hearing.Goals as goal

pub returns-in-Answer-clause-hear : goal.returns-in-Answer-clause-hear
returns-in-Answer-clause-hear g c =
    IfOk-weaker c.named_by.result _ _
    (λ all named k d fits e.
    let s = get_or c.args.subjects.now k d in
    named k d fits (elim c.in-Answer.is [
      | inl answer ↦ subst (λ output. is_heard_by s.ticket s.path (output_view output) ≡ true
          → is_named s.ticket s.path (output_view output) ≡ true) (sym answer.2) (λ heard. heard) e
      | inr report ↦ subst (λ output. is_heard_by s.ticket s.path (output_view output) ≡ true
          → is_named s.ticket s.path (output_view output) ≡ true) (sym report.3) (λ heard. heard) e
    ]))
    c.named_by.ensures.named
