-- A reply is beside those whom its ticket finds; any other is beside nobody.
use Rattle.std.proofs.Common.{◌≡◌, ◌∙◌, get_or, sym, true, false}
use Rattle.std.proofs.lemmas.Result.{on_ok_weaker}
use Rattle.zk_client.specs.Views.{outcome_view}
use Rattle.zk_follow.specs.inner.Owning.{is_of}
use Rattle.zk_follow.specs.inner.Resting.{is_reply}
use Rattle.zk_follow.proofs.Staying.{and_parts}
use Rattle.zk_follow.proofs.index.Index.add_answered.Goals as goal

pub returns-then-is_reply-clause-beside : goal.returns-then-is_reply-clause-beside
returns-then-is_reply-clause-beside g c =
    on_ok_weaker c.add_siblings.result
    (λ siblings k d fits e. siblings k d fits (and_parts (is_reply (outcome_view c.args.outcome.now))
    (is_of c.args.subjects.now c.args.ticket (get_or c.args.subjects.now k d).path) e).1)
    c.add_siblings.ensures.siblings

pub returns-clause-beside : goal.returns-clause-beside
returns-clause-beside g c = λ k d fits e. absurd (
    let parts = and_parts (is_reply (outcome_view c.args.outcome.now))
    (is_of c.args.subjects.now c.args.ticket (get_or c.args.subjects.now k d).path) e in
    let t : true ≡ false = sym parts.0 ∙ (sym c.is_reply.ensures ∙ c.if-is_reply.false) in
    cc
    )
