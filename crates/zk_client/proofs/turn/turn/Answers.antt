-- A call, sent or refused, changes neither the state nor how long a payload may be: `asked-longest`, from what `ask` ensures.
use Rattle.std.proofs.Common.{ℕ, [], ap, sym, subst, ◌∙◌}
use Rattle.std.proofs.lemmas.Result.{on_ok_weaker}
use Rattle.zk_conversation.specs.Views.{call_view}
use Rattle.zk_turns.specs.Taken.{longest_of, refusal}
use Rattle.zk_client.specs.inner.Seen.{view_with}
use Rattle.zk_client.specs.Sound.{IsReading}
use Rattle.zk_client.proofs.Asked.{asked-longest}
use Rattle.zk_client.proofs.turn.turn.Goals as goal

pub returns-in-Call-clause-reading : goal.returns-in-Call-clause-reading
returns-in-Call-clause-reading g c =
    let view = view_with [] c.args.core.now in
    let call = call_view c.in-Call.call in
    on_ok_weaker c.ask.result (λ told. subst (λ (most : ℕ). IsReading most c.args.reader.now)
    (sym (ap longest_of (told []) ∙ asked-longest view c.in-Call.ticket call (refusal view call))) c.requires.reading) c.ask.ensures.next
