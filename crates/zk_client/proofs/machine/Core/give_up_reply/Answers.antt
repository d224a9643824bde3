-- The drop is said, the loss of this call, then the other losses: what `say` and `lose` ensure, joined by `append_assoc`.
use Rattle.std.proofs.Common.{ap, ◌∙◌, List, [], ◌∷◌, ◌++◌, append_assoc}
use Rattle.std.proofs.lemmas.Result.{on_ok_weaker}
use Rattle.zk_turns.specs.Turns.{Output, Drop, Answer, ConnectionLoss}
use Rattle.zk_turns.specs.Rule.{losses}
use Rattle.zk_client.specs.Views.{said, fault_view}
use Rattle.zk_client.specs.inner.Seen.{view_with}
use Rattle.zk_client.proofs.machine.Core.give_up_reply.Goals as goal

pub returns-clause-next : goal.returns-clause-next
returns-clause-next g c = on_ok_weaker c.lose.result (λ next. λ held pending. next held) c.lose.ensures.next

pub returns-clause-says : goal.returns-clause-says
returns-clause-says g c = on_ok_weaker c.lose.result (λ says. λ held xid question.
    let lost = losses (view_with held c.args.self.now) in
    let before = said c.args.outputs.now.items in
    let dropped : List Output = Drop (fault_view c.args.fault) ∷ [] in
    let answered : List Output = Answer c.args.ticket ConnectionLoss ∷ [] in
    says held ∙ ap (λ (l : List Output). l ++ lost) (c.in_ok-say-2.ensures ∙ ap (λ (l : List Output). l ++ answered) c.in_ok-say.ensures)
    ∙ append_assoc (before ++ dropped) answered lost ∙ append_assoc before dropped (answered ++ lost)) c.lose.ensures.says
