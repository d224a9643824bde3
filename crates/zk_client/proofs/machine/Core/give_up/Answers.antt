-- The drop is said, and then the losses: what `say` and `lose` ensure, joined by `append_assoc`.
use Rattle.std.proofs.Common.{ap, ◌∙◌, List, [], ◌∷◌, ◌++◌, append_assoc}
use Rattle.std.proofs.lemmas.Result.{on_ok_weaker}
use Rattle.zk_turns.specs.Turns.{Output, Drop}
use Rattle.zk_turns.specs.Rule.{losses}
use Rattle.zk_client.specs.Views.{said, fault_view}
use Rattle.zk_client.specs.inner.Seen.{view_with}
use Rattle.zk_client.proofs.machine.Core.give_up.Goals as goal

pub returns-clause-says : goal.returns-clause-says
returns-clause-says g c = on_ok_weaker c.lose.result (λ says. λ held.
    let lost = losses (view_with held c.args.self.now) in
    says held ∙ ap (λ (l : List Output). l ++ lost) c.in_ok-say.ensures
    ∙ append_assoc (said c.args.outputs.now.items) (Drop (fault_view c.args.fault) ∷ []) lost) c.lose.ensures.says
