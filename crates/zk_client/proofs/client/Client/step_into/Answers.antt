-- The client stands after this turn too: what `one_turn` ensures. Outputs added to none are the turn's own: `alone`.
use Rattle.std.proofs.Common.{ap}
use Rattle.zk_client.specs.Views.{said, input_view}
use Rattle.zk_client.proofs.Behind.{alone, on_ok}
use Rattle.zk_client.proofs.client.Client.step_into.Goals as goal

pub returns-else-is_err-clause-stands : goal.returns-else-is_err-clause-stands
returns-else-is_err-clause-stands g c = on_ok c.apply-taken.result _ _ c.apply-taken.ensures.rule (λ adds start items s.
    c.one_turn.ensures.stands start items _ _ _ s (alone _ _ (input_view c.args.input) _ _ (ap said c.clear.ensures.items) adds))
