-- The client stands after this turn too: what `one_turn` ensures. Outputs added to none are the turn's own: `alone`.
use Rattle.std.proofs.Common.{ap}
use Rattle.zk_turns.specs.Turns.{Now}
use Rattle.zk_client.specs.Views.{said}
use Rattle.zk_client.proofs.Behind.{alone, on_ok}
use Rattle.zk_client.proofs.client.Client.tick_into.Goals as goal

pub returns-else-is_err-clause-stands : goal.returns-else-is_err-clause-stands
returns-else-is_err-clause-stands g c = on_ok c.apply-taken.result _ _ c.apply-taken.ensures.rule (λ adds start items s.
    c.one_turn.ensures.stands start items _ _ _ s (alone _ _ (Now c.args.now) _ _ (ap said c.clear.ensures.items) adds))
