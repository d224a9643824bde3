-- Where it is no call's turn nothing is handed over, and the line is as it was: `none_handed`, of what `next` ensures.
use Rattle.std.proofs.Common.{refl, sym, ap, ◌∙◌}
use Rattle.std.specs.Option.{option_map}
use Rattle.zk_client.specs.Clients.{view_of}
use Rattle.zk_follow.proofs.Breaking.{beside, err_always}
use Rattle.zk_agent.proofs.Lines.{none_handed}
use Rattle.zk_agent.proofs.advancing.hand_over.Goals as goal

pub returns-in_default-clause-hands : goal.returns-in_default-clause-hands
returns-in_default-clause-hands g c =
    let none = sym c.in_ok-ticket.ensures.next ∙ ap (option_map _) c.in_default.is in
    (none, refl, refl, c.in_ok-ticket.ensures.entries ∙ none_handed c.args.line.now.entries.items none, refl)

pub returns-in_err-ticket-clause-broke : goal.returns-in_err-ticket-clause-broke
returns-in_err-ticket-clause-broke g c =
    err_always c.from_residual.result (beside (view_of c.args.follower.now.client))
