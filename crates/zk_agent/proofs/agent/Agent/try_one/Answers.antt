-- By the test of the state: to a connected client a call may be handed, as `send_one` requires; else nothing is sent (`sends_nothing`).
use Rattle.std.proofs.Common.{inl, inr, refl, sym, subst, ◌∙◌}
use Rattle.std.specs.Prelude.{◌≢◌}
use Rattle.zk_session.specs.declared.states.State.TheVariants.{Connected}
use Rattle.zk_agent.specs.Agents.{trail_of}
use Rattle.zk_agent.proofs.Handing.{is_there, not_connected, sends_nothing}
use Rattle.zk_agent.proofs.agent.Agent.try_one.Goals as goal

pub send_one-requires-clause-connected : goal.send_one-requires-clause-connected
send_one-requires-clause-connected g c = sym c.state.ensures ∙ is_there c.state.result (sym c.is_connected.ensures ∙ c.if-is_connected.true)

pub returns-clause-sends : goal.returns-clause-sends
returns-clause-sends g c =
    let here = trail_of c.args.self.now c.args.actions.now.items in
    sends_nothing c.args.now here here refl (inr (inl (subst (λ state. state ≢ Connected) c.state.ensures
    (not_connected c.state.result (sym c.is_connected.ensures ∙ c.if-is_connected.false)))))

pub returns-then-is_connected-clause-same : goal.returns-then-is_connected-clause-same
returns-then-is_connected-clause-same g c =
    λ away. absurd (away (sym c.state.ensures ∙ is_there c.state.result (sym c.is_connected.ensures ∙ c.if-is_connected.true)))
