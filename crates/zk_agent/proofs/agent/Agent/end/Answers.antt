-- That the connection is over is the move `Ended` (`ended`), and then the client hears the cut: `ok_after`.
use Rattle.std.proofs.Common.{[], ◌∷◌, refl}
use Rattle.zk_turns.specs.Turns.{Cut}
use Rattle.zk_agent.specs.Agents.{trail_of, Ended, Hears}
use Rattle.zk_agent.proofs.Moves.{ended, ok_after}
use Rattle.zk_agent.proofs.agent.Agent.end.Goals as goal

pub returns-clause-comes : goal.returns-clause-comes
returns-clause-comes g c =
    let old = trail_of c.args.self.now c.args.actions.now.items in
    let between = record old { dialler = c.end.new.self } in
    ok_after c.step_client.result c.args.now (Ended c.args.now ∷ []) (Hears c.args.now Cut ∷ []) old between
    (trail_of c.step_client.new.self c.step_client.new.actions.items)
    (ended old between c.timeout_ms-timeout_ms.result c.args.now c.timeout_ms-timeout_ms.ensures c.end.ensures refl)
    c.step_client.ensures.comes
