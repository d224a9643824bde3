-- To follow a subject is the move `Follows` (`gives`, `trail_eq`), and then the client hears the moment: `ok_after`.
use Rattle.std.proofs.Common.{[], ◌∷◌, refl, ap}
use Rattle.zk_turns.specs.Turns.{Now}
use Rattle.zk_client.specs.Clients.{view_of}
use Rattle.zk_calls.specs.declared.line.Line.{Line}
use Rattle.zk_agent.specs.Agents.{trail_of, Follows, Hears}
use Rattle.zk_agent.proofs.Breaking.{beside, err_always}
use Rattle.zk_agent.proofs.Moves.{gives, ok_after, trail_eq}
use Rattle.zk_agent.proofs.agent.Agent.follow.Goals as goal

pub returns-clause-comes : goal.returns-clause-comes
returns-clause-comes g c =
    let old = trail_of c.args.self.now c.args.actions.now.items in
    let between = record old {
      view = view_of c.follow.new.self.follower.client;
      subjects = c.follow.new.self.follower.subjects.items;
      line = c.follow.new.self.line.entries.items;
    } in
    ok_after c.step_client.result c.args.now (Follows c.args.ticket c.args.side c.args.path ∷ [])
    (Hears c.args.now (Now c.args.now) ∷ []) old between (trail_of c.step_client.new.self c.step_client.new.actions.items)
    (gives c.args.now (Follows c.args.ticket c.args.side c.args.path) old between refl refl tt
    (trail_eq _ between (ap view_of c.follow.ensures.client) c.in_ok-follow.ensures.subjects
    (ap (λ (l : Line g.row.A.Denot). l.entries.items) c.follow.ensures.line) refl refl refl refl)) c.step_client.ensures.comes

pub returns-in_err-follow-clause-broke : goal.returns-in_err-follow-clause-broke
returns-in_err-follow-clause-broke g c =
    let old = c.args.self.now in
    let view = view_of old.asker.follower.client in
    err_always c.from_residual.result
    (beside old.timeout_ms view (view_of c.follow.new.self.follower.client) (ap view_of c.follow.ensures.client))
