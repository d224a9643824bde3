-- To unfollow is the move `Unfollows` (`gives`, `trail_eq`), and then the client hears the moment: `ok_after`.
use Rattle.std.proofs.Common.{[], ◌∷◌, refl, ap}
use Rattle.zk_turns.specs.Turns.{Now}
use Rattle.zk_client.specs.Clients.{view_of}
use Rattle.zk_calls.specs.declared.line.Line.{Line}
use Rattle.zk_agent.specs.Agents.{trail_of, Hears, Unfollows}
use Rattle.zk_agent.proofs.Moves.{gives, ok_after, trail_eq}
use Rattle.zk_agent.proofs.agent.Agent.unfollow.Goals as goal

pub returns-clause-comes : goal.returns-clause-comes
returns-clause-comes g c =
    let old = trail_of c.args.self.now c.args.actions.now.items in
    let between = record old {
      view = view_of c.unfollow.new.self.follower.client;
      subjects = c.unfollow.new.self.follower.subjects.items;
      line = c.unfollow.new.self.line.entries.items;
    } in
    ok_after c.step_client.result c.args.now (Unfollows c.args.ticket ∷ []) (Hears c.args.now (Now c.args.now) ∷ []) old between
    (trail_of c.step_client.new.self c.step_client.new.actions.items)
    (gives c.args.now (Unfollows c.args.ticket) old between refl refl tt (trail_eq _ between (ap view_of c.unfollow.ensures.client)
    c.unfollow.ensures.subjects (ap (λ (l : Line g.row.A.Denot). l.entries.items) c.unfollow.ensures.line) refl refl refl refl))
    c.step_client.ensures.comes
