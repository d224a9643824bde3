-- To ask a call is the move `Asks`, by which the line ends in its entry (`gives`), and then the client hears the moment: `ok_after`.
use Rattle.std.proofs.Common.{◌++◌, ◌∷◌, [], false, refl, ap}
use Rattle.zk_turns.specs.Turns.{Now}
use Rattle.zk_conversation.specs.Views.{call_view}
use Rattle.zk_client.specs.Clients.{view_of}
use Rattle.zk_follow.specs.declared.follower.Follower.{Follower}
use Rattle.zk_calls.specs.declared.entry.Entry.{Entry}
use Rattle.zk_agent.specs.Agents.{trail_of, Asks, Hears}
use Rattle.zk_agent.proofs.Breaking.{beside, err_always}
use Rattle.zk_agent.proofs.Moves.{gives, ok_after, trail_eq}
use Rattle.zk_agent.proofs.agent.Agent.ask.Goals as goal

pub returns-clause-comes : goal.returns-clause-comes
returns-clause-comes g c =
    let old = trail_of c.args.self.now c.args.actions.now.items in
    let entry : Entry g.row.A.Denot = record { ticket = c.args.ticket; call = c.args.call; until = c.args.until; is_sent = false } in
    let between = record old {
      view = view_of c.ask.new.self.follower.client;
      subjects = c.ask.new.self.follower.subjects.items;
      line = c.ask.new.self.line.entries.items;
    } in
    ok_after c.hear_moment.result c.args.now (Asks c.args.ticket (call_view c.args.call) c.args.until ∷ [])
    (Hears c.args.now (Now c.args.now) ∷ []) old between (trail_of c.hear_moment.new.self c.hear_moment.new.actions.items)
    (gives c.args.now (Asks c.args.ticket (call_view c.args.call) c.args.until) old between refl refl tt (record {
      entry = entry;
      its_ticket = refl;
      its_call = refl;
      its_limit = refl;
      waits = refl;
      last = trail_eq (record old { line = old.line ++ entry ∷ [] }) between
          (ap (λ (f : Follower g.row.A.Denot). view_of f.client) c.ask.ensures.follower)
          (ap (λ (f : Follower g.row.A.Denot). f.subjects.items) c.ask.ensures.follower) c.in_ok-ask.ensures.line refl refl refl refl;
    })) c.hear_moment.ensures.comes

pub returns-in_err-ask-clause-broke : goal.returns-in_err-ask-clause-broke
returns-in_err-ask-clause-broke g c =
    let old = c.args.self.now in
    let view = view_of old.asker.follower.client in
    err_always c.from_residual.result (beside old.timeout_ms view (view_of c.ask.new.self.follower.client)
    (ap (λ (f : Follower g.row.A.Denot). view_of f.client) c.ask.ensures.follower))
