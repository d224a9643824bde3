-- Each subject is doubted (`trail_eq`), and the client hears the moment after that: the first half of what `step_client_once` ensures.
use Rattle.std.proofs.Common.{map, refl, ap, subst}
use Rattle.zk_turns.specs.Turns.{Now}
use Rattle.zk_client.specs.Clients.{view_of}
use Rattle.zk_follow.specs.Following.{doubted}
use Rattle.zk_calls.specs.declared.line.Line.{Line}
use Rattle.zk_agent.specs.Agents.{trail_of, HearsSo}
use Rattle.zk_agent.proofs.Moves.{trail_eq}
use Rattle.zk_agent.proofs.agent.Agent.read_anew.Goals as goal

pub returns-clause-doubts : goal.returns-clause-doubts
returns-clause-doubts g c =
    let old = trail_of c.args.self.now c.args.actions.now.items in
    let between = trail_of (record c.args.self.now { asker = c.doubt_all.new.self }) c.args.actions.now.items in
    subst (λ first. HearsSo c.args.now (Now c.args.now) first (trail_of c.step_client_once.new.self c.step_client_once.new.actions.items))
    (trail_eq (record old { subjects = map doubted old.subjects }) between (ap view_of c.doubt_all.ensures.client)
    c.doubt_all.ensures.subjects (ap (λ (l : Line g.row.A.Denot). l.entries.items) c.doubt_all.ensures.line) refl refl refl refl)
    c.in_ok-_is_lost.ensures.hears.0
