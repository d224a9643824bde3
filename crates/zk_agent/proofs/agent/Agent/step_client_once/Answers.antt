-- The client takes an input and the agent acts on what it says: `taken_and`, of what `step` and `act_on` ensure. No call is heard this way.
use Rattle.std.proofs.Common.{sym, ap, subst, ◌∙◌}
use Rattle.zk_client.specs.Clients.{view_of}
use Rattle.zk_client.specs.Views.{input_view}
use Rattle.zk_dialler.specs.Dialling.{is_open}
use Rattle.zk_follow.specs.Following.{AreFollowed}
use Rattle.zk_agent.specs.declared.asker.Asker.{Asker}
use Rattle.zk_agent.specs.Agents.{trail_of}
use Rattle.zk_agent.specs.Waits.{waited_after}
use Rattle.zk_agent.proofs.Moves.{may_hear, not_handed, taken_and}
use Rattle.zk_agent.proofs.Breaking.{after_steps, err_always, of_client}
use Rattle.zk_agent.proofs.agent.Agent.step_client_once.Goals as goal

pub returns-clause-followed : goal.returns-clause-followed
returns-clause-followed g c =
    subst (λ (a : Asker g.row.A.Denot). AreFollowed c.args.now (view_of a.follower.client) a.follower.subjects.items)
    (sym c.act_on.ensures.asker) c.in_ok-heard.ensures.followed

pub returns-clause-hears : goal.returns-clause-hears
returns-clause-hears g c =
    let old = trail_of c.args.self.now c.args.actions.now.items in
    let new = trail_of c.act_on.new.self c.act_on.new.actions.items in
    let input = input_view c.args.input in
    taken_and c.args.now input old new
    (trail_of (record c.args.self.now { asker = c.step.new.self }) c.step.new.actions.items) old.line c.in_ok-heard.heard
    (may_hear c.args.now input old c.requires) (not_handed input (is_open old.dialler.phase) old.line c.requires)
    c.in_ok-heard.ensures.takes
    (ap (λ (a : Asker g.row.A.Denot). view_of a.follower.client) c.act_on.ensures.asker)
    (ap (λ (a : Asker g.row.A.Denot). a.follower.subjects.items) c.act_on.ensures.asker)
    (ap (λ (a : Asker g.row.A.Denot). a.line.entries.items) c.act_on.ensures.asker) c.act_on.ensures.timeout c.in_ok-act_on.ensures.goes
    (c.in_ok-act_on.ensures.waits ∙ ap (waited_after c.args.now c.in_ok-heard.heard.sent) c.note_answers.ensures)

pub returns-in_err-heard-clause-broke : goal.returns-in_err-heard-clause-broke
returns-in_err-heard-clause-broke g c =
    err_always c.from_residual.result (of_client c.args.self.now.timeout_ms (view_of c.args.self.now.asker.follower.client)
    (view_of c.step.new.self.follower.client) c.in_err-heard.ensures.broke)

pub returns-in_err-act_on-clause-broke : goal.returns-in_err-act_on-clause-broke
returns-in_err-act_on-clause-broke g c =
    let old = trail_of c.args.self.now c.args.actions.now.items in
    let takes = c.in_ok-heard.ensures.takes in
    err_always c.from_residual-in_err-act_on.result
    (after_steps c.args.self.now.timeout_ms c.args.now old.view (input_view c.args.input) old.subjects
    (view_of c.step.new.self.follower.client) takes.given takes.stepped (view_of c.act_on.new.self.asker.follower.client) takes.steps
    (ap (λ (a : Asker g.row.A.Denot). view_of a.follower.client) c.act_on.ensures.asker))
