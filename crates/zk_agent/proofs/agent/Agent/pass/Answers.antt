-- The client hears the moment and says nothing, and the dialler notes its state: `idles`.
use Rattle.std.proofs.Common.{◌∙◌, ap, false, refl}
use Rattle.zk_turns.specs.View.{View}
use Rattle.zk_client.specs.Clients.{view_of}
use Rattle.zk_dialler.specs.declared.dialler.Dialler.{Dialler}
use Rattle.zk_dialler.specs.Dialling.{is_open}
use Rattle.zk_agent.specs.Agents.{noted, trail_of}
use Rattle.zk_agent.specs.Telling.{told_by}
use Rattle.zk_agent.proofs.Breaking.{err_always, of_client}
use Rattle.zk_agent.proofs.Idling.{idles}
use Rattle.zk_agent.proofs.Moves.{noted_phase}
use Rattle.zk_agent.proofs.agent.Agent.pass.Goals as goal

pub returns-clause-comes : goal.returns-clause-comes
returns-clause-comes g c = λ said.
    let now = c.args.now in
    let was = c.args.self.now.dialler in
    let view = view_of c.pass.new.self.follower.client in
    idles now (trail_of c.args.self.now said)
    (trail_of (record c.args.self.now { asker = c.pass.new.self; dialler = c.note_state.new.dialler }) said)
    (c.in_ok-pass.ensures.takes (told_by said))
    (c.note_state.ensures ∙ ap (λ timeout. noted timeout now c.state-state.result was) c.timeout_ms-timeout_ms.ensures
    ∙ ap (λ state. noted view.saved.session.timeout now state was) c.state-state.ensures) refl refl refl
    (ap (λ (v : View). v.saved.last) c.in_ok-pass.ensures.view)

pub returns-clause-open : goal.returns-clause-open
returns-clause-open g c =
    ap (λ (d : Dialler g.row.A.Denot). is_open d.phase) c.note_state.ensures
    ∙ ap is_open (noted_phase c.timeout_ms-timeout_ms.result c.args.now c.state-state.result false c.args.self.now.dialler)

pub returns-in_err-pass-clause-broke : goal.returns-in_err-pass-clause-broke
returns-in_err-pass-clause-broke g c =
    err_always c.from_residual.result (of_client c.args.self.now.timeout_ms (view_of c.args.self.now.asker.follower.client)
    (view_of c.pass.new.self.follower.client) c.in_err-pass.ensures.broke)
