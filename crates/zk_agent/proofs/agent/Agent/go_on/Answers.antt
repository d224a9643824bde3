-- At a moment at which nothing is due, and after which nothing is left to be done, the client hears it, and that is all (`comes_idle`,
-- `trees_idle`, `papers_idle`). Else each clause is what `go_further` ensures.
use Rattle.std.proofs.Common.{◌≡◌, ◌≢◌, [], inl, ap, sym, subst, ◌∙◌}
use Rattle.std.specs.Prelude.{All}
use Rattle.zk_session.specs.declared.states.State.TheVariants.{Connected, Expired, Closed}
use Rattle.zk_turns.specs.View.{View}
use Rattle.zk_client.specs.Clients.{view_of}
use Rattle.zk_dialler.specs.Dialling.{has_come}
use Rattle.zk_calls.specs.declared.line.Line.{Line}
use Rattle.zk_calls.specs.Lines.{next_call}
use Rattle.zk_agent.specs.Calls.{IsInTime}
use Rattle.zk_agent.specs.Waits.{ends_at, waited_of}
use Rattle.zk_agent.specs.declared.waits.Waits.{Waits}
use Rattle.zk_agent.proofs.Idling.{comes_idle, decided_idle, in_time, other_state, papers_idle, trees_idle}
use Rattle.zk_agent.proofs.Lines.{all_served}
use Rattle.zk_agent.proofs.Saying.{ok_always, on_ok}
use Rattle.zk_agent.proofs.agent.Agent.go_on.Goals as goal

pub returns-then-rests_at-clause-comes : goal.returns-then-rests_at-clause-comes
returns-then-rests_at-clause-comes g c =
    let rests = c.if-rests_at.true in
    on_ok _ _ c.pass.result (λ comes. comes_idle c.args.now c.args.input c.args.self.now c.pass.new.self c.args.actions.now.items
    (c.rests_at.ensures.moment rests) c.requires (c.pass.ensures.open ∙ c.rests_at.ensures.open rests)
    (c.rests_at.ensures.written rests) (comes [])) c.pass.ensures.comes

pub returns-then-rests_at-clause-trees : goal.returns-then-rests_at-clause-trees
returns-then-rests_at-clause-trees g c =
    let rests = c.if-rests_at.true in
    on_ok _ _ c.pass.result (λ comes. trees_idle c.args.now c.args.input c.args.self.now c.pass.new.self c.args.actions.now.items
    (c.rests_at.ensures.moment rests) c.requires (c.pass.ensures.open ∙ c.rests_at.ensures.open rests)
    (c.rests_at.ensures.written rests) (c.rests_at.ensures.trees rests) c.pass.ensures.trees (comes [])) c.pass.ensures.comes

pub returns-then-rests_at-clause-credentials : goal.returns-then-rests_at-clause-credentials
returns-then-rests_at-clause-credentials g c =
    let rests = c.if-rests_at.true in
    ok_always c.pass.result (papers_idle c.args.now c.args.input c.args.self.now c.pass.new.self c.args.actions.now.items
    (c.rests_at.ensures.moment rests) c.requires (c.pass.ensures.open ∙ c.rests_at.ensures.open rests)
    (c.rests_at.ensures.written rests) c.pass.ensures.credentials)

pub returns-then-rests_at-clause-dials : goal.returns-then-rests_at-clause-dials
returns-then-rests_at-clause-dials g c =
    let rests = c.if-rests_at.true in
    ok_always c.pass.result (λ goes_on. decided_idle c.args.now c.args.input c.args.self.now c.pass.new.self c.args.actions.now.items
    (c.rests_at.ensures.moment rests) c.requires (c.pass.ensures.open ∙ c.rests_at.ensures.open rests) (c.rests_at.ensures.written rests))

pub returns-then-rests_at-clause-served : goal.returns-then-rests_at-clause-served
returns-then-rests_at-clause-served g c =
    let new = c.pass.new.self.asker in
    on_ok _ _ c.pass.result (λ line. all_served (view_of new.follower.client) new.line.entries.items new.asked
    (inl (ap (λ (l : Line g.row.A.Denot). next_call l.entries.items) line ∙ c.rests_at.ensures.next c.if-rests_at.true)))
    c.pass.ensures.line

pub returns-then-rests_at-clause-limits : goal.returns-then-rests_at-clause-limits
returns-then-rests_at-clause-limits g c =
    on_ok _ _ c.pass.result (λ line. subst (λ (l : Line g.row.A.Denot). All (IsInTime c.args.now) l.entries.items) (sym line)
    (in_time c.args.now c.args.self.now.asker.line.entries.items (c.rests_at.ensures.limits c.if-rests_at.true))) c.pass.ensures.line

pub returns-then-rests_at-clause-closed : goal.returns-then-rests_at-clause-closed
returns-then-rests_at-clause-closed g c =
    let differs : Connected ≢ Closed = λ e. let f : Connected ≡ Closed = e in cc in
    let state = (view_of c.pass.new.self.asker.follower.client).standing.state in
    on_ok _ _ c.pass.result (λ view closed. absurd (other_state state Connected Closed
    (ap (λ (v : View). v.standing.state) view ∙ c.rests_at.ensures.connected c.if-rests_at.true) differs closed)) c.pass.ensures.view

pub returns-then-rests_at-clause-renewed : goal.returns-then-rests_at-clause-renewed
returns-then-rests_at-clause-renewed g c =
    let differs : Connected ≢ Expired = λ e. let f : Connected ≡ Expired = e in cc in
    on_ok _ _ c.pass.result (λ view. other_state (view_of c.pass.new.self.asker.follower.client).standing.state Connected Expired
    (ap (λ (v : View). v.standing.state) view ∙ c.rests_at.ensures.connected c.if-rests_at.true) differs) c.pass.ensures.view

pub returns-then-rests_at-clause-answers : goal.returns-then-rests_at-clause-answers
returns-then-rests_at-clause-answers g c =
    let old = c.args.self.now in
    let new = c.pass.new.self in
    on_ok _ _ c.pass.result (λ view.
    ap (λ (v : View). has_come c.args.now (ends_at v.saved.session.timeout (waited_of new.waits))) view
    ∙ ap (λ (w : Waits g.row.A.Denot).
    has_come c.args.now (ends_at (view_of old.asker.follower.client).saved.session.timeout (waited_of w))) c.pass.ensures.waits
    ∙ c.rests_at.ensures.answers c.if-rests_at.true) c.pass.ensures.view
