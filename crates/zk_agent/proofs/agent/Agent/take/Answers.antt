-- It is six parts in a row, of which the first and the last alone are given (`in_turn`). Each other clause is what one part ensures,
-- carried through those after it.
use Rattle.std.proofs.Common.{◌≡◌, ◌++◌, [], ◌∷◌, refl, sym, ap, subst, ◌∙◌}
use Rattle.std.specs.Prelude.{All}
use Rattle.zk_session.specs.declared.states.State.TheVariants.{Connected, Expired, Closed}
use Rattle.zk_client.specs.Clients.{view_of}
use Rattle.zk_follow.specs.declared.follower.Follower.{Follower}
use Rattle.zk_follow.specs.Following.{AreFollowed}
use Rattle.zk_dialler.specs.Dialling.{has_come, is_open}
use Rattle.zk_agent.specs.declared.asker.Asker.{Asker}
use Rattle.zk_agent.specs.declared.waits.Waits.{Waits}
use Rattle.zk_agent.specs.Agents.{given_of, trail_of, Presents}
use Rattle.zk_agent.specs.inner.Agents.{Acts}
use Rattle.zk_agent.specs.Calls.{IsInTime}
use Rattle.zk_agent.specs.Credentials.{all_written, unwritten, Papers}
use Rattle.zk_agent.specs.inner.Calls.{IsDone}
use Rattle.zk_agent.specs.Waits.{ends_at, waited_of}
use Rattle.zk_agent.proofs.Lines.{all_served}
use Rattle.zk_agent.proofs.Moves.{in_turn}
use Rattle.zk_agent.proofs.Breaking.{after_acts, beside, err_always}
use Rattle.zk_agent.proofs.agent.Agent.take.Goals as goal

pub returns-clause-comes : goal.returns-clause-comes
returns-clause-comes g c =
    let now = c.args.now in
    let given = given_of c.args.self.now.dialler now c.args.input in
    let first = trail_of c.apply_happening.new.self c.apply_happening.new.actions.items in
    let old = trail_of c.args.self.now c.args.actions.now.items in
    let new = trail_of c.settle.new.self c.settle.new.actions.items in
    let more = λ (papers : Papers). Presents c.args.judged.now (unwritten (is_open c.settle.new.self.dialler.phase) papers) ∷ [] in
    subst (λ papers. Acts now (given ++ more papers) old new) c.in_ok-apply_happening.ensures.papers
    (in_turn now given _ old first (trail_of c.renew.new.self c.renew.new.actions.items)
    (trail_of c.give_up.new.self c.give_up.new.actions.items)
    (trail_of c.send.new.self c.send.new.actions.items) (trail_of c.leave_if_late.new.self c.leave_if_late.new.actions.items) new
    c.in_ok-apply_happening.ensures.comes (c.in_ok-renew.ensures.comes now)
    c.in_ok-give_up.ensures.comes c.in_ok-send.ensures.comes c.in_ok-leave_if_late.ensures.leaves.acts c.in_ok-settle.ensures.comes)

pub returns-clause-papers : goal.returns-clause-papers
returns-clause-papers g c =
    c.in_ok-settle.ensures.papers ∙ ap (all_written (is_open c.settle.new.self.dialler.phase)) c.in_ok-apply_happening.ensures.papers

pub send-requires : goal.send-requires
send-requires g c = record {
  followed = subst (λ (f : Follower g.row.A.Denot). AreFollowed c.args.now (view_of f.client) f.subjects.items)
      (sym c.give_up.ensures.follower) (c.in_ok-renew.ensures.followed c.args.now c.in_ok-apply_happening.ensures.followed);
}

pub returns-clause-followed : goal.returns-clause-followed
returns-clause-followed g c =
    subst (λ (a : Asker g.row.A.Denot). AreFollowed c.args.now (view_of a.follower.client) a.follower.subjects.items)
    (sym c.settle.ensures.asker) (c.in_ok-leave_if_late.ensures.followed c.in_ok-send.ensures.followed)

pub returns-clause-served : goal.returns-clause-served
returns-clause-served g c =
    let asker = c.settle.new.self.asker in
    all_served (view_of asker.follower.client) asker.line.entries.items asker.asked
    (subst (λ (a : Asker g.row.A.Denot). IsDone (view_of a.follower.client) a.line.entries.items) (sym c.settle.ensures.asker)
    (c.in_ok-leave_if_late.ensures.leaves.done c.in_ok-send.ensures.done))

pub returns-clause-limits : goal.returns-clause-limits
returns-clause-limits g c =
    subst (λ (a : Asker g.row.A.Denot). All (IsInTime c.args.now) a.line.entries.items) (sym c.settle.ensures.asker)
    (c.in_ok-leave_if_late.ensures.leaves.limits (c.in_ok-send.ensures.limits c.in_ok-give_up.ensures.limits))

pub returns-clause-closed : goal.returns-clause-closed
returns-clause-closed g c = λ closed.
    let state = λ (a : Asker g.row.A.Denot). (view_of a.follower.client).standing.state in
    let line = λ (a : Asker g.row.A.Denot). a.line.entries.items in
    let sent : state c.send.new.self.asker ≡ Closed =
    c.in_ok-leave_if_late.ensures.leaves.ends Closed refl (sym (ap state c.settle.ensures.asker) ∙ closed) in
    let given_up : state c.give_up.new.self.asker ≡ Closed = c.in_ok-send.ensures.ends Closed refl sent in
    let renewed = sym (ap (λ (f : Follower g.row.A.Denot). (view_of f.client).standing.state) c.give_up.ensures.follower) ∙ given_up in
    let same = c.send.ensures.same (λ connected. let f : Closed ≡ Connected = sym given_up ∙ connected in cc) in
    ap line c.settle.ensures.asker ∙ c.in_ok-leave_if_late.ensures.leaves.none (ap line same ∙ c.in_ok-give_up.ensures.closed renewed)

pub returns-clause-renewed : goal.returns-clause-renewed
returns-clause-renewed g c = λ expired.
    let sent = c.in_ok-leave_if_late.ensures.leaves.ends Expired refl
    (sym (ap (λ (a : Asker g.row.A.Denot). (view_of a.follower.client).standing.state) c.settle.ensures.asker) ∙ expired) in
    let given_up = c.in_ok-send.ensures.ends Expired refl sent in
    c.in_ok-renew.ensures.renewed
    (sym (ap (λ (f : Follower g.row.A.Denot). (view_of f.client).standing.state) c.give_up.ensures.follower) ∙ given_up)

pub returns-clause-dials : goal.returns-clause-dials
returns-clause-dials g c = c.in_ok-settle.ensures.dials

pub returns-clause-answers : goal.returns-clause-answers
returns-clause-answers g c =
    let now = c.args.now in
    let new = c.settle.new.self in
    ap (λ (a : Asker g.row.A.Denot). has_come now (ends_at (view_of a.follower.client).saved.session.timeout (waited_of new.waits)))
    c.settle.ensures.asker
    ∙ ap (λ (w : Waits g.row.A.Denot).
    has_come now (ends_at (view_of c.leave_if_late.new.self.asker.follower.client).saved.session.timeout (waited_of w)))
    c.settle.ensures.waits
    ∙ c.in_ok-leave_if_late.ensures.leaves.answers

pub returns-in_err-renew-clause-broke : goal.returns-in_err-renew-clause-broke
returns-in_err-renew-clause-broke g c =
    let now = c.args.now in
    let given = given_of c.args.self.now.dialler now c.args.input in
    let old = trail_of c.args.self.now c.args.actions.now.items in
    let happened = trail_of c.apply_happening.new.self c.apply_happening.new.actions.items in
    let first = c.in_ok-apply_happening.ensures.comes in
    err_always c.from_residual-in_err-renew.result
    (after_acts now given old happened (view_of c.renew.new.self.asker.follower.client) first c.in_err-renew.ensures.broke)

pub returns-in_err-give_up-clause-broke : goal.returns-in_err-give_up-clause-broke
returns-in_err-give_up-clause-broke g c =
    let now = c.args.now in
    let given = given_of c.args.self.now.dialler now c.args.input in
    let old = trail_of c.args.self.now c.args.actions.now.items in
    let happened = trail_of c.apply_happening.new.self c.apply_happening.new.actions.items in
    let first = c.in_ok-apply_happening.ensures.comes in
    let new = view_of c.give_up.new.self.asker.follower.client in
    let renewed = trail_of c.renew.new.self c.renew.new.actions.items in
    err_always c.from_residual-in_err-give_up.result
    (after_acts now given old happened new first (after_acts now [] happened renewed new (c.in_ok-renew.ensures.comes now)
    (beside renewed.timeout renewed.view new (ap (λ (f : Follower g.row.A.Denot). view_of f.client) c.give_up.ensures.follower))))

pub returns-in_err-send-clause-broke : goal.returns-in_err-send-clause-broke
returns-in_err-send-clause-broke g c =
    let now = c.args.now in
    let given = given_of c.args.self.now.dialler now c.args.input in
    let old = trail_of c.args.self.now c.args.actions.now.items in
    let happened = trail_of c.apply_happening.new.self c.apply_happening.new.actions.items in
    let first = c.in_ok-apply_happening.ensures.comes in
    let new = view_of c.send.new.self.asker.follower.client in
    let renewed = trail_of c.renew.new.self c.renew.new.actions.items in
    let left = trail_of c.give_up.new.self c.give_up.new.actions.items in
    err_always c.from_residual-in_err-send.result
    (after_acts now given old happened new first (after_acts now [] happened renewed new (c.in_ok-renew.ensures.comes now)
    (after_acts now [] renewed left new c.in_ok-give_up.ensures.comes c.in_err-send.ensures.broke)))

pub returns-in_err-leave_if_late-clause-broke : goal.returns-in_err-leave_if_late-clause-broke
returns-in_err-leave_if_late-clause-broke g c =
    let now = c.args.now in
    let given = given_of c.args.self.now.dialler now c.args.input in
    let old = trail_of c.args.self.now c.args.actions.now.items in
    let happened = trail_of c.apply_happening.new.self c.apply_happening.new.actions.items in
    let first = c.in_ok-apply_happening.ensures.comes in
    let new = view_of c.leave_if_late.new.self.asker.follower.client in
    let renewed = trail_of c.renew.new.self c.renew.new.actions.items in
    let left = trail_of c.give_up.new.self c.give_up.new.actions.items in
    let sent = trail_of c.send.new.self c.send.new.actions.items in
    err_always c.from_residual-in_err-leave_if_late.result
    (after_acts now given old happened new first (after_acts now [] happened renewed new (c.in_ok-renew.ensures.comes now)
    (after_acts now [] renewed left new c.in_ok-give_up.ensures.comes
    (after_acts now [] left sent new c.in_ok-send.ensures.comes c.in_err-leave_if_late.ensures.broke))))

pub returns-in_err-settle-clause-broke : goal.returns-in_err-settle-clause-broke
returns-in_err-settle-clause-broke g c =
    let now = c.args.now in
    let given = given_of c.args.self.now.dialler now c.args.input in
    let old = trail_of c.args.self.now c.args.actions.now.items in
    let happened = trail_of c.apply_happening.new.self c.apply_happening.new.actions.items in
    let first = c.in_ok-apply_happening.ensures.comes in
    let new = view_of c.settle.new.self.asker.follower.client in
    let renewed = trail_of c.renew.new.self c.renew.new.actions.items in
    let left = trail_of c.give_up.new.self c.give_up.new.actions.items in
    let sent = trail_of c.send.new.self c.send.new.actions.items in
    let answered = trail_of c.leave_if_late.new.self c.leave_if_late.new.actions.items in
    err_always c.from_residual-in_err-settle.result
    (after_acts now given old happened new first (after_acts now [] happened renewed new (c.in_ok-renew.ensures.comes now)
    (after_acts now [] renewed left new c.in_ok-give_up.ensures.comes
    (after_acts now [] left sent new c.in_ok-send.ensures.comes
    (after_acts now [] sent answered new c.in_ok-leave_if_late.ensures.leaves.acts
    (beside answered.timeout answered.view new (ap (λ (a : Asker g.row.A.Denot). view_of a.follower.client) c.settle.ensures.asker)))))))
