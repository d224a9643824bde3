-- Where it is no call's turn nothing is sent (`sends_none`); else a call is handed over and acted on, the move `Hands` (`sends_one`).
use Rattle.std.proofs.Common.{refl, ap, subst, sym}
use Rattle.std.specs.Prelude.{OnSome}
use Rattle.zk_client.specs.Clients.{view_of}
use Rattle.zk_follow.specs.Following.{AreFollowed}
use Rattle.zk_agent.specs.declared.asker.Asker.{Asker}
use Rattle.zk_agent.specs.Agents.{trail_of}
use Rattle.zk_agent.proofs.Handing.{followed_as, hands_as, sends_none, sends_one}
use Rattle.zk_turns.specs.Turns as turns
use Rattle.zk_agent.proofs.Breaking.{after_steps, err_always, of_client}
use Rattle.zk_agent.proofs.agent.Agent.send_one.Goals as goal

pub returns-in_default-clause-sends : goal.returns-in_default-clause-sends
returns-in_default-clause-sends g c =
    let old = trail_of c.args.self.now c.args.actions.now.items in
    let new = trail_of (record c.args.self.now { asker = c.hand_over.new.self }) c.hand_over.new.actions.items in
    sends_none c.args.now old new
    (hands_as c.args.now old new c.in_ok-heard.field-0 _ c.in_default.is c.in_ok-heard.ensures.hands) refl refl refl

pub returns-in_default-clause-followed : goal.returns-in_default-clause-followed
returns-in_default-clause-followed g c =
    let old = trail_of c.args.self.now c.args.actions.now.items in
    let new = trail_of (record c.args.self.now { asker = c.hand_over.new.self }) c.hand_over.new.actions.items in
    let hands = hands_as c.args.now old new c.in_ok-heard.field-0 _ c.in_default.is c.in_ok-heard.ensures.hands in
    followed_as c.args.now old.view new.view old.subjects new.subjects hands.1 hands.2 c.requires.followed

pub returns-clause-followed : goal.returns-clause-followed
returns-clause-followed g c =
    let P = λ (a : Asker g.row.A.Denot). AreFollowed c.args.now (view_of a.follower.client) a.follower.subjects.items in
    subst P (sym c.act_on.ensures.asker)
    (subst (λ heard. OnSome heard (P c.hand_over.new.self)) c.in-Some.is c.in_ok-heard.ensures.followed)

pub returns-clause-sends : goal.returns-clause-sends
returns-clause-sends g c =
    let old = trail_of c.args.self.now c.args.actions.now.items in
    let between = trail_of (record c.args.self.now { asker = c.hand_over.new.self }) c.hand_over.new.actions.items in
    sends_one c.args.now old between (trail_of c.act_on.new.self c.act_on.new.actions.items) c.in-Some.heard c.requires.connected
    c.requires.followed
    (hands_as c.args.now old between c.in_ok-heard.field-0 _ c.in-Some.is c.in_ok-heard.ensures.hands)
    (ap (λ (a : Asker g.row.A.Denot). view_of a.follower.client) c.act_on.ensures.asker)
    (ap (λ (a : Asker g.row.A.Denot). a.follower.subjects.items) c.act_on.ensures.asker)
    (ap (λ (a : Asker g.row.A.Denot). a.line.entries.items) c.act_on.ensures.asker) c.act_on.ensures.timeout c.in_ok-act_on.ensures.goes
    c.in_ok-act_on.ensures.waits

pub returns-in_err-heard-clause-broke : goal.returns-in_err-heard-clause-broke
returns-in_err-heard-clause-broke g c =
    err_always c.from_residual.result (of_client c.args.self.now.timeout_ms (view_of c.args.self.now.asker.follower.client)
    (view_of c.hand_over.new.self.follower.client) c.in_err-heard.ensures.broke)

pub returns-in_err-act_on-clause-broke : goal.returns-in_err-act_on-clause-broke
returns-in_err-act_on-clause-broke g c =
    let old = trail_of c.args.self.now c.args.actions.now.items in
    let between = trail_of (record c.args.self.now { asker = c.hand_over.new.self }) c.hand_over.new.actions.items in
    let hands = hands_as c.args.now old between c.in_ok-heard.field-0 _ c.in-Some.is c.in_ok-heard.ensures.hands in
    let takes = hands.3 in
    err_always c.from_residual-in_err-act_on.result
    (after_steps c.args.self.now.timeout_ms c.args.now old.view (turns.Call hands.0 hands.1) old.subjects between.view takes.given
    takes.stepped (view_of c.act_on.new.self.asker.follower.client) takes.steps
    (ap (λ (a : Asker g.row.A.Denot). view_of a.follower.client) c.act_on.ensures.asker))
