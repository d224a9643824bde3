-- Each turn adds moves (`then_none`), and fewer calls wait (`fewer_left`); the invariant tells at the end that none waits or can be sent.
use Rattle.std.proofs.Common.{◌≢◌, [], refl, sym, subst, ◌∙◌}
use Rattle.zk_session.specs.declared.states.State.TheVariants.{Connected}
use Rattle.zk_client.specs.Clients.{view_of}
use Rattle.zk_agent.specs.declared.asker.Asker.{Asker}
use Rattle.zk_agent.specs.Agents.{trail_of}
use Rattle.zk_agent.specs.inner.Calls.{how_many_wait}
use Rattle.zk_agent.proofs.Handing.{fewer_left}
use Rattle.zk_agent.proofs.Moves.{nothing, then_none}
use Rattle.zk_agent.proofs.Breaking.{after_acts, err_always}
use Rattle.zk_agent.proofs.agent.Agent.send.Goals as goal

pub loop-goes_on-init : goal.loop-goes_on-init
loop-goes_on-init g c = record {
  comes = nothing c.args.now (trail_of c.args.self.now c.args.actions.now.items);
  followed = c.requires.followed;
  limits = λ all. all;
  same = λ away. refl;
  ends = λ state final is. is;
  done = λ e. absurd cc;
}

pub loop-goes_on-preserved : goal.loop-goes_on-preserved
loop-goes_on-preserved g c = record {
  comes = then_none c.args.now [] (trail_of c.args.self.now c.args.actions.now.items)
      (trail_of c.loop-goes_on.self c.loop-goes_on.actions.items) (trail_of c.try_one.new.self c.try_one.new.actions.items)
      c.loop-goes_on.invariant.comes c.in_ok-goes_on.ensures.sends.acts;
  followed = c.in_ok-goes_on.ensures.followed;
  limits = λ all. c.in_ok-goes_on.ensures.sends.limits (c.loop-goes_on.invariant.limits all);
  same = λ away.
      let before = c.loop-goes_on.invariant.same away in
      c.try_one.ensures.same (subst (λ (a : Asker g.row.A.Denot). (view_of a.follower.client).standing.state ≢ Connected) (sym before) away)
      ∙ before;
  ends = λ state final is. c.loop-goes_on.invariant.ends state final (c.in_ok-goes_on.ensures.sends.ends state final is);
  done = c.in_ok-goes_on.ensures.sends.none;
}

pub loop-goes_on-smaller : goal.loop-goes_on-smaller
loop-goes_on-smaller g c =
    fewer_left c.loop-goes_on.goes_on c.in_ok-goes_on.goes_on (how_many_wait c.loop-goes_on.self.asker.line.entries.items)
    (how_many_wait c.try_one.new.self.asker.line.entries.items)
    c.loop-goes_on-test.true c.in_ok-goes_on.ensures.sends.more

pub returns-clause-comes : goal.returns-clause-comes
returns-clause-comes g c = c.loop-goes_on.invariant.comes

pub returns-clause-done : goal.returns-clause-done
returns-clause-done g c = c.loop-goes_on.invariant.done c.loop-goes_on-test.false

pub returns-in_err-goes_on-clause-broke : goal.returns-in_err-goes_on-clause-broke
returns-in_err-goes_on-clause-broke g c =
    err_always c.from_residual.result (after_acts c.args.now [] (trail_of c.args.self.now c.args.actions.now.items)
    (trail_of c.loop-goes_on.self c.loop-goes_on.actions.items) (view_of c.try_one.new.self.asker.follower.client)
    c.loop-goes_on.invariant.comes c.in_err-goes_on.ensures.broke)
