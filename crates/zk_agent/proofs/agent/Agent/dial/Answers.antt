-- By the test of a close: after a close nothing is done (`nothing`); else the dialler decides, as the last move (`decided`).
use Rattle.std.proofs.Common.{refl, subst, sym, ◌∙◌}
use Rattle.zk_client.specs.Clients.{view_of}
use Rattle.zk_dialler.specs.Dialling.{DialsWell}
use Rattle.zk_agent.specs.Agents.{trail_of}
use Rattle.zk_agent.specs.Telling.{told_by}
use Rattle.zk_agent.proofs.Closing.{is_shut, not_closed}
use Rattle.zk_agent.proofs.Moves.{decided, decides_none, nothing, trail_eq}
use Rattle.zk_agent.proofs.Saying.{on_ok}
use Rattle.zk_agent.proofs.agent.Agent.dial.Goals as goal

pub returns-clause-comes : goal.returns-clause-comes
returns-clause-comes g c =
    let old = trail_of c.args.self.now c.args.actions.now.items in
    let new = record old { dialler = c.due-due.new.self; told = told_by c.push_due.new.actions.items } in
    on_ok _ _ c.push_due.result (λ told. decided old new c.timeout_ms-timeout_ms.result c.args.now c.due-due.result
    (not_closed (view_of c.args.self.now.asker.follower.client).standing.state (sym c.is_closed.ensures ∙ c.if-is_closed.false))
    c.timeout_ms-timeout_ms.ensures c.due-due.ensures.well c.due-due.ensures.told (trail_eq _ new refl refl refl refl refl refl told))
    c.push_due.ensures

pub returns-then-is_closed-clause-comes : goal.returns-then-is_closed-clause-comes
returns-then-is_closed-clause-comes g c = nothing c.args.now (trail_of c.args.self.now c.args.actions.now.items)

pub returns-clause-open : goal.returns-clause-open
returns-clause-open g c =
    decides_none c.timeout_ms-timeout_ms.result c.args.now c.args.self.now.dialler c.due-due.new.self c.due-due.result
    c.due-due.ensures.well

pub returns-clause-dials : goal.returns-clause-dials
returns-clause-dials g c = λ goes_on.
    on_ok _ _ c.push_due.result (λ told. record {
      before = c.args.self.now.dialler;
      due = c.due-due.result;
      dials = subst (λ timeout. DialsWell timeout c.args.now c.args.self.now.dialler c.due-due.new.self c.due-due.result)
          c.timeout_ms-timeout_ms.ensures c.due-due.ensures.well;
      all = c.due-due.ensures.told;
      rest = told_by c.args.actions.now.items;
      told = told;
    }) c.push_due.ensures

pub returns-then-is_closed-clause-dials : goal.returns-then-is_closed-clause-dials
returns-then-is_closed-clause-dials g c = λ goes_on. absurd
    (goes_on (is_shut (view_of c.args.self.now.asker.follower.client).standing.state (sym c.is_closed.ensures ∙ c.if-is_closed.true)))
