-- By whether a server says that the session is not its own: what `hear_cut` ensures, or nothing, rewritten with the test.
use Rattle.std.proofs.Common.{sym, subst, refl}
use Rattle.std.specs.Prelude.{OnOk}
use Rattle.zk_agent.specs.Agents.{trail_of, LeavesWhere}
use Rattle.zk_agent.proofs.agent.Agent.leave_where_lost.Goals as goal

pub returns-then-is_lost-clause-leaves : goal.returns-then-is_lost-clause-leaves
returns-then-is_lost-clause-leaves g c =
    subst (λ lost. OnOk c.hear_cut.result (LeavesWhere lost c.args.now (trail_of c.args.self.now c.args.actions.now.items)
    (trail_of c.hear_cut.new.self c.hear_cut.new.actions.items))) (sym c.if-is_lost.true) c.hear_cut.ensures.hears

pub returns-clause-leaves : goal.returns-clause-leaves
returns-clause-leaves g c =
    let old = trail_of c.args.self.now c.args.actions.now.items in
    subst (λ lost. LeavesWhere lost c.args.now old old) (sym c.if-is_lost.false) refl
