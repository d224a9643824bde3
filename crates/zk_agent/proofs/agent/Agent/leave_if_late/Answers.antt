-- By the test of `is_late`: a server is left only where it is true, as `leave` requires; else none has waited for too long (`not_late`).
use Rattle.std.proofs.Common.{sym, ◌∙◌}
use Rattle.zk_agent.specs.Agents.{trail_of}
use Rattle.zk_agent.proofs.Leaving.{not_late}
use Rattle.zk_agent.proofs.agent.Agent.leave_if_late.Goals as goal

pub leave-requires : goal.leave-requires
leave-requires g c = sym c.is_late.ensures ∙ c.if-is_late.true

pub returns-clause-leaves : goal.returns-clause-leaves
returns-clause-leaves g c =
    not_late c.args.now (trail_of c.args.self.now c.args.actions.now.items) (sym c.is_late.ensures ∙ c.if-is_late.false)
