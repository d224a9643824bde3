-- Where it is quiet, what `pass` ensures whatever was said; else what `step_client` does.
use Rattle.zk_agent.proofs.Saying.{on_ok}
use Rattle.zk_agent.proofs.agent.Agent.hear_moment.Goals as goal

pub returns-then-is_quiet_at-clause-comes : goal.returns-then-is_quiet_at-clause-comes
returns-then-is_quiet_at-clause-comes g c =
    on_ok _ _ c.pass.result (λ comes. comes c.args.actions.now.items) c.pass.ensures.comes
