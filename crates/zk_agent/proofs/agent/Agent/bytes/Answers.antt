-- By whether there is a connection, the client hears the bytes or the moment alone: what `step_client` ensures, rewritten with the test.
use Rattle.std.proofs.Common.{sym, subst, ◌∙◌}
use Rattle.std.specs.Prelude.{OnOk}
use Rattle.zk_agent.specs.Agents.{bytes_at, trail_of}
use Rattle.zk_agent.specs.inner.Agents.{Acts}
use Rattle.zk_agent.proofs.agent.Agent.bytes.Goals as goal

pub returns-then-is_open-clause-comes : goal.returns-then-is_open-clause-comes
returns-then-is_open-clause-comes g c =
    subst (λ there. OnOk c.step_client.result
    (Acts c.args.now (bytes_at there c.args.now c.args.bytes.items) (trail_of c.args.self.now c.args.actions.now.items)
    (trail_of c.step_client.new.self c.step_client.new.actions.items)))
    (sym c.if-is_open.true ∙ c.is_open.ensures) c.step_client.ensures.comes

pub returns-clause-comes : goal.returns-clause-comes
returns-clause-comes g c =
    subst (λ there. OnOk c.step_client-2.result
    (Acts c.args.now (bytes_at there c.args.now c.args.bytes.items) (trail_of c.args.self.now c.args.actions.now.items)
    (trail_of c.step_client-2.new.self c.step_client-2.new.actions.items)))
    (sym c.if-is_open.false ∙ c.is_open.ensures) c.step_client-2.ensures.comes
