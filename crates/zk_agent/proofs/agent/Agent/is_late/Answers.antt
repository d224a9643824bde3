-- Whether an answer is late: by what `has_come`, `ends_at` and `timeout_ms` ensure, rewritten one after the other.
use Rattle.std.proofs.Common.{ap, ◌∙◌}
use Rattle.zk_dialler.specs.Dialling.{has_come}
use Rattle.zk_agent.specs.Waits.{ends_at, waited_of}
use Rattle.zk_agent.proofs.agent.Agent.is_late.Goals as goal

pub returns : goal.returns
returns g c =
    c.has_come.ensures
    ∙ ap (has_come c.args.now)
    (c.ends_at-moment.ensures ∙ ap (λ timeout. ends_at timeout (waited_of c.args.self.now.waits)) c.timeout_ms-timeout_ms.ensures)
