-- A client that was led is still led: by the same items and `Forgets` after them, as the asker's `forget_stale` ensures.
use Rattle.std.proofs.Common.{◌∷◌}
use Rattle.zk_turns.specs.Turns.{Forgets}
use Rattle.zk_agent.proofs.agent.Agent.forget_stale.Goals as goal

pub returns-clause-led : goal.returns-clause-led
returns-clause-led g c = λ led. (led.0, Forgets ∷ led.1, c.forget_stale.ensures.stands led.0 led.1 led.2)
