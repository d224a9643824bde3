-- What is due at the sooner of two moments is due at one of them: `sooner_due`.
use Rattle.std.proofs.Common.{◌∙◌, ℕ, Option, IfSome, ap, subst, sym}
use Rattle.zk_contend.specs.Collections.{sooner}
use Rattle.zk_agent.specs.Agents.{NothingAt}
use Rattle.ffi_device.specs.Contending.{until_in, NothingDue}
use Rattle.ffi_device.proofs.Deadlines.{sooner_due}
use Rattle.ffi_device.proofs.device.Device.deadline.Goals as goal

pub returns-clause-due : goal.returns-clause-due
returns-clause-due c =
    subst (λ (found : Option ℕ). IfSome found (λ first. ¬ (NothingDue c.args.self.now first)))
    (sym (c.sooner.ensures ∙ ap (λ (other : Option ℕ). sooner c.deadline.result other) c.pause.ensures))
    (sooner_due (NothingAt c.args.self.now.agent) c.deadline.result (until_in c.args.self.now) c.deadline.ensures.due)
