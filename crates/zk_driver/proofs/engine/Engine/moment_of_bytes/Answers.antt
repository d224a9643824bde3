-- Where the moment told is before this one, something is due right after it: arithmetic on the minimum, and what `deadline` ensures.
use Rattle.std.proofs.Common.{◌≡◌, ◌+◌, subst, arith}
use Rattle.std.proofs.lemmas.Bool.Decides.{nat_tests}
use Rattle.zk_agent.specs.Agents.{NothingAt}
use Rattle.zk_driver.proofs.engine.Engine.moment_of_bytes.Goals as goal

-- told is the moment before the first one at which something is due
pub returns-in-Some-clause-last : goal.returns-in-Some-clause-last
returns-in-Some-clause-last g c = λ some less.
    let before = c.saturating_sub.ensures in
    let first_of = c.min.ensures in
    let is : c.in-Some.first ≡ c.min.result + 1 = grind (arith, nat_tests) in
    subst (λ moment. ¬ (NothingAt c.args.self.now.agent moment)) is c.in-Some.ensures.due
