-- By the test of a close: after a close nothing is due at any moment. Else it is the first of two: what `first_due` ensures of one, and
-- what the trees ensure of the other (`quiet_before`, `due_first`, `quiet_ever`).
use Rattle.std.proofs.Common.{◌≡◌, ◌<◌, ◌^◌, ℕ, None, sym, subst, ◌∙◌, true}
use Rattle.std.specs.Prelude.{IfSome}
use Rattle.zk_client.specs.Clients.{view_of}
use Rattle.zk_trees.specs.Tending.{are_at_rest}
use Rattle.zk_agent.specs.Agents.{NothingIn, NothingOpen}
use Rattle.zk_agent.proofs.Closing.{not_closed}
use Rattle.zk_agent.proofs.Resting.{due_first, quiet_before, quiet_ever}
use Rattle.zk_agent.proofs.agent.Agent.deadline.Goals as goal

pub returns-then-is_closed-clause-never : goal.returns-then-is_closed-clause-never
returns-then-is_closed-clause-never g c =
    λ none moment fits. subst (λ b. NothingIn b c.args.self.now moment) (sym c.if-is_closed.true ∙ c.is_closed.ensures) tt

pub returns-clause-before : goal.returns-clause-before
returns-clause-before g c =
    let agent = c.args.self.now in
    subst (λ b. IfSome c.first_of.result (λ first. (moment : ℕ) → moment < 2 ^ 64 → moment < first → NothingIn b agent moment))
    (sym c.if-is_closed.false ∙ c.is_closed.ensures)
    (quiet_before (NothingOpen agent)
    (λ moment. are_at_rest moment agent.trees ≡ true) c.first_due.result c.deadline.result c.first_of.result
    c.first_of.ensures c.first_due.ensures.before c.first_due.ensures.never c.deadline.ensures.before c.deadline.ensures.never)

pub returns-clause-due : goal.returns-clause-due
returns-clause-due g c =
    let agent = c.args.self.now in
    subst (λ b. IfSome c.first_of.result (λ first. ¬ (NothingIn b agent first)))
    (sym c.if-is_closed.false ∙ c.is_closed.ensures)
    (due_first (NothingOpen agent) (λ moment. are_at_rest moment agent.trees) c.first_due.result c.deadline.result c.first_of.result
    c.first_of.ensures c.first_due.ensures.due c.deadline.ensures.due)

pub returns-clause-never : goal.returns-clause-never
returns-clause-never g c =
    let agent = c.args.self.now in
    subst (λ b. c.first_of.result ≡ None → (moment : ℕ) → moment < 2 ^ 64 → NothingIn b agent moment)
    (sym c.if-is_closed.false ∙ c.is_closed.ensures)
    (quiet_ever (NothingOpen agent) (λ moment. are_at_rest moment agent.trees ≡ true) c.first_due.result c.deadline.result c.first_of.result
    c.first_of.ensures c.first_due.ensures.never c.deadline.ensures.never)

pub returns-clause-closed : goal.returns-clause-closed
returns-clause-closed g c = λ is.
    absurd (not_closed (view_of c.args.self.now.asker.follower.client).standing.state (sym c.is_closed.ensures ∙ c.if-is_closed.false) is)
