-- The first of five moments: before it none of the five has come (`none_came`), at it one has (`is_first`), and where there is none there
-- is none of the five (`none_left`). What each part of the agent ensures of its own moment tells the rest.
use Rattle.std.proofs.Common.{◌≡◌, ◌<◌, ◌^◌, ℕ, None, sym, ap, subst, ◌∙◌}
use Rattle.std.specs.Prelude.{IfSome}
use Rattle.zk_turns.specs.View.{View}
use Rattle.zk_turns.specs.Taken.{NothingIsDue}
use Rattle.zk_client.specs.Clients.{view_of}
use Rattle.zk_dialler.specs.Dialling.{has_come}
use Rattle.zk_agent.specs.Waits.{ends_at, waited_of}
use Rattle.zk_agent.proofs.Deadlines.{if_some, is_first, loud_by, none_came, none_left, quiet_by}
use Rattle.zk_agent.proofs.agent.Agent.first_due.Goals as goal

pub returns-clause-before : goal.returns-clause-before
returns-clause-before g c =
    let due = c.deadline-due.result in
    let view = view_of c.args.self.now.asker.follower.client in
    let before = subst (λ (v : View). IfSome due (λ first. (moment : ℕ) → moment < first → NothingIsDue v moment)) c.client.ensures
    c.deadline-due.ensures.before in
    let never = subst (λ (v : View). due ≡ None → (moment : ℕ) → moment < 2 ^ 64 → NothingIsDue v moment) c.client.ensures
    c.deadline-due.ensures.never in
    if_some c.first_of_five.result _ (λ first is moment fits below.
    let none = none_came first due c.deadline-attempt.result c.deadline-again.result c.deadline-limit.result c.ends_at-answer.result
    (sym is ∙ c.first_of_five.ensures) moment below in (
      quiet_by (NothingIsDue view) due before never moment fits none.0,
      ap (has_come moment) (sym c.deadline-attempt.ensures) ∙ none.1.0,
      ap (has_come moment) (sym c.deadline-again.ensures) ∙ none.1.1.0,
      ap (has_come moment) (sym c.deadline-limit.ensures) ∙ none.1.1.1.0,
      ap (has_come moment) (sym (c.ends_at-answer.ensures
          ∙ ap (λ timeout. ends_at timeout (waited_of c.args.self.now.waits)) c.timeout_ms-timeout_ms.ensures)) ∙ none.1.1.1.1,
    ))

pub returns-clause-due : goal.returns-clause-due
returns-clause-due g c =
    let due = c.deadline-due.result in
    let view = view_of c.args.self.now.asker.follower.client in
    let loud = subst (λ (v : View). IfSome due (λ first. ¬ (NothingIsDue v first))) c.client.ensures c.deadline-due.ensures.due in
    if_some c.first_of_five.result _ (λ first is nothing.
    loud_by (NothingIsDue view) due first (is_first first due c.deadline-attempt.result c.deadline-again.result c.deadline-limit.result
    c.ends_at-answer.result (sym is ∙ c.first_of_five.ensures)
    (ap (has_come first) c.deadline-attempt.ensures ∙ nothing.1) (ap (has_come first) c.deadline-again.ensures ∙ nothing.2)
    (ap (has_come first) c.deadline-limit.ensures ∙ nothing.3) (ap (has_come first) (c.ends_at-answer.ensures
    ∙ ap (λ timeout. ends_at timeout (waited_of c.args.self.now.waits)) c.timeout_ms-timeout_ms.ensures) ∙ nothing.4)) loud nothing.0)

pub returns-clause-never : goal.returns-clause-never
returns-clause-never g c = λ none moment fits.
    let due = c.deadline-due.result in
    let never = subst (λ (v : View). due ≡ None → (m : ℕ) → m < 2 ^ 64 → NothingIsDue v m) c.client.ensures c.deadline-due.ensures.never in
    let left = none_left due c.deadline-attempt.result c.deadline-again.result c.deadline-limit.result c.ends_at-answer.result
    (sym none ∙ c.first_of_five.ensures) in (
      never left.0 moment fits,
      ap (has_come moment) (sym c.deadline-attempt.ensures ∙ left.1.0),
      ap (has_come moment) (sym c.deadline-again.ensures ∙ left.1.1.0),
      ap (has_come moment) (sym c.deadline-limit.ensures ∙ left.1.1.1.0),
      ap (has_come moment) (sym (c.ends_at-answer.ensures
          ∙ ap (λ timeout. ends_at timeout (waited_of c.args.self.now.waits)) c.timeout_ms-timeout_ms.ensures) ∙ left.1.1.1.1),
    )
