-- It is one part, `go_on`, at the later of the two moments (`max-now`). Over its moves calls balance (`calls_balance`).
use Rattle.std.proofs.Common.{[], ◌+◌, ap, refl, subst, ◌∙◌}
use Rattle.std.specs.Prelude.{◌≢◌}
use Rattle.zk_session.specs.declared.states.State.TheVariants.{Closed}
use Rattle.zk_client.specs.Clients.{view_of}
use Rattle.zk_dialler.specs.Dialling.{is_open}
use Rattle.zk_agent.specs.Agents.{heard_after, moves_of, trail_of, Comes, IsDecided}
use Rattle.zk_agent.specs.Calls.{how_many}
use Rattle.zk_agent.specs.Trees.{GoesOn}
use Rattle.zk_agent.proofs.Counting.{asks_made, calls_balance}
use Rattle.zk_agent.proofs.agent.Agent.step_into.Goals as goal

pub returns-clause-comes : goal.returns-clause-comes
returns-clause-comes g c =
    let old = c.args.self.now in
    let new = c.go_on.new.self in
    subst (λ now. Comes now (moves_of (is_open new.dialler.phase) now c.args.input old) (trail_of old [])
    (trail_of new c.go_on.new.actions.items)) c.max-now.ensures c.in_ok-go_on.ensures.comes

pub returns-clause-calls : goal.returns-clause-calls
returns-clause-calls g c = λ ticket.
    let now = c.max-now.result in
    let old = trail_of c.args.self.now [] in
    let there = is_open c.go_on.new.self.dialler.phase in
    calls_balance now (moves_of there now c.args.input c.args.self.now) old (trail_of c.go_on.new.self c.go_on.new.actions.items)
    c.in_ok-go_on.ensures.comes refl ticket
    ∙ ap (λ n. how_many ticket old.line + n) (asks_made ticket there now c.args.input c.args.self.now)

pub returns-clause-trees : goal.returns-clause-trees
returns-clause-trees g c =
    let old = c.args.self.now in
    let new = c.go_on.new.self in
    let goes = subst (λ now. GoesOn now c.args.input old new c.go_on.new.actions.items) c.max-now.ensures c.in_ok-go_on.ensures.trees in
    record {
      grown = goes.grown;
      trees = goes.trees;
      grows = goes.grows;
      rest = goes.rest;
      told = goes.told;
      noted = goes.noted;
      next = goes.next;
      due = goes.due;
    }

pub returns-clause-heard : goal.returns-clause-heard
returns-clause-heard g c =
    let old = c.args.self.now in
    c.heard_moment-heard_at.ensures
    ∙ ap (λ b. heard_after b c.max-now.result c.args.input old.heard_at) c.is_open.ensures
    ∙ ap (λ now. heard_after (is_open old.dialler.phase) now c.args.input old.heard_at) c.max-now.ensures

pub returns-clause-dials : goal.returns-clause-dials
returns-clause-dials g c =
    let new = trail_of c.go_on.new.self c.go_on.new.actions.items in
    subst (λ now. (view_of c.go_on.new.self.asker.follower.client).standing.state ≢ Closed → IsDecided now new) c.max-now.ensures
    c.in_ok-go_on.ensures.dials
