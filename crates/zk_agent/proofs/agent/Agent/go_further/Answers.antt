-- Trees grow first, by moves of the agent's own, and then it takes its input and tells of credentials (`made`): both together are moves.
-- What was said is noted of the trees at last. Each other clause is what `take` ensures.
use Rattle.std.proofs.Common.{[], List, ap, subst, ◌∙◌}
use Rattle.zk_client.specs.Clients.{view_of}
use Rattle.zk_trees.specs.declared.tree.Trees.{Trees}
use Rattle.zk_dialler.specs.Dialling.{is_open}
use Rattle.zk_agent.specs.Agents.{moves_of, trail_of, Comes}
use Rattle.zk_agent.specs.Credentials.{all_written, judging_of, papers_of, with_credential, with_judging, Judging}
use Rattle.zk_agent.specs.Trees.{noted_by, Grows}
use Rattle.zk_agent.specs.declared.action.Action.{Action}
use Rattle.zk_agent.specs.declared.agent.Agent.{Agent}
use Rattle.zk_agent.specs.declared.credentials.Credentials.{Credentials}
use Rattle.zk_agent.specs.declared.input.AgentInput.{AgentInput}
use Rattle.zk_agent.proofs.Moves.{comes_after, made}
use Rattle.zk_agent.proofs.Breaking.{after_comes, beside, err_always}
use Rattle.zk_agent.proofs.Tended.{told_grown}
use Rattle.zk_agent.proofs.agent.Agent.go_further.Goals as goal

pub returns-clause-comes : goal.returns-clause-comes
returns-clause-comes g c =
    let now = c.args.now in
    let old = trail_of c.args.self.now in
    let given = moves_of (is_open c.take.new.self.dialler.phase) now c.args.input c.args.self.now in
    let grown = trail_of c.prepare.new.self c.prepare.new.actions.items in
    let new = trail_of c.take.new.self c.take.new.actions.items in
    comes_after now [] given (old []) grown new
    (subst (λ items. Comes now [] (old items) grown) c.requires c.in_ok-judged.ensures.comes)
    (made (is_open c.take.new.self.dialler.phase) now c.args.input c.args.self.now c.replace-credentials.result c.as_slice-told.result.now
    c.in_ok-judged.judged.items
    (papers_of c.prepare.new.credentials) c.prepare.new.self.dialler grown new c.replace-credentials.ensures.value
    c.as_slice-told.ensures.value c.in_ok-judged.ensures.judged c.in_ok-judged.ensures.papers
    c.prepare.ensures.dialler c.in_ok-take.ensures.comes).comes

pub returns-clause-trees : goal.returns-clause-trees
returns-clause-trees g c =
    let now = c.args.now in
    let old = trail_of c.args.self.now in
    let grown = trail_of c.prepare.new.self c.prepare.new.actions.items in
    let new = trail_of c.take.new.self c.take.new.actions.items in
    let grows = subst (λ (t : Trees g.row.A.Denot). Grows now c.args.input t c.prepare.new.trees (old []) grown)
    c.replace-trees.ensures.value
    (subst (λ items. Grows now c.args.input c.replace-trees.result c.prepare.new.trees (old items) grown) c.requires
    c.in_ok-judged.ensures.grows) in
    let acts = made (is_open c.take.new.self.dialler.phase) now c.args.input c.args.self.now c.replace-credentials.result
    c.as_slice-told.result.now c.in_ok-judged.judged.items
    (papers_of c.prepare.new.credentials) c.prepare.new.self.dialler grown new c.replace-credentials.ensures.value
    c.as_slice-told.ensures.value c.in_ok-judged.ensures.judged c.in_ok-judged.ensures.papers
    c.prepare.ensures.dialler c.in_ok-take.ensures.comes in
    record {
      grown = grown;
      trees = c.prepare.new.trees;
      grows = grows;
      rest = acts.comes;
      told = told_grown now (moves_of (is_open c.take.new.self.dialler.phase) now c.args.input c.args.self.now) c.args.input c.args.self.now
          c.prepare.new.trees grown new grows acts;
      noted = c.note_all.ensures.all
          ∙ ap (λ (l : List (Action g.row.A.Denot)). noted_by l c.prepare.new.trees.all.items) c.as_slice.ensures.value;
      next = c.note_all.ensures.next;
      due = c.note_all.ensures.due;
    }

-- what the bytes of an input answer, of these credentials
abbrev judging_with : {A : Type 0} → AgentInput A → Agent A → Credentials A → Judging
judging_with input agent was =
    judging_of (is_open agent.dialler.phase) (view_of agent.asker.follower.client).standing.state agent.waits.came input (papers_of was)

pub returns-clause-credentials : goal.returns-clause-credentials
returns-clause-credentials g c =
    c.in_ok-take.ensures.papers
    ∙ ap (λ papers. all_written (is_open c.take.new.self.dialler.phase) (with_credential c.args.input papers))
    (c.in_ok-judged.ensures.papers
    ∙ ap (λ (was : Credentials g.row.A.Denot). with_judging (judging_with c.args.input c.args.self.now was) (papers_of was))
    c.replace-credentials.ensures.value)

pub returns-in_err-judged-clause-broke : goal.returns-in_err-judged-clause-broke
returns-in_err-judged-clause-broke g c =
    let old = trail_of c.args.self.now [] in
    err_always c.from_residual.result
    (beside old.timeout old.view (view_of c.prepare.new.self.asker.follower.client)
    (ap (λ client. view_of client) c.prepare.ensures.client))

pub returns-in_err-take-clause-broke : goal.returns-in_err-take-clause-broke
returns-in_err-take-clause-broke g c =
    let now = c.args.now in
    let old = trail_of c.args.self.now in
    let grown = trail_of c.prepare.new.self c.prepare.new.actions.items in
    err_always c.from_residual-in_err-take.result
    (after_comes now [] (old []) grown (view_of c.take.new.self.asker.follower.client)
    (subst (λ items. Comes now [] (old items) grown) c.requires c.in_ok-judged.ensures.comes)
    c.in_err-take.ensures.broke)
