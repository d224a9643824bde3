-- Rounds and pops are joined to one course and one flow: `after` and `flow_after`, where a pop changes nothing (`same`, `flow_same`). What
-- waits is only added to, also where a round fails: `extends_on`.
use Rattle.std.proofs.Common.{◌≡◌, [], None, Option, append-nil, refl, sym, subst}
use Rattle.zk_agent.specs.Telling.{told_by}
use Rattle.zk_agent.specs.declared.action.Action.{Action}
use Rattle.zk_driver.specs.Driving.{course_of, Course, Extends}
use Rattle.zk_driver.specs.Flowing.{flow_of}
use Rattle.zk_driver.specs.inner.Noting.{notes_of_event}
use Rattle.zk_driver.proofs.Carrying.{always_err, extends_on}
use Rattle.zk_driver.proofs.Flowed.{flow_after, flow_same}
use Rattle.zk_driver.proofs.Going.{after, goes, same}
use Rattle.zk_agent.specs.Agents.{IsBroken}
use Rattle.zk_agent.proofs.Breaking.{err_always}
use Rattle.zk_driver.proofs.Breaking.{after_goes}
use Rattle.zk_driver.proofs.driver.Driver.next.Goals as goal

pub loop-init : goal.loop-init
loop-init g c =
    let here = course_of c.args.self.now.engine None in
    let flow = flow_of g.D.Stream.Read.remaining g.D.Stream.Write.contents g.D.Stream.Stream.far g.D.Stream.Stream.state
    c.args.self.now.engine None in
    record {
      goes = same here here refl;
      flows = flow_same flow flow refl;
      kept = ([], sym (append-nil (told_by c.args.self.now.engine.waiting.items)));
    }

pub loop-preserved : goal.loop-preserved
loop-preserved g c =
    let old = course_of c.args.self.now.engine None in
    let so_far = course_of c.loop.self.engine None in
    let here = course_of c.pop.new.self None in
    let new = course_of c.round.new.self.engine None in
    let there : here ≡ so_far =
    subst (λ (r : Option (Action g.row.A.Denot)). course_of c.pop.new.self r ≡ so_far) c.in_default.is c.pop.ensures.same in
    let remaining = g.D.Stream.Read.remaining in
    let contents = g.D.Stream.Write.contents in
    let far = g.D.Stream.Stream.far in
    let state = g.D.Stream.Stream.state in
    let first = flow_of remaining contents far state c.args.self.now.engine None in
    let until = flow_of remaining contents far state c.loop.self.engine None in
    let popped = flow_of remaining contents far state c.pop.new.self None in
    let still : popped ≡ until = subst
    (λ (r : Option (Action g.row.A.Denot)). flow_of remaining contents far state c.pop.new.self r ≡ until)
    c.in_default.is c.pop.ensures.flow in
    let gone = flow_of remaining contents far state c.round.new.self.engine None in
    let flows = flow_after first until gone c.loop.invariant.flows
    (flow_after until popped gone (flow_same until popped (sym still)) c.in_ok-round.ensures.flows) in
    record {
      flows = flows;
      goes = after old so_far new c.loop.invariant.goes (after so_far here new (same so_far here (sym there))
          (goes (notes_of_event c.in_ok-round.field-0.1) here new c.in_ok-round.ensures.goes));
      kept = extends_on old.told so_far.told new.told c.loop.invariant.kept
          (subst (λ (c : Course g.row.A.Denot). Extends c.told new.told) there c.round.ensures.kept);
    }

pub returns-then-branch-clause-goes : goal.returns-then-branch-clause-goes
returns-then-branch-clause-goes g c =
    let old = course_of c.args.self.now.engine None in
    let so_far = course_of c.loop.self.engine None in
    let here = course_of c.pop.new.self None in
    let told = course_of c.round.new.self.engine None in
    let new = course_of c.pop-then-branch.new.self c.pop-then-branch.result in
    let there : here ≡ so_far =
    subst (λ (r : Option (Action g.row.A.Denot)). course_of c.pop.new.self r ≡ so_far) c.in_default.is c.pop.ensures.same in
    after old told new (after old so_far told c.loop.invariant.goes (after so_far here told (same so_far here (sym there))
    (goes (notes_of_event c.in_ok-round.field-0.1) here told c.in_ok-round.ensures.goes)))
    (same told new (sym c.pop-then-branch.ensures.same))

pub returns-clause-goes : goal.returns-clause-goes
returns-clause-goes g c =
    let old = course_of c.args.self.now.engine None in
    let so_far = course_of c.loop.self.engine None in
    let told = course_of c.settle.new.self None in
    let new = course_of c.pop-2.new.self c.pop-2.result in
    after old told new (after old so_far told c.loop.invariant.goes c.in_ok-settle.ensures.goes) (same told new (sym c.pop-2.ensures.same))

pub returns-in_err-round-clause-kept : goal.returns-in_err-round-clause-kept
returns-in_err-round-clause-kept g c =
    let old = told_by c.args.self.now.engine.waiting.items in
    let so_far = course_of c.loop.self.engine None in
    let new = told_by c.round.new.self.engine.waiting.items in
    let there : course_of c.pop.new.self None ≡ so_far =
    subst (λ (r : Option (Action g.row.A.Denot)). course_of c.pop.new.self r ≡ so_far) c.in_default.is c.pop.ensures.same in
    always_err (Extends old new) c.from_residual.result
    (extends_on old so_far.told new c.loop.invariant.kept
    (subst (λ (c : Course g.row.A.Denot). Extends c.told new) there c.round.ensures.kept))

pub returns-in_err-settle-clause-kept : goal.returns-in_err-settle-clause-kept
returns-in_err-settle-clause-kept g c =
    let old = told_by c.args.self.now.engine.waiting.items in
    let so_far = told_by c.loop.self.engine.waiting.items in
    let new = told_by c.settle.new.self.waiting.items in
    always_err (Extends old new) c.from_residual-in_err-settle.result
    (extends_on old so_far new c.loop.invariant.kept c.settle.ensures.kept)

pub returns-then-branch-clause-flows : goal.returns-then-branch-clause-flows
returns-then-branch-clause-flows g c =
    let remaining = g.D.Stream.Read.remaining in
    let contents = g.D.Stream.Write.contents in
    let far = g.D.Stream.Stream.far in
    let state = g.D.Stream.Stream.state in
    let first = flow_of remaining contents far state c.args.self.now.engine None in
    let until = flow_of remaining contents far state c.loop.self.engine None in
    let popped = flow_of remaining contents far state c.pop.new.self None in
    let still : popped ≡ until = subst
    (λ (r : Option (Action g.row.A.Denot)). flow_of remaining contents far state c.pop.new.self r ≡ until)
    c.in_default.is c.pop.ensures.flow in
    let gone = flow_of remaining contents far state c.round.new.self.engine None in
    let flows = flow_after first until gone c.loop.invariant.flows
    (flow_after until popped gone (flow_same until popped (sym still)) c.in_ok-round.ensures.flows) in
    let new = flow_of remaining contents far state c.pop-then-branch.new.self c.pop-then-branch.result in
    flow_after first gone new flows (flow_same gone new (sym c.pop-then-branch.ensures.flow))

pub returns-clause-flows : goal.returns-clause-flows
returns-clause-flows g c =
    let remaining = g.D.Stream.Read.remaining in
    let contents = g.D.Stream.Write.contents in
    let far = g.D.Stream.Stream.far in
    let state = g.D.Stream.Stream.state in
    let first = flow_of remaining contents far state c.args.self.now.engine None in
    let until = flow_of remaining contents far state c.loop.self.engine None in
    let settled = flow_of remaining contents far state c.settle.new.self None in
    let new = flow_of remaining contents far state c.pop-2.new.self c.pop-2.result in
    flow_after first settled new (flow_after first until settled c.loop.invariant.flows c.in_ok-settle.ensures.flows)
    (flow_same settled new (sym c.pop-2.ensures.flow))

pub returns-in_err-round-clause-broke : goal.returns-in_err-round-clause-broke
returns-in_err-round-clause-broke g c =
    let so_far = course_of c.loop.self.engine None in
    let new = c.round.new.self.engine.agent in
    let there : course_of c.pop.new.self None ≡ so_far =
    subst (λ (r : Option (Action g.row.A.Denot)). course_of c.pop.new.self r ≡ so_far) c.in_default.is c.pop.ensures.same in
    err_always c.from_residual.result (after_goes new (course_of c.args.self.now.engine None) so_far c.loop.invariant.goes
    (subst (λ (c : Course g.row.A.Denot). IsBroken c.agent new) there c.in_err-round.ensures.broke))

pub returns-in_err-settle-clause-broke : goal.returns-in_err-settle-clause-broke
returns-in_err-settle-clause-broke g c =
    err_always c.from_residual-in_err-settle.result (after_goes c.settle.new.self.agent (course_of c.args.self.now.engine None)
    (course_of c.loop.self.engine None) c.loop.invariant.goes c.in_err-settle.ensures.broke)
