-- By the case of an attempt, a stream or neither: `fail`, `end` and then `settle_closed` (`ok_after`, `ok_flow_after`, `extends_on`), or
-- `pass_moment`; notes are left out by `ok_goes`.
use Rattle.std.proofs.Common.{[], ◌∷◌, None}
use Rattle.zk_agent.specs.Telling.{told_by}
use Rattle.zk_driver.specs.Driving.{course_of}
use Rattle.zk_driver.specs.Flowing.{flow_of}
use Rattle.zk_driver.specs.Noting.{Lost, Missed}
use Rattle.zk_driver.proofs.Carrying.{extends_on}
use Rattle.zk_driver.proofs.Flowed.{ok_flow_after}
use Rattle.zk_driver.proofs.Going.{goes, ok_after, ok_goes}
use Rattle.zk_agent.proofs.Breaking.{err_so}
use Rattle.zk_driver.proofs.Breaking.{after_notes}
use Rattle.zk_driver.proofs.engine.Engine.settle.Goals as goal

pub returns-in-Some-clause-goes : goal.returns-in-Some-clause-goes
returns-in-Some-clause-goes g c =
    ok_goes c.fail.result (Missed ∷ []) (course_of c.args.self.now None) (course_of c.fail.new.self None) c.fail.ensures.goes

pub returns-in_ok-end-in-None-clause-goes : goal.returns-in_ok-end-in-None-clause-goes
returns-in_ok-end-in-None-clause-goes g c =
    let old = course_of c.args.self.now None in
    let between = course_of c.end.new.self None in
    ok_after c.settle_closed.result old between (course_of c.settle_closed.new.self None)
    (goes (Lost ∷ []) old between c.in_ok-end-in-None.ensures.goes) c.settle_closed.ensures.goes

pub returns-in_ok-end-in-None-clause-flows : goal.returns-in_ok-end-in-None-clause-flows
returns-in_ok-end-in-None-clause-flows g c =
    let flow = flow_of g.S.Read.remaining g.S.Write.contents g.S.Stream.far g.S.Stream.state in
    ok_flow_after c.settle_closed.result (flow c.args.self.now None) (flow c.end.new.self None)
    (flow c.settle_closed.new.self None) c.in_ok-end-in-None.ensures.flows c.settle_closed.ensures.flows

pub returns-in_ok-end-in-None-clause-kept : goal.returns-in_ok-end-in-None-clause-kept
returns-in_ok-end-in-None-clause-kept g c =
    extends_on (told_by c.args.self.now.waiting.items) (told_by c.end.new.self.waiting.items)
    (told_by c.settle_closed.new.self.waiting.items) c.end.ensures.kept c.settle_closed.ensures.kept

pub returns-in-None-2-clause-goes : goal.returns-in-None-2-clause-goes
returns-in-None-2-clause-goes g c =
    ok_goes c.pass_moment.result [] (course_of c.args.self.now None) (course_of c.pass_moment.new.self None) c.pass_moment.ensures.goes

pub returns-in_ok-end-in-None-clause-broke : goal.returns-in_ok-end-in-None-clause-broke
returns-in_ok-end-in-None-clause-broke g c =
    err_so c.settle_closed.result (after_notes c.settle_closed.new.self.agent (Lost ∷ []) (course_of c.args.self.now None)
    (course_of c.end.new.self None) c.in_ok-end-in-None.ensures.goes) c.settle_closed.ensures.broke
