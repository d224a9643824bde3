-- `end` comes first, and `catch_up` after it: joined by `ok_by_then`, `first_then`, `ok_flow_after` and `extends_on`.
use Rattle.std.proofs.Common.{[], ◌∷◌, None}
use Rattle.zk_agent.specs.Telling.{told_by}
use Rattle.zk_agent.specs.declared.input.AgentInput.TheVariants as happens
use Rattle.zk_driver.specs.Driving.{course_of}
use Rattle.zk_driver.specs.Flowing.{flow_of}
use Rattle.zk_driver.specs.Noting.{Lost}
use Rattle.zk_driver.proofs.Carrying.{extends_on}
use Rattle.zk_driver.proofs.Flowed.{ok_flow_after}
use Rattle.zk_driver.proofs.Going.{first_then, ok_by_then}
use Rattle.zk_agent.proofs.Breaking.{err_so}
use Rattle.zk_driver.proofs.Breaking.{after_notes}
use Rattle.zk_driver.proofs.engine.Engine.cut.Goals as goal

pub returns-clause-goes : goal.returns-clause-goes
returns-clause-goes g c =
    ok_by_then c.catch_up.result (Lost ∷ []) (course_of c.args.self.now None) (course_of c.end.new.self None)
    (course_of c.catch_up.new.self None) c.in_ok-told.ensures.goes c.catch_up.ensures.goes

pub returns-clause-notes : goal.returns-clause-notes
returns-clause-notes g c =
    first_then c.catch_up.result happens.Cut (course_of c.args.self.now None) (course_of c.end.new.self None)
    (course_of c.catch_up.new.self None) c.in_ok-told.ensures.notes c.catch_up.ensures.goes

pub returns-clause-flows : goal.returns-clause-flows
returns-clause-flows g c =
    let flow = flow_of g.S.Read.remaining g.S.Write.contents g.S.Stream.far g.S.Stream.state in
    ok_flow_after c.catch_up.result (flow c.args.self.now None) (flow c.end.new.self None)
    (flow c.catch_up.new.self None) c.in_ok-told.ensures.flows c.catch_up.ensures.flows

pub returns-clause-kept : goal.returns-clause-kept
returns-clause-kept g c =
    extends_on (told_by c.args.self.now.waiting.items) (told_by c.end.new.self.waiting.items)
    (told_by c.catch_up.new.self.waiting.items) c.end.ensures.kept c.catch_up.ensures.kept

pub returns-clause-broke : goal.returns-clause-broke
returns-clause-broke g c =
    err_so c.catch_up.result (after_notes c.catch_up.new.self.agent (Lost ∷ []) (course_of c.args.self.now None)
    (course_of c.end.new.self None) c.in_ok-told.ensures.goes) c.catch_up.ensures.broke
