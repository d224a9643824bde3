-- To pop an action, or to announce an address, leaves course and flow as they were (`same_by`, `flow_same`): by what the two calls ensure.
use Rattle.std.proofs.Common.{None, Some, sym, ap, ◌∙◌}
use Rattle.zk_driver.specs.declared.engine.Engine.{Engine}
use Rattle.zk_driver.specs.Driving.{course_of}
use Rattle.zk_driver.specs.Flowing.{flow_of}
use Rattle.zk_driver.proofs.Flowed.{flow_same}
use Rattle.zk_driver.proofs.Going.{same_by}
use Rattle.zk_driver.proofs.driver.Driver.turn.Goals as goal

pub returns-in-Some-clause-goes : goal.returns-in-Some-clause-goes
returns-in-Some-clause-goes g c =
    same_by (course_of c.args.self.now.engine None) (course_of c.pop.new.self (Some c.in-Some.action)) (sym c.in-Some.ensures.same)

pub returns-then-announces-clause-goes : goal.returns-then-announces-clause-goes
returns-then-announces-clause-goes g c =
    same_by (course_of c.args.self.now.engine None) (course_of c.announces.new.self.engine None)
    (sym c.in_default.ensures.same ∙ sym (ap (λ (e : Engine g.row.A.Denot g.row.D-Stream.Denot). course_of e None) c.announces.ensures))

pub returns-in-Some-clause-flows : goal.returns-in-Some-clause-flows
returns-in-Some-clause-flows g c = flow_same
    (flow_of g.D.Stream.Read.remaining g.D.Stream.Write.contents g.D.Stream.Stream.far g.D.Stream.Stream.state c.args.self.now.engine None)
    (flow_of g.D.Stream.Read.remaining g.D.Stream.Write.contents g.D.Stream.Stream.far g.D.Stream.Stream.state c.pop.new.self
    (Some c.in-Some.action)) (sym c.in-Some.ensures.flow)

pub returns-then-announces-clause-flows : goal.returns-then-announces-clause-flows
returns-then-announces-clause-flows g c =
    flow_same (flow_of g.D.Stream.Read.remaining g.D.Stream.Write.contents g.D.Stream.Stream.far g.D.Stream.Stream.state
    c.args.self.now.engine None)
    (flow_of g.D.Stream.Read.remaining g.D.Stream.Write.contents g.D.Stream.Stream.far g.D.Stream.Stream.state
    c.announces.new.self.engine None)
    (sym c.in_default.ensures.flow ∙ sym (ap (λ (e : Engine g.row.A.Denot g.row.D-Stream.Denot).
    flow_of g.D.Stream.Read.remaining g.D.Stream.Write.contents g.D.Stream.Stream.far g.D.Stream.Stream.state e None) c.announces.ensures))
