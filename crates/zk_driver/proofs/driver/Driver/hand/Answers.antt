-- What is asked is patient at the moment told (`asked_patiently`), and handing it in is a flow (`flow_asked`); `now` leaves the engine.
use Rattle.std.proofs.Common.{None, refl, subst}
use Rattle.zk_driver.specs.Driving.{course_of}
use Rattle.zk_driver.specs.declared.engine.Engine.{Engine}
use Rattle.zk_driver.specs.Flowing.{flow_of, Flows}
use Rattle.zk_driver.proofs.Asking.{asked_patiently}
use Rattle.zk_driver.proofs.Flowed.{flow_asked}
use Rattle.zk_driver.proofs.driver.Driver.hand.Goals as goal

pub hand-requires : goal.hand-requires
hand-requires g c = asked_patiently c.moment_of_hand-moment.result c.args.input
    (course_of c.now-now.new.self.engine None) c.requires c.moment_of_hand-moment.ensures.quiet

pub returns-in-Ok-clause-flows : goal.returns-in-Ok-clause-flows
returns-in-Ok-clause-flows g c =
    let new =
    flow_of g.D.Stream.Read.remaining g.D.Stream.Write.contents g.D.Stream.Stream.far g.D.Stream.Stream.state c.hand.new.self None in
    subst (λ (e : Engine g.row.A.Denot g.row.D-Stream.Denot).
    Flows (flow_of g.D.Stream.Read.remaining g.D.Stream.Write.contents g.D.Stream.Stream.far g.D.Stream.Stream.state e None) new)
    c.now-now.ensures.engine
    (flow_asked c.args.input (flow_of g.D.Stream.Read.remaining g.D.Stream.Write.contents g.D.Stream.Stream.far g.D.Stream.Stream.state
    c.now-now.new.self.engine None) new refl
    c.requires c.in-Ok.ensures.flows)
