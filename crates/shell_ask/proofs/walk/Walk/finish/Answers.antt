-- The walk comes to its end by steps: none at first (`begins`), one more where `step` gives no ending (`steps`), until it gives one.
use Rattle.std.proofs.Common.{None}
use Rattle.zk_driver.specs.Flowing.{flow_of}
use Rattle.shell_ask.specs.inner.Trees.{stage_of}
use Rattle.shell_ask.specs.Trees.{begins, steps}
use Rattle.shell_ask.proofs.walk.Walk.finish.Goals as goal

pub loop-ticket-init : goal.loop-ticket-init
loop-ticket-init g c = begins

pub returns-in-Some : goal.returns-in-Some
returns-in-Some g c =
    let here = stage_of (flow_of g.D.Stream.Read.remaining g.D.Stream.Write.contents g.D.Stream.Stream.far g.D.Stream.Stream.state
    c.loop-ticket.driver.engine None) c.loop-ticket.self in
    let ends = rw c.in-Some.is at c.in_ok-ending.ensures.some in (here, c.loop-ticket.invariant, ends.0, ends.1)

pub loop-ticket-preserved : goal.loop-ticket-preserved
loop-ticket-preserved g c =
    let here = stage_of (flow_of g.D.Stream.Read.remaining g.D.Stream.Write.contents g.D.Stream.Stream.far g.D.Stream.Stream.state
    c.loop-ticket.driver.engine None) c.loop-ticket.self in
    let next = stage_of (flow_of g.D.Stream.Read.remaining g.D.Stream.Write.contents g.D.Stream.Stream.far g.D.Stream.Stream.state
    c.step.new.driver.engine None) c.step.new.self in
    let step = rw c.in_default.is at c.in_ok-ending.ensures.none in steps here next c.loop-ticket.invariant step
