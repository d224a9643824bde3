-- The loop over the tickets: the stage at each turn is reached from the first, so an ending that `step` gives is one of such a stage.
use Rattle.std.proofs.Common.{None}
use Rattle.zk_driver.specs.Flowing.{flow_of}
use Rattle.shell_ask.specs.inner.Trees.{stage_of}
use Rattle.shell_ask.specs.Trees.{Reaches}
use Rattle.shell_ask.proofs.walk.Walk.finish.Given as goal

-- it has come here from its beginning
abbrev pub invariant-loop-ticket : goal.invariant-loop-ticket
invariant-loop-ticket g l =
    Reaches l.bounds (stage_of (flow_of g.D.Stream.Read.remaining g.D.Stream.Write.contents g.D.Stream.Stream.far g.D.Stream.Stream.state
    l.fn.driver.engine None) l.fn.self)
    (stage_of (flow_of g.D.Stream.Read.remaining g.D.Stream.Write.contents g.D.Stream.Stream.far g.D.Stream.Stream.state
    l.driver.engine None) l.self)
