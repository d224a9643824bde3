-- The loop of rounds: course and flow have gone on from the start, and what waited still waits. So what ends the loop goes on from it.
use Rattle.std.proofs.Common.{None}
use Rattle.zk_agent.specs.Telling.{told_by}
use Rattle.zk_driver.specs.Driving.{course_of, Extends, Goes}
use Rattle.zk_driver.specs.Flowing.{flow_of, Flows}
use Rattle.zk_driver.proofs.driver.Driver.next.Given as goal

-- the moves so far, and what waits
abbrev pub invariant-loop : goal.invariant-loop
invariant-loop g l = record {
  goes : Goes (course_of l.fn.self.engine None) (course_of l.self.engine None);
  flows : Flows
      (flow_of g.D.Stream.Read.remaining g.D.Stream.Write.contents g.D.Stream.Stream.far g.D.Stream.Stream.state l.fn.self.engine None)
      (flow_of g.D.Stream.Read.remaining g.D.Stream.Write.contents g.D.Stream.Stream.far g.D.Stream.Stream.state l.self.engine None);
  kept : Extends (told_by l.fn.self.engine.waiting.items) (told_by l.self.engine.waiting.items);
}
