-- Loop over what the driver tells: what is heard from here is heard from the beginning, and the driver ran so far; each exit needs both.
use Rattle.std.proofs.Common.{None}
use Rattle.zk_driver.specs.Driving.{course_of, Course}
use Rattle.zk_driver.specs.Flowing.{flow_of, Runs}
use Rattle.shell_ask.specs.Asking.{Coming, Hears}
use Rattle.shell_ask.proofs.came.wait_for_answer.Given as goal

-- what is heard from here on is heard from the beginning on, and the driver ran so far
abbrev pub invariant-loop : goal.invariant-loop
invariant-loop g l = record {
  hears : (new : Course g.row.A.Denot) (coming : Coming) → Hears l.ticket l.until new (course_of l.driver.engine None) coming
      → Hears l.ticket l.until new (course_of l.fn.driver.engine None) coming;
  runs : Runs
      (flow_of g.D.Stream.Read.remaining g.D.Stream.Write.contents g.D.Stream.Stream.far g.D.Stream.Stream.state l.fn.driver.engine None)
      (flow_of g.D.Stream.Read.remaining g.D.Stream.Write.contents g.D.Stream.Stream.far g.D.Stream.Stream.state l.driver.engine None);
}
