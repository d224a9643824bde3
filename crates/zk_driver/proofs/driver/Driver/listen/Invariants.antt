-- The loop of further reads: the course goes by the last read's notes, as those before it noted nothing. So its answer is that of all.
use Rattle.std.proofs.Common.{◌≡◌, ◌≤◌, [], None, true, is_some}
use Rattle.zk_agent.specs.Telling.{told_by}
use Rattle.zk_driver.specs.Driving.{course_of, Extends}
use Rattle.zk_driver.specs.Flowing.{flow_of, Flows}
use Rattle.zk_driver.specs.inner.Noting.{notes_of_event}
use Rattle.zk_driver.specs.Noting.{GoesBy}
use Rattle.zk_driver.proofs.driver.Driver.listen.Given as goal

-- what was read so far, and whether more is to be read
abbrev pub invariant-loop : goal.invariant-loop
invariant-loop g l = record {
  goes : GoesBy (notes_of_event l.glance.event) (course_of l.fn.self.engine None) (course_of l.self.engine None);
  flows : Flows
      (flow_of g.D.Stream.Read.remaining g.D.Stream.Write.contents g.D.Stream.Stream.far g.D.Stream.Stream.state l.fn.self.engine None)
      (flow_of g.D.Stream.Read.remaining g.D.Stream.Write.contents g.D.Stream.Stream.far g.D.Stream.Stream.state l.self.engine None);
  told : l.glance.told ≤ l.self.engine.agent.latest;
  none : l.glance.is_again ≡ true → l.self.engine.channel.attempt ≡ None;
  stream : l.glance.is_again ≡ true → is_some l.self.engine.channel.stream ≡ true;
  quiet : l.glance.is_again ≡ true → notes_of_event l.glance.event ≡ [];
  kept : Extends (told_by l.fn.self.engine.waiting.items) (told_by l.self.engine.waiting.items);
}
