-- The call is heard in a session from its beginning on: what `begin` and `answered` ensure, with the engine that `now` leaves the same.
use Rattle.std.proofs.Common.{ap, subst, None, of_z, to_z, w32}
use Rattle.std.specs.Prelude.{unsigned_abs}
use Rattle.zk_conversation.specs.Views.{call_view}
use Rattle.zk_agent.specs.Telling.{told_by}
use Rattle.zk_driver.specs.Driving.{course_of}
use Rattle.zk_driver.specs.declared.engine.Engine.{Engine}
use Rattle.zk_driver.specs.Flowing.{flow_of, Runs}
use Rattle.shell_ask.specs.inner.Asking.{came_view}
use Rattle.shell_ask.specs.Asking.{Heard}
use Rattle.shell_ask.proofs.answered.come.Goals as goal

pub returns-in-Ok-came : goal.returns-in-Ok-came
returns-in-Ok-came g c =
    let remaining = g.D.Stream.Read.remaining in
    let contents = g.D.Stream.Write.contents in
    let far = g.D.Stream.Stream.far in
    let state = g.D.Stream.Stream.state in
    let until = c.saturating_add-until.result in
    let last = course_of c.answered-came.new.driver.engine None in
    record {
      timeout = unsigned_abs (to_z w32 (of_z w32 c.timeout_for-timeout_ms.result));
      until = until;
      start = course_of c.in-Ok.driver.engine None;
      last = last;
      begins = c.in-Ok.ensures.client;
      parted = c.in-Ok.ensures.channel;
      untold = ap told_by c.in-Ok.ensures.waiting;
      heard = subst (λ (e : Engine g.row.A.Denot g.row.D-Stream.Denot). Heard (call_view c.args.call) until (course_of e None)
          (came_view c.in-Ok-came.came) last) c.now.ensures.engine c.in-Ok-came.ensures.heard;
      before = (flow_of remaining contents far state c.in-Ok.driver.engine None).known;
      after = (flow_of remaining contents far state c.answered-came.new.driver.engine None).known;
      runs = subst (λ (e : Engine g.row.A.Denot g.row.D-Stream.Denot). Runs (flow_of remaining contents far state e None)
          (flow_of remaining contents far state c.answered-came.new.driver.engine None)) c.now.ensures.engine c.in-Ok-came.ensures.runs;
    }
