-- By what the driver tells next: the answer (`answered`), the limit (`late`), nothing in time, or something else, after which more is heard
-- (`later`). Its run is longer by one each time: `next_run`.
use Rattle.std.proofs.Common.{rules, ◌≡◌, None, Some, true, refl}
use Rattle.zk_agent.specs.declared.action.Action.TheVariants as action
use Rattle.zk_client.specs.Views.{outcome_view}
use Rattle.zk_driver.specs.Driving.{course_of}
use Rattle.zk_driver.specs.Flowing.{flow_of}
use Rattle.zk_driver.proofs.Running.{next_run, runs_same}
use Rattle.shell_ask.specs.Asking.{Answered, Late, is_accepted, passes}
use Rattle.shell_ask.proofs.Hearing.{answered, late, later}
use Rattle.shell_ask.proofs.came.wait_for_answer.Goals as goal

pub returns-in-Some-Answer-clause-hears : goal.returns-in-Some-Answer-clause-hears
returns-in-Some-Answer-clause-hears g c =
    let new = course_of c.next.new.self.engine None in
    let same : c.in-Some-Answer.its ≡ c.args.ticket = search rules in
    let is : c.in_ok-its.field-0 ≡ Some (action.Answer c.args.ticket c.in-Some-Answer.outcome) = search rules in
    c.loop.invariant.hears new (Answered (outcome_view c.in-Some-Answer.outcome))
    (answered c.args.ticket c.args.until (course_of c.loop.driver.engine None) c.next.new.self.engine c.in_ok-its.field-0
    c.in-Some-Answer.outcome c.in_ok-its.ensures.goes is)

pub returns-in-Some-TimedOut-clause-hears : goal.returns-in-Some-TimedOut-clause-hears
returns-in-Some-TimedOut-clause-hears g c =
    let new = course_of c.next.new.self.engine None in
    let same : c.in-Some-TimedOut.its ≡ c.args.ticket = search rules in
    let is : c.in_ok-its.field-0 ≡ Some (action.TimedOut c.args.ticket c.in-Some-TimedOut.was_sent) = search rules in
    rw c.is_accepted-was_accepted.ensures
    (c.loop.invariant.hears new (Late c.in-Some-TimedOut.was_sent (is_accepted new))
    (late c.args.ticket c.args.until (course_of c.loop.driver.engine None) c.next.new.self.engine c.in_ok-its.field-0
    c.in-Some-TimedOut.was_sent c.in_ok-its.ensures.goes is))

pub returns-in-None-clause-hears : goal.returns-in-None-clause-hears
returns-in-None-clause-hears g c =
    let old = course_of c.loop.driver.engine None in
    let new = course_of c.next.new.self.engine None in
    let goes = rw c.in-None.is at c.in_ok-its.ensures.goes in
    let come = rw c.in-None.is at c.in_ok-its.ensures.come in
    rw c.is_accepted-was_accepted-in-None.ensures (c.loop.invariant.hears new (Late true (is_accepted new)) (passes old goes come))

pub loop-init : goal.loop-init
loop-init g c =
    let flow = flow_of g.D.Stream.Read.remaining g.D.Stream.Write.contents g.D.Stream.Stream.far g.D.Stream.Stream.state
    c.args.driver.now.engine None in
    record { hears = λ new coming hears. hears; runs = runs_same flow flow refl }

pub loop-preserved : goal.loop-preserved
loop-preserved g c = record {
  hears = λ new coming hears.
      c.loop.invariant.hears new coming
      (later c.args.ticket c.args.until
      (course_of c.loop.driver.engine None) c.next.new.self.engine c.in_ok-its.field-0 new coming c.in_ok-its.ensures.goes hears);
  runs = next_run g.D.Stream.Read.remaining g.D.Stream.Write.contents g.D.Stream.Stream.far g.D.Stream.Stream.state
      c.args.driver.now.engine c.loop.driver.engine
      c.next.new.self.engine c.in_ok-its.field-0
      c.loop.invariant.runs c.in_ok-its.ensures.flows;
}

pub returns-in-Some-Answer-clause-runs : goal.returns-in-Some-Answer-clause-runs
returns-in-Some-Answer-clause-runs g c =
    next_run g.D.Stream.Read.remaining g.D.Stream.Write.contents g.D.Stream.Stream.far g.D.Stream.Stream.state
    c.args.driver.now.engine c.loop.driver.engine
    c.next.new.self.engine c.in_ok-its.field-0
    c.loop.invariant.runs c.in_ok-its.ensures.flows

pub returns-in-Some-TimedOut-clause-runs : goal.returns-in-Some-TimedOut-clause-runs
returns-in-Some-TimedOut-clause-runs g c =
    next_run g.D.Stream.Read.remaining g.D.Stream.Write.contents g.D.Stream.Stream.far g.D.Stream.Stream.state
    c.args.driver.now.engine c.loop.driver.engine
    c.next.new.self.engine c.in_ok-its.field-0
    c.loop.invariant.runs c.in_ok-its.ensures.flows

pub returns-in-None-clause-runs : goal.returns-in-None-clause-runs
returns-in-None-clause-runs g c =
    next_run g.D.Stream.Read.remaining g.D.Stream.Write.contents g.D.Stream.Stream.far g.D.Stream.Stream.state
    c.args.driver.now.engine c.loop.driver.engine
    c.next.new.self.engine c.in_ok-its.field-0
    c.loop.invariant.runs c.in_ok-its.ensures.flows
