-- A call is handed over, then its answer heard, by what `ask` and `wait_for_answer` ensure; `ok_asked_runs` joins the runs of the driver.
use Rattle.std.proofs.Common.{refl, None}
use Rattle.std.proofs.lemmas.Result.{IfOk-weaker}
use Rattle.zk_driver.specs.Driving.{course_of}
use Rattle.zk_driver.specs.Flowing.{flow_of}
use Rattle.zk_driver.proofs.Running.{ok_asked_runs}
use Rattle.shell_ask.proofs.answered.answered.Goals as goal

pub returns-clause-heard : goal.returns-clause-heard
returns-clause-heard g c =
    IfOk-weaker c.wait_for_answer.result _ _ (λ came hears. record {
      ticket = c.args.ticket;
      handed = c.args.call;
      asked = course_of c.ask.new.self.engine None;
      is = refl;
      hands = c.in_ok-ask.ensures.hands;
      hears = hears;
    }) c.wait_for_answer.ensures.hears

pub returns-clause-runs : goal.returns-clause-runs
returns-clause-runs g c =
    let know = flow_of g.D.Stream.Read.remaining g.D.Stream.Write.contents g.D.Stream.Stream.far g.D.Stream.Stream.state in
    ok_asked_runs c.wait_for_answer.result (know c.args.driver.now.engine None) (know c.ask.new.self.engine None)
    (know c.wait_for_answer.new.driver.engine None) c.in_ok-ask.ensures.flows c.wait_for_answer.ensures.runs
