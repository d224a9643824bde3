-- Each further read goes on from the one before, which noted nothing: `by_after`, `flow_after` and `extends_on` join them.
use Rattle.std.proofs.Common.{rules, ◌≡◌, [], None, true, subst}
use Rattle.zk_agent.specs.Telling.{told_by}
use Rattle.zk_driver.specs.Driving.{course_of}
use Rattle.zk_driver.specs.inner.Noting.{notes_of_event}
use Rattle.zk_driver.specs.Noting.{GoesBy}
use Rattle.zk_driver.proofs.Carrying.{extends_on}
use Rattle.zk_driver.specs.Flowing.{flow_of}
use Rattle.zk_driver.proofs.Flowed.{flow_after}
use Rattle.zk_driver.proofs.Going.{by_after}
use Rattle.zk_agent.proofs.Breaking.{err_always}
use Rattle.zk_driver.proofs.Breaking.{after_notes}
use Rattle.zk_driver.proofs.driver.Driver.listen.Goals as goal

pub returns-in_err-glance-2-clause-kept : goal.returns-in_err-glance-2-clause-kept
returns-in_err-glance-2-clause-kept g c =
    extends_on (told_by c.args.self.now.engine.waiting.items) (told_by c.loop.self.engine.waiting.items)
    (told_by c.read-in-loop.new.self.engine.waiting.items) c.loop.invariant.kept
    c.read-in-loop.ensures.kept

pub loop-preserved : goal.loop-preserved
loop-preserved g c =
    let old = course_of c.args.self.now.engine None in
    let so_far = course_of c.loop.self.engine None in
    let new = course_of c.read-in-loop.new.self.engine None in
    let again : c.loop.glance.is_again ≡ true = search rules in
    let notes = notes_of_event c.in_ok-glance-2.glance.event in
    record {
      goes = by_after [] notes old so_far new
          (subst (λ ns. GoesBy ns old so_far) (c.loop.invariant.quiet again) c.loop.invariant.goes) c.in_ok-glance-2.ensures.goes;
      flows = flow_after (flow_of g.D.Stream.Read.remaining g.D.Stream.Write.contents g.D.Stream.Stream.far g.D.Stream.Stream.state
          c.args.self.now.engine None)
          (flow_of g.D.Stream.Read.remaining g.D.Stream.Write.contents g.D.Stream.Stream.far g.D.Stream.Stream.state
          c.loop.self.engine None)
          (flow_of g.D.Stream.Read.remaining g.D.Stream.Write.contents g.D.Stream.Stream.far g.D.Stream.Stream.state
          c.read-in-loop.new.self.engine None)
          c.loop.invariant.flows c.in_ok-glance-2.ensures.flows;
      told = c.in_ok-glance-2.ensures.told;
      none = c.in_ok-glance-2.ensures.none;
      stream = c.in_ok-glance-2.ensures.open;
      quiet = c.in_ok-glance-2.ensures.quiet;
      kept = extends_on old.told so_far.told new.told c.loop.invariant.kept c.read-in-loop.ensures.kept;
    }

pub returns-in_err-glance-2-clause-broke : goal.returns-in_err-glance-2-clause-broke
returns-in_err-glance-2-clause-broke g c =
    err_always c.from_residual-in_err-glance-2.result (after_notes c.read-in-loop.new.self.engine.agent
    (notes_of_event c.loop.glance.event) (course_of c.args.self.now.engine None) (course_of c.loop.self.engine None)
    c.loop.invariant.goes c.in_err-glance-2.ensures.broke)
