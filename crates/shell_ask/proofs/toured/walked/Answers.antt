-- The walk begins at the root with nothing printed, as `begun` ensures, so what `finish` ensures holds from there: by `from_there`.
use Rattle.std.proofs.Common.{None, [], ◌∷◌, refl}
use Rattle.zk_driver.specs.Flowing.{flow_of}
use Rattle.shell_ask.specs.declared.walk.Bounds.{Bounds}
use Rattle.shell_ask.specs.Trees.{root_of, scope_of}
use Rattle.shell_ask.specs.inner.Trees.{waiting_view}
use Rattle.shell_ask.proofs.Walking.{from_there}
use Rattle.shell_ask.proofs.toured.walked.Goals as goal

pub returns : goal.returns
returns g c =
    let plan = c.args.plan.now in
    let bounds : Bounds = record { deepest = plan.deepest; most = plan.most; until = c.args.until } in
    let walk = c.in_ok-walk.walk in
    let found = c.in_ok-ending.ensures in
    record {
      bounds = bounds;
      deepest = refl;
      most = refl;
      until_is = refl;
      last = found.0;
      reaches = from_there bounds (flow_of g.D.Stream.Read.remaining g.D.Stream.Write.contents g.D.Stream.Stream.far g.D.Stream.Stream.state
          c.args.driver.now.engine None)
          (waiting_view walk.waiting.items)
          (root_of (scope_of plan) ∷ []) walk.printed.items []
          found.0 c.in_ok-walk.ensures.0 c.in_ok-walk.ensures.1 found.1;
      ends = found.2;
      prints = found.3;
    }
