-- By what came of the call (`heard_of`): the node is printed (`prints_node`), a child's name has no path (`misnamed`), the node is gone
-- (`leaves_out`), or the walk stops there (`stopped`).
use Rattle.std.proofs.Common.{None, refl}
use Rattle.std.proofs.lemmas.Option.{IfSome_then}
use Rattle.std.proofs.lemmas.Result.{IfOk-weaker}
use Rattle.zk_driver.specs.Flowing.{flow_of}
use Rattle.shell_ask.specs.inner.Asking.{came_view}
use Rattle.shell_ask.specs.inner.Trees.{ending_view, spot_view, stage_of}
use Rattle.shell_ask.specs.Trees.{leaves_out, prints_node}
use Rattle.shell_ask.proofs.Walking.{heard_of, if_none, misnamed, stopped}
use Rattle.shell_ask.proofs.walk.Walk.list.Goals as goal

pub returns-then-is_done-clause-some : goal.returns-then-is_done-clause-some
returns-then-is_done-clause-some g c =
    let bounds = c.args.bounds in
    let old = stage_of (flow_of g.D.Stream.Read.remaining g.D.Stream.Write.contents g.D.Stream.Stream.far g.D.Stream.Stream.state
    c.args.driver.now.engine None) c.args.self.now in
    let spot = spot_view c.args.spot in
    let coming = came_view c.in_ok-came.came in
    let last = flow_of g.D.Stream.Read.remaining g.D.Stream.Write.contents g.D.Stream.Stream.far g.D.Stream.Stream.state
    c.listed.new.driver.engine None in
    let heard =
    heard_of bounds old spot coming last c.requires.room c.requires.listed c.in_ok-came.ensures.heard c.in_ok-came.ensures.runs in
    let done = c.is_done.ensures.done c.if-is_done.true in
    IfOk-weaker c.open-opened.result _ _
    (λ ending found. IfSome_then ending found
    (λ e m. (misnamed bounds old spot coming last m.0 m.1 (ending_view e) heard done m.2 m.3 m.4 m.5, m.6))) c.open-opened.ensures.some

pub returns-then-is_done-clause-none : goal.returns-then-is_done-clause-none
returns-then-is_done-clause-none g c =
    let bounds = c.args.bounds in
    let old = stage_of (flow_of g.D.Stream.Read.remaining g.D.Stream.Write.contents g.D.Stream.Stream.far g.D.Stream.Stream.state
    c.args.driver.now.engine None) c.args.self.now in
    let spot = spot_view c.args.spot in
    let coming = came_view c.in_ok-came.came in
    let last = flow_of g.D.Stream.Read.remaining g.D.Stream.Write.contents g.D.Stream.Stream.far g.D.Stream.Stream.state
    c.listed.new.driver.engine None in
    let heard =
    heard_of bounds old spot coming last c.requires.room c.requires.listed c.in_ok-came.ensures.heard c.in_ok-came.ensures.runs in
    let done = c.is_done.ensures.done c.if-is_done.true in
    IfOk-weaker c.open-opened.result _ _
    (λ ending found. if_none ending found (λ m. prints_node spot old.waiting coming last m.0 heard done m.1 (refl, m.2, m.3)))
    c.open-opened.ensures.none

pub returns-then-is_gone-clause-none : goal.returns-then-is_gone-clause-none
returns-then-is_gone-clause-none g c =
    let old = stage_of (flow_of g.D.Stream.Read.remaining g.D.Stream.Write.contents g.D.Stream.Stream.far g.D.Stream.Stream.state
    c.args.driver.now.engine None) c.args.self.now in
    let spot = spot_view c.args.spot in
    let coming = came_view c.in_ok-came.came in
    let last = flow_of g.D.Stream.Read.remaining g.D.Stream.Write.contents g.D.Stream.Stream.far g.D.Stream.Stream.state
    c.listed.new.driver.engine None in
    leaves_out spot old.waiting coming last
    (heard_of c.args.bounds old spot coming last c.requires.room c.requires.listed c.in_ok-came.ensures.heard c.in_ok-came.ensures.runs)
    (c.is_gone.ensures.gone c.if-is_gone.true) (refl, refl, refl)

pub returns-clause-some : goal.returns-clause-some
returns-clause-some g c =
    let old = stage_of (flow_of g.D.Stream.Read.remaining g.D.Stream.Write.contents g.D.Stream.Stream.far g.D.Stream.Stream.state
    c.args.driver.now.engine None) c.args.self.now in
    let spot = spot_view c.args.spot in
    let coming = came_view c.in_ok-came.came in
    let last = flow_of g.D.Stream.Read.remaining g.D.Stream.Write.contents g.D.Stream.Stream.far g.D.Stream.Stream.state
    c.listed.new.driver.engine None in (
      stopped c.args.bounds old spot coming last
          (heard_of c.args.bounds old spot coming last c.requires.room c.requires.listed c.in_ok-came.ensures.heard
          c.in_ok-came.ensures.runs)
          (c.is_done.ensures.undone c.if-is_done.false) (c.is_gone.ensures.stays c.if-is_gone.false),
      refl,
    )
