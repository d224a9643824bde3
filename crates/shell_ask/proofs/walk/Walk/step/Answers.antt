-- The node that is popped is the next one (`waiting_pop`): it is listed, and what `list` ensures holds (`ends_at`, `steps_from`), or it is
-- printed (`prints_leaf`), as there is room for it by arithmetic.
use Rattle.std.proofs.Common.{arith, ◌<◌, ◌∙◌, ◌∷◌, None, length, ap, refl}
use Rattle.zk_driver.specs.Flowing.{flow_of}
use Rattle.shell_ask.specs.inner.Trees.{spot_view, stage_of, waiting_view}
use Rattle.shell_ask.specs.Trees.{prints_leaf}
use Rattle.shell_ask.proofs.Walking.{ends_at, steps_from, waiting_pop}
use Rattle.shell_ask.proofs.walk.Walk.step.Goals as goal

pub returns-then-is_listed-clause-some : goal.returns-then-is_listed-clause-some
returns-then-is_listed-clause-some g c =
    let next = ap waiting_view c.in-Some.ensures.items ∙ waiting_pop c.pop.new.self.items c.in-Some.spot in
    ends_at c.args.bounds (flow_of g.D.Stream.Read.remaining g.D.Stream.Write.contents g.D.Stream.Stream.far g.D.Stream.Stream.state
    c.args.driver.now.engine None)
    (waiting_view c.args.self.now.waiting.items)
    (spot_view c.in-Some.spot ∷ waiting_view c.pop.new.self.items)
    c.args.self.now.printed.items c.list.new.self.printed.items c.list.result next c.list.ensures.some

pub returns-then-is_listed-clause-none : goal.returns-then-is_listed-clause-none
returns-then-is_listed-clause-none g c =
    let next = ap waiting_view c.in-Some.ensures.items ∙ waiting_pop c.pop.new.self.items c.in-Some.spot in
    steps_from c.args.bounds (flow_of g.D.Stream.Read.remaining g.D.Stream.Write.contents g.D.Stream.Stream.far g.D.Stream.Stream.state
    c.args.driver.now.engine None)
    (waiting_view c.args.self.now.waiting.items)
    (spot_view c.in-Some.spot ∷ waiting_view c.pop.new.self.items)
    c.args.self.now.printed.items
    (stage_of (flow_of g.D.Stream.Read.remaining g.D.Stream.Write.contents g.D.Stream.Stream.far g.D.Stream.Stream.state
    c.list.new.driver.engine None) c.list.new.self) c.list.result
    next c.list.ensures.none

pub returns-in-Ok-clause-none : goal.returns-in-Ok-clause-none
returns-in-Ok-clause-none g c =
    let next = ap waiting_view c.in-Some.ensures.items ∙ waiting_pop c.pop.new.self.items c.in-Some.spot in
    let room : length c.args.self.now.printed.items < c.args.bounds.most = omega arith in
    prints_leaf (spot_view c.in-Some.spot) (waiting_view c.pop.new.self.items) (record { next = next; room = room })
    (c.is_listed.ensures.leaf c.if-is_listed.false)
    (refl, refl, c.in-Ok.ensures.items)
