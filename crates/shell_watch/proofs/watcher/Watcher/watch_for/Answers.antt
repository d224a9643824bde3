-- A watch that ends well: `ends_from` tells how, `over_prints` what it printed; of one that
-- fails, what was written by then (`prints_from`).
use Rattle.shell_watch.specs.Watching.{aims_of}
use Rattle.shell_watch.specs.inner.Watching.{stand_of}
use Rattle.std.proofs.Common.{true, false, inr}
use Rattle.shell_watch.proofs.Ending.{ends_from, over_prints, prints_from}
use Rattle.shell_watch.proofs.watcher.Watcher.watch_for.Goals as goal

pub returns-in-Ok-clause-over : goal.returns-in-Ok-clause-over
returns-in-Ok-clause-over g c = λ is.
    let first = c.args.self.now in
    let ready = c.prepare.new.self in
    let last = c.go_on.new.self in
    let told = c.in-Ok.ensures.ok in (
      told.0,
      ends_from (aims_of c.args.subjects.now) c.args.roots.now c.args.for_ms
          (stand_of g.D.Stream.Read.remaining g.D.Stream.Write.contents g.D.Stream.Stream.far g.D.Stream.Stream.state
          first.driver.engine first.watched.items first.is_accepted first.style first.growth) (stand_of g.D.Stream.Read.remaining
          g.D.Stream.Write.contents g.D.Stream.Stream.far g.D.Stream.Stream.state ready.driver.engine ready.watched.items ready.is_accepted
          ready.style ready.growth)
          (stand_of g.D.Stream.Read.remaining g.D.Stream.Write.contents g.D.Stream.Stream.far g.D.Stream.Stream.state last.driver.engine
          last.watched.items last.is_accepted
          last.style last.growth) told.0 true c.in_default.ensures told.1 (c.end-in-Ok.ensures.over is),
      told.2,
    )

pub returns-in-Ok-clause-never : goal.returns-in-Ok-clause-never
returns-in-Ok-clause-never g c = λ is.
    let first = c.args.self.now in
    let ready = c.prepare.new.self in
    let last = c.go_on.new.self in
    let told = c.in-Ok.ensures.ok in (
      told.0,
      ends_from (aims_of c.args.subjects.now) c.args.roots.now c.args.for_ms
          (stand_of g.D.Stream.Read.remaining g.D.Stream.Write.contents g.D.Stream.Stream.far g.D.Stream.Stream.state
          first.driver.engine first.watched.items first.is_accepted first.style first.growth) (stand_of g.D.Stream.Read.remaining
          g.D.Stream.Write.contents g.D.Stream.Stream.far g.D.Stream.Stream.state ready.driver.engine ready.watched.items ready.is_accepted
          ready.style ready.growth)
          (stand_of g.D.Stream.Read.remaining g.D.Stream.Write.contents g.D.Stream.Stream.far g.D.Stream.Stream.state last.driver.engine
          last.watched.items last.is_accepted
          last.style last.growth) told.0 false c.in_default.ensures told.1 (c.end-in-Ok.ensures.never is),
      told.2,
    )

pub returns-in-Ok-clause-printed : goal.returns-in-Ok-clause-printed
returns-in-Ok-clause-printed g c = λ is.
    let first = c.args.self.now in
    let ready = c.prepare.new.self in
    let last = c.go_on.new.self in
    let told = c.in-Ok.ensures.ok in (
      told.0,
      inr (over_prints (aims_of c.args.subjects.now) c.args.roots.now c.args.for_ms
          (stand_of g.D.Stream.Read.remaining g.D.Stream.Write.contents g.D.Stream.Stream.far g.D.Stream.Stream.state
          first.driver.engine first.watched.items first.is_accepted first.style first.growth) (stand_of g.D.Stream.Read.remaining
          g.D.Stream.Write.contents g.D.Stream.Stream.far g.D.Stream.Stream.state ready.driver.engine ready.watched.items ready.is_accepted
          ready.style ready.growth)
          (stand_of g.D.Stream.Read.remaining g.D.Stream.Write.contents g.D.Stream.Stream.far g.D.Stream.Stream.state last.driver.engine
          last.watched.items last.is_accepted
          last.style last.growth) told.0 c.in_default.ensures told.1),
      told.2,
    )

pub returns-in-Err-go_on-clause-printed : goal.returns-in-Err-go_on-clause-printed
returns-in-Err-go_on-clause-printed g c = λ is.
    let first = c.args.self.now in
    let ready = c.prepare.new.self in
    prints_from (aims_of c.args.subjects.now) c.args.roots.now
    (stand_of g.D.Stream.Read.remaining g.D.Stream.Write.contents g.D.Stream.Stream.far g.D.Stream.Stream.state first.driver.engine
    first.watched.items first.is_accepted first.style first.growth)
    (stand_of g.D.Stream.Read.remaining g.D.Stream.Write.contents g.D.Stream.Stream.far g.D.Stream.Stream.state
    ready.driver.engine ready.watched.items ready.is_accepted ready.style ready.growth) _ _ c.in_default.ensures
    (c.in-Err-go_on.ensures.err (c.give_up.ensures.stream is))
