-- The subjects are followed, and then the trees (`ok_prepares`).
use Rattle.shell_watch.specs.Watching.{aims_of}
use Rattle.shell_watch.specs.inner.Watching.{stand_of}
use Rattle.shell_watch.proofs.Printing.{ok_prepares}
use Rattle.shell_watch.proofs.watcher.Watcher.prepare.Goals as goal

pub returns : goal.returns
returns g c =
    let first = c.args.self.now in
    let between = c.follow_all.new.self in
    let last = c.plant_all.new.self in
    ok_prepares c.plant_all.result (aims_of c.args.subjects.now) c.args.roots.now
    (stand_of g.D.Stream.Read.remaining g.D.Stream.Write.contents g.D.Stream.Stream.far g.D.Stream.Stream.state first.driver.engine
    first.watched.items first.is_accepted first.style first.growth)
    (stand_of g.D.Stream.Read.remaining g.D.Stream.Write.contents g.D.Stream.Stream.far g.D.Stream.Stream.state between.driver.engine
    between.watched.items between.is_accepted between.style between.growth)
    (stand_of g.D.Stream.Read.remaining g.D.Stream.Write.contents g.D.Stream.Stream.far g.D.Stream.Stream.state last.driver.engine
    last.watched.items last.is_accepted last.style last.growth)
    c.in_ok-follow_all.ensures c.plant_all.ensures
