-- One more tree is followed after those before it: `folds_next`.
use Rattle.shell_watch.specs.inner.Watching.{stand_of}
use Rattle.shell_watch.specs.Watching.{PlantsSo}
use Rattle.zk_trees.proofs.Growing.{folds_next}
use Rattle.shell_watch.proofs.watcher.Watcher.plant_all.Goals as goal

pub loop-root-preserved : goal.loop-root-preserved
loop-root-preserved g c =
    let first = c.args.self.now in
    let here = c.loop-root.self in
    let new = c.plant.new.self in
    folds_next (λ at root after. PlantsSo root at after) c.args.roots.now c.loop-root.root-index c.root-item.result
    (stand_of g.D.Stream.Read.remaining g.D.Stream.Write.contents g.D.Stream.Stream.far g.D.Stream.Stream.state first.driver.engine
    first.watched.items first.is_accepted first.style first.growth)
    (stand_of g.D.Stream.Read.remaining g.D.Stream.Write.contents g.D.Stream.Stream.far g.D.Stream.Stream.state here.driver.engine
    here.watched.items here.is_accepted here.style here.growth)
    (stand_of g.D.Stream.Read.remaining g.D.Stream.Write.contents g.D.Stream.Stream.far g.D.Stream.Stream.state new.driver.engine
    new.watched.items new.is_accepted new.style new.growth)
    c.loop-root-test.true c.root-item.is c.loop-root.invariant c.in_ok-plant.ensures
