-- The loop of `plant_all` over the roots: the trees of those before the index are followed, in order, so at the slice's end all are.
use Rattle.std.proofs.Common.{take}
use Rattle.shell_watch.specs.Watching.{PlantsAll}
use Rattle.shell_watch.specs.inner.Watching.{stand_of}
use Rattle.shell_watch.proofs.watcher.Watcher.plant_all.Given as goal

-- those so far are followed
abbrev pub invariant-loop-root : goal.invariant-loop-root
invariant-loop-root g l = PlantsAll (take l.root-index l.roots)
    (stand_of g.D.Stream.Read.remaining g.D.Stream.Write.contents g.D.Stream.Stream.far g.D.Stream.Stream.state l.fn.self.driver.engine
    l.fn.self.watched.items l.fn.self.is_accepted l.fn.self.style l.fn.self.growth)
    (stand_of g.D.Stream.Read.remaining g.D.Stream.Write.contents g.D.Stream.Stream.far g.D.Stream.Stream.state l.self.driver.engine
    l.self.watched.items l.self.is_accepted l.self.style l.self.growth)
