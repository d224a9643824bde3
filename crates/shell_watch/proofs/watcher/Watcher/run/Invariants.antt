-- The loop of `run`: what was written since the call is what some moves print, so where the moment comes it is what all rounds printed.
use Rattle.shell_watch.specs.inner.Watching.{stand_of, Writes}
use Rattle.shell_watch.proofs.watcher.Watcher.run.Given as goal

-- what was printed so far
abbrev pub invariant-loop : goal.invariant-loop
invariant-loop g l = Writes (stand_of g.D.Stream.Read.remaining g.D.Stream.Write.contents g.D.Stream.Stream.far g.D.Stream.Stream.state
    l.fn.self.driver.engine l.fn.self.watched.items
    l.fn.self.is_accepted l.fn.self.style l.fn.self.growth)
    (stand_of g.D.Stream.Read.remaining g.D.Stream.Write.contents g.D.Stream.Stream.far g.D.Stream.Stream.state
    l.self.driver.engine l.self.watched.items l.self.is_accepted l.self.style l.self.growth)
    (g.O.Write.contents l.fn.out) (g.O.Write.contents l.out)
