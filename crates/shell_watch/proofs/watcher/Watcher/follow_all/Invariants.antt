-- The loop of `follow_all` over the subjects: those before the index are followed, in order, so at the slice's end all are.
use Rattle.std.proofs.Common.{take}
use Rattle.shell_watch.specs.Watching.{aims_of, FollowsAll}
use Rattle.shell_watch.specs.inner.Watching.{stand_of}
use Rattle.shell_watch.proofs.watcher.Watcher.follow_all.Given as goal

-- those so far are followed
abbrev pub invariant-loop-subject : goal.invariant-loop-subject
invariant-loop-subject g l = FollowsAll (aims_of (take l.subject-index l.subjects)) (stand_of g.D.Stream.Read.remaining
    g.D.Stream.Write.contents g.D.Stream.Stream.far g.D.Stream.Stream.state l.fn.self.driver.engine l.fn.self.watched.items
    l.fn.self.is_accepted l.fn.self.style l.fn.self.growth)
    (stand_of g.D.Stream.Read.remaining g.D.Stream.Write.contents g.D.Stream.Stream.far g.D.Stream.Stream.state l.self.driver.engine
    l.self.watched.items l.self.is_accepted
    l.self.style l.self.growth)
