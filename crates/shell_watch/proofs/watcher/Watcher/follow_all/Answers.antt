-- One more subject of the slice is followed after those before it: `follows_more`.
use Rattle.shell_watch.specs.inner.Watching.{stand_of}
use Rattle.shell_watch.proofs.Printing.{follows_more}
use Rattle.shell_watch.proofs.watcher.Watcher.follow_all.Goals as goal

pub loop-subject-preserved : goal.loop-subject-preserved
loop-subject-preserved g c =
    let first = c.args.self.now in
    let here = c.loop-subject.self in
    let new = c.follow.new.self in
    follows_more c.args.subjects.now c.loop-subject.subject-index c.subject-item.result (stand_of g.D.Stream.Read.remaining
    g.D.Stream.Write.contents g.D.Stream.Stream.far g.D.Stream.Stream.state first.driver.engine first.watched.items first.is_accepted
    first.style first.growth) (stand_of
    g.D.Stream.Read.remaining g.D.Stream.Write.contents g.D.Stream.Stream.far g.D.Stream.Stream.state here.driver.engine here.watched.items
    here.is_accepted here.style here.growth)
    (stand_of g.D.Stream.Read.remaining g.D.Stream.Write.contents g.D.Stream.Stream.far g.D.Stream.Stream.state
    new.driver.engine new.watched.items
    new.is_accepted new.style new.growth)
    c.loop-subject-test.true c.subject-item.is c.loop-subject.invariant c.in_ok-follow.ensures
