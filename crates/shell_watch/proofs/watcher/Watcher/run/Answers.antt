-- Round by round, what is written is what moves print: `writes_none`, then `writes_after`; where a round fails it stays so (`writes_on`).
use Rattle.std.proofs.Common.{ap}
use Rattle.shell_watch.specs.inner.Watching.{stand_of}
use Rattle.shell_watch.proofs.Printing.{writes_after, writes_none, writes_on}
use Rattle.shell_watch.proofs.watcher.Watcher.run.Goals as goal

pub loop-init : goal.loop-init
loop-init g c =
    let first = c.args.self.now in
    writes_none (stand_of g.D.Stream.Read.remaining g.D.Stream.Write.contents g.D.Stream.Stream.far g.D.Stream.Stream.state
    first.driver.engine first.watched.items first.is_accepted
    first.style first.growth) (g.O.Write.contents c.args.out.now)

pub loop-preserved : goal.loop-preserved
loop-preserved g c =
    let contents = g.O.Write.contents in
    let first = c.args.self.now in
    let here = c.loop.self in
    let new = c.round.new.self in
    writes_after (stand_of g.D.Stream.Read.remaining g.D.Stream.Write.contents g.D.Stream.Stream.far g.D.Stream.Stream.state
    first.driver.engine first.watched.items first.is_accepted
    first.style first.growth) (stand_of g.D.Stream.Read.remaining g.D.Stream.Write.contents g.D.Stream.Stream.far g.D.Stream.Stream.state
    here.driver.engine here.watched.items
    here.is_accepted here.style here.growth)
    (stand_of g.D.Stream.Read.remaining g.D.Stream.Write.contents g.D.Stream.Stream.far g.D.Stream.Stream.state new.driver.engine
    new.watched.items new.is_accepted new.style new.growth)
    (contents c.args.out.now) (contents c.loop.out) (contents c.round.new.out) c.loop.invariant c.in-Ok-false.ensures.ok

pub returns-in-Ok-true-clause-ok : goal.returns-in-Ok-true-clause-ok
returns-in-Ok-true-clause-ok g c =
    let contents = g.O.Write.contents in
    let first = c.args.self.now in
    let here = c.loop.self in
    let new = c.round.new.self in
    writes_after (stand_of g.D.Stream.Read.remaining g.D.Stream.Write.contents g.D.Stream.Stream.far g.D.Stream.Stream.state
    first.driver.engine first.watched.items first.is_accepted
    first.style first.growth) (stand_of g.D.Stream.Read.remaining g.D.Stream.Write.contents g.D.Stream.Stream.far g.D.Stream.Stream.state
    here.driver.engine here.watched.items
    here.is_accepted here.style here.growth)
    (stand_of g.D.Stream.Read.remaining g.D.Stream.Write.contents g.D.Stream.Stream.far g.D.Stream.Stream.state new.driver.engine
    new.watched.items new.is_accepted new.style new.growth)
    (contents c.args.out.now) (contents c.loop.out) (contents c.round.new.out) c.loop.invariant c.in-Ok-true.ensures.ok

pub returns-in-Err-clause-err : goal.returns-in-Err-clause-err
returns-in-Err-clause-err g c = λ well.
    let contents = g.O.Write.contents in
    let first = c.args.self.now in
    let here = c.loop.self in
    writes_on (stand_of g.D.Stream.Read.remaining g.D.Stream.Write.contents g.D.Stream.Stream.far g.D.Stream.Stream.state
    first.driver.engine first.watched.items first.is_accepted
    first.style first.growth) (stand_of g.D.Stream.Read.remaining g.D.Stream.Write.contents g.D.Stream.Stream.far g.D.Stream.Stream.state
    here.driver.engine here.watched.items
    here.is_accepted here.style here.growth)
    (contents c.args.out.now) (contents c.loop.out) (contents c.round.new.out) (ap contents (c.in-Err.ensures.err well)) c.loop.invariant
