-- A watch runs to its moment and then ends the session (`ok_over`); on an error, what was written by then, as `run` or `err_after` tells.
use Rattle.std.proofs.Common.{subst}
use Rattle.zk_driver.specs.declared.engine.Engine.{Engine}
use Rattle.shell_watch.specs.inner.Watching.{stand_of, Writes, WritesOn}
use Rattle.shell_watch.proofs.Ending.{ok_over}
use Rattle.shell_watch.proofs.Printing.{err_after}
use Rattle.shell_watch.proofs.watcher.Watcher.go_on.Goals as goal

pub returns-in-Ok-clause-ok : goal.returns-in-Ok-clause-ok
returns-in-Ok-clause-ok g c =
    let contents = g.O.Write.contents in
    let first = c.args.self.now in
    let over = c.run.new.self in
    let last = c.close.new.self in
    let told = subst (λ (e : Engine g.row.A.Denot g.row.D-Stream.Denot). Writes
    (stand_of g.D.Stream.Read.remaining g.D.Stream.Write.contents g.D.Stream.Stream.far g.D.Stream.Stream.state e first.watched.items
    first.is_accepted first.style first.growth)
    (stand_of g.D.Stream.Read.remaining g.D.Stream.Write.contents g.D.Stream.Stream.far g.D.Stream.Stream.state over.driver.engine
    over.watched.items over.is_accepted over.style
    over.growth) (contents c.args.out.now) (contents c.run.new.out)) c.now-self.ensures.engine c.in-Ok.ensures.ok in
    ok_over c.close.result c.args.for_ms c.now-self.result
    (stand_of g.D.Stream.Read.remaining g.D.Stream.Write.contents g.D.Stream.Stream.far g.D.Stream.Stream.state first.driver.engine
    first.watched.items first.is_accepted first.style first.growth)
    (stand_of g.D.Stream.Read.remaining g.D.Stream.Write.contents g.D.Stream.Stream.far g.D.Stream.Stream.state
    over.driver.engine over.watched.items over.is_accepted over.style over.growth) (stand_of g.D.Stream.Read.remaining
    g.D.Stream.Write.contents g.D.Stream.Stream.far g.D.Stream.Stream.state last.driver.engine last.watched.items
    last.is_accepted last.style last.growth)
    (contents c.args.out.now) (contents c.run.new.out) (contents c.close.new.out) told
    (rw c.end_of-end.ensures at c.in-Ok.ensures.come) c.close.ensures.ok

pub returns-in-Ok-clause-err : goal.returns-in-Ok-clause-err
returns-in-Ok-clause-err g c =
    let contents = g.O.Write.contents in
    let first = c.args.self.now in
    let over = c.run.new.self in
    let told = subst (λ (e : Engine g.row.A.Denot g.row.D-Stream.Denot). Writes
    (stand_of g.D.Stream.Read.remaining g.D.Stream.Write.contents g.D.Stream.Stream.far g.D.Stream.Stream.state e first.watched.items
    first.is_accepted first.style first.growth)
    (stand_of g.D.Stream.Read.remaining g.D.Stream.Write.contents g.D.Stream.Stream.far g.D.Stream.Stream.state over.driver.engine
    over.watched.items over.is_accepted over.style
    over.growth) (contents c.args.out.now) (contents c.run.new.out)) c.now-self.ensures.engine c.in-Ok.ensures.ok in
    err_after _ c.close.result (stand_of g.D.Stream.Read.remaining g.D.Stream.Write.contents g.D.Stream.Stream.far g.D.Stream.Stream.state
    first.driver.engine first.watched.items
    first.is_accepted first.style first.growth)
    (stand_of g.D.Stream.Read.remaining g.D.Stream.Write.contents g.D.Stream.Stream.far g.D.Stream.Stream.state over.driver.engine
    over.watched.items over.is_accepted over.style over.growth) (contents c.args.out.now) (contents c.run.new.out)
    (contents c.close.new.out) told c.close.ensures.err

pub returns-in-Err-clause-err : goal.returns-in-Err-clause-err
returns-in-Err-clause-err g c = λ well.
    let contents = g.O.Write.contents in
    let first = c.args.self.now in
    subst (λ (e : Engine g.row.A.Denot g.row.D-Stream.Denot). WritesOn
    (stand_of g.D.Stream.Read.remaining g.D.Stream.Write.contents g.D.Stream.Stream.far g.D.Stream.Stream.state e first.watched.items
    first.is_accepted first.style first.growth)
    (contents c.args.out.now) (contents c.run.new.out)) c.now-self.ensures.engine (c.in-Err.ensures.err well)
