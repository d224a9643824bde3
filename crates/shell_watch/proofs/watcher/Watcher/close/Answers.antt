-- By the state: not connected, nothing is written (`ends_none`); else the close comes first (`ok_ends`). Errors: `err_none`, `err_asked`.
use Rattle.shell_watch.specs.inner.Watching.{stand_of}
use Rattle.shell_watch.proofs.Ending.{ends_none, err_asked, err_none, ok_ends}
use Rattle.shell_watch.proofs.watcher.Watcher.close.Goals as goal

pub returns-then-not-is_connected-clause-ok : goal.returns-then-not-is_connected-clause-ok
returns-then-not-is_connected-clause-ok g c =
    let first = c.args.self.now in
    ends_none (stand_of g.D.Stream.Read.remaining g.D.Stream.Write.contents g.D.Stream.Stream.far g.D.Stream.Stream.state
    first.driver.engine first.watched.items first.is_accepted
    first.style first.growth) (g.O.Write.contents c.args.out.now) (c.is_connected.ensures.no c.if-not-is_connected.true)

pub returns-in_err-until-clause-err : goal.returns-in_err-until-clause-err
returns-in_err-until-clause-err g c =
    let first = c.args.self.now in
    let here = (stand_of g.D.Stream.Read.remaining g.D.Stream.Write.contents g.D.Stream.Stream.far g.D.Stream.Stream.state
    first.driver.engine first.watched.items first.is_accepted
    first.style first.growth) in
    let a = g.O.Write.contents c.args.out.now in
    err_none _ c.from_residual.result here a

pub returns-clause-ok : goal.returns-clause-ok
returns-clause-ok g c =
    let first = c.args.self.now in
    let asked = c.ask_close.new.self in
    let last = c.await_close.new.self in
    ok_ends c.await_close.result c.in_ok-until.until
    (stand_of g.D.Stream.Read.remaining g.D.Stream.Write.contents g.D.Stream.Stream.far g.D.Stream.Stream.state first.driver.engine
    first.watched.items first.is_accepted first.style first.growth)
    (stand_of g.D.Stream.Read.remaining g.D.Stream.Write.contents g.D.Stream.Stream.far g.D.Stream.Stream.state
    asked.driver.engine asked.watched.items asked.is_accepted asked.style asked.growth) (stand_of g.D.Stream.Read.remaining
    g.D.Stream.Write.contents g.D.Stream.Stream.far g.D.Stream.Stream.state last.driver.engine last.watched.items
    last.is_accepted last.style last.growth)
    (g.O.Write.contents c.args.out.now) (g.O.Write.contents c.await_close.new.out)
    (c.is_connected.ensures.yes c.if-not-is_connected.false) c.in_ok-until.ensures c.await_close.ensures.ok

pub returns-clause-err : goal.returns-clause-err
returns-clause-err g c =
    let first = c.args.self.now in
    let asked = c.ask_close.new.self in
    err_asked _ c.await_close.result c.in_ok-until.until
    (stand_of g.D.Stream.Read.remaining g.D.Stream.Write.contents g.D.Stream.Stream.far g.D.Stream.Stream.state first.driver.engine
    first.watched.items first.is_accepted first.style first.growth)
    (stand_of g.D.Stream.Read.remaining g.D.Stream.Write.contents g.D.Stream.Stream.far g.D.Stream.Stream.state
    asked.driver.engine asked.watched.items asked.is_accepted asked.style asked.growth)
    (g.O.Write.contents c.args.out.now) (g.O.Write.contents c.await_close.new.out) c.in_ok-until.ensures c.await_close.ensures.err
