-- The turn is one move, and its text is what is written (`turned`); where the moment has come, the turn tells that.
use Rattle.std.proofs.Common.{rules}
use Rattle.std.specs.Prelude.{string_bytes}
use Rattle.std.specs.Io.KnownBytes.{Appends}
use Rattle.shell_watch.specs.inner.Watching.{stand_of}
use Rattle.shell_watch.proofs.Printing.{turned}
use Rattle.shell_watch.proofs.watcher.Watcher.round.Goals as goal

pub returns-clause-ok : goal.returns-clause-ok
returns-clause-ok g c =
    let old = c.args.self.now in
    let new = c.run_turn.new.self in
    let adds : Appends (g.O.Write.contents c.args.out.now) (g.O.Write.contents c.write.new.out) (string_bytes c.in_ok-is_over.text) =
    search rules in
    turned c.args.until c.in_ok-is_over.is_over
    (stand_of g.D.Stream.Read.remaining g.D.Stream.Write.contents g.D.Stream.Stream.far g.D.Stream.Stream.state old.driver.engine
    old.watched.items old.is_accepted old.style old.growth)
    (stand_of g.D.Stream.Read.remaining g.D.Stream.Write.contents g.D.Stream.Stream.far g.D.Stream.Stream.state new.driver.engine
    new.watched.items new.is_accepted new.style new.growth)
    (string_bytes c.in_ok-is_over.text) (g.O.Write.contents c.args.out.now) (g.O.Write.contents c.write.new.out)
    c.in_ok-is_over.ensures.ok adds

pub returns-clause-come : goal.returns-clause-come
returns-clause-come g c = c.in_ok-is_over.ensures.ok.comes
