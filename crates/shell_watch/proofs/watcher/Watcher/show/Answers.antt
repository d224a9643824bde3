-- Where something waits to be told nothing is shown (`shows_nothing`); else each subject is, in the whole vector, and what was let go is
-- dropped (`shows_each`).
use Rattle.std.proofs.Common.{◌≡◌, ◌∙◌, ap, arith, drop, length}
use Rattle.std.specs.Prelude.{string_bytes}
use Rattle.zk_client.specs.Clients.{view_of}
use Rattle.shell_watch.specs.Trees.{staying}
use Rattle.shell_watch.proofs.Telling.{shows_each, shows_nothing, whole_written}
use Rattle.shell_watch.proofs.watcher.Watcher.show.Goals as goal

pub returns-then-has_told-clause-shows : goal.returns-then-has_told-clause-shows
returns-then-has_told-clause-shows g c =
    shows_nothing c.args.self.now.style c.args.ms (view_of c.args.self.now.driver.engine.agent.asker.follower.client)
    c.args.self.now.driver.engine.waiting.items c.args.self.now.watched.items
    (string_bytes c.args.text.now) (c.has_told.ensures.some c.if-has_told.true)

pub returns-clause-shows : goal.returns-clause-shows
returns-clause-shows g c =
    let old = c.args.self.now in
    let view = view_of old.driver.engine.agent.asker.follower.client in
    let olds = old.watched.items in
    let news = c.show_all.new.watched in
    let size : old.watched.len ≡ length news = omega (arith, c.show_all.auto.watched, c.as_mut_slice-watched.ensures.len) in
    let stay : c.drop_leaving.new.watched.items ≡ staying news =
    c.drop_leaving.ensures ∙ ap staying (whole_written old.watched.len news (drop (length news) olds) size) in
    shows_each old.style c.args.ms view old.driver.engine.waiting.items olds news c.drop_leaving.new.watched.items
    (string_bytes c.args.text.now) (string_bytes c.show_all.new.text) (c.has_told.ensures.none c.if-has_told.false)
    (rw (c.client-client.ensures, c.as_mut_slice-watched.ensures.value) at c.in_ok-show_all.ensures) stay
