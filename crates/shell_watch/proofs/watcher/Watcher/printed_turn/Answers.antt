-- What is printed of a turn is its line, that of the bound, and after them what `show` adds: `tells`.
use Rattle.std.proofs.Common.{◌≡◌, ◌++◌, rules}
use Rattle.std.specs.Prelude.{string_bytes}
use Rattle.zk_client.specs.Clients.{view_of}
use Rattle.zk_agent.specs.Telling.{told_by}
use Rattle.shell_watch.specs.Trees.{bound_text, grown_after, has_bounded}
use Rattle.shell_watch.proofs.Telling.{tells}
use Rattle.shell_watch.proofs.watcher.Watcher.printed_turn.Goals as goal

pub returns-clause-tells : goal.returns-clause-tells
returns-clause-tells g c =
    let old = c.args.self.now in
    let engine = old.driver.engine in
    let turn = c.args.turn.now in
    let taken = c.take.new.self in
    let adds : string_bytes c.push_str.new.self ≡ string_bytes c.in_ok-text.text
    ++ bound_text (has_bounded old.growth) (has_bounded (grown_after turn old.growth)) old.style c.args.ms old.growth.most =
    search rules in
    tells old.style c.args.ms turn (view_of engine.agent.asker.follower.client) (told_by engine.waiting.items) old.growth
    old.watched.items taken.watched.items c.show.new.self.watched.items
    (string_bytes c.in_ok-text.text) (string_bytes c.push_str.new.self) (string_bytes c.show.new.text) c.in_ok-text.ensures
    c.in_ok-take.ensures.watched adds (rw (c.take.ensures.style, c.take.ensures.engine) at c.in_ok-show.ensures.shows)
