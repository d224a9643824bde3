-- `retain` keeps those of which something is left to be printed (`filter_same`), and each of them is let go that the ticket follows.
use Rattle.std.proofs.Common.{◌≡◌, ◌∙◌, ap, arith, drop, length, map, rules}
use Rattle.std.specs.Prelude.{not}
use Rattle.std.specs.List.{filter}
use Rattle.std.proofs.lemmas.Fn.{filter_same}
use Rattle.shell_watch.specs.Trees.{has_nothing_left, leaving}
use Rattle.shell_watch.proofs.Telling.{whole_written}
use Rattle.shell_watch.proofs.joining.leave.Goals as goal

pub returns : goal.returns
returns g c =
    let ticket = c.args.ticket in
    let rest = c.retain.new.self in
    let news = c.let_each_go.new.watched in
    let size : rest.len ≡ length news = omega (arith, c.let_each_go.auto.watched, c.as_mut_slice.ensures.len) in
    let kept : rest.items ≡ filter (λ one. not (has_nothing_left ticket one)) c.args.watched.now.items =
    filter_same _ _ _ (λ x b f' k. search rules) _ _ c.retain.ensures.filtered in
    whole_written rest.len news (drop (length news) rest.items) size
    ∙ c.let_each_go.ensures ∙ ap (map (leaving ticket)) (c.as_mut_slice.ensures.value ∙ kept)
