-- Each turn changes one more subject in its place: `map_over_more`, with what `let_go` ensures; the index is in range by arithmetic.
use Rattle.std.proofs.Common.{◌<◌, ◌∙◌, ap, arith, get_or, length, set}
use Rattle.std.proofs.lemmas.List.{get_or_default}
use Rattle.std.proofs.lemmas.List.Edits.{map_over_more}
use Rattle.shell_watch.specs.Trees.{leaving}
use Rattle.shell_watch.proofs.joining.let_each_go.Goals as goal

pub loop-one-preserved : goal.loop-one-preserved
loop-one-preserved g c =
    let index = c.loop-one.one-index in
    let watched = c.loop-one.watched in
    let item = get_or watched index c.one-item.result in
    let within : index < length c.args.watched.now = omega (arith, c.loop-one-test.true) in
    let fits : index < length watched = omega (arith, c.loop-one-test.true, c.loop-one.auto.watched) in
    ap (set watched index) c.let_go.ensures
    ∙ map_over_more (leaving c.args.ticket) c.args.watched.now watched index item within c.loop-one.invariant
    (get_or_default watched index c.one-item.result item fits)
