-- Each turn changes one more subject in its place: `map_over_more`, with what `keep_on` ensures; the index is in range by arithmetic.
use Rattle.std.proofs.Common.{◌<◌, ◌∙◌, ap, arith, get_or, length, set}
use Rattle.std.proofs.lemmas.List.{get_or_default}
use Rattle.std.proofs.lemmas.List.Edits.{map_over_more}
use Rattle.shell_watch.specs.Trees.{aim_of, kept_on}
use Rattle.shell_watch.proofs.joining.keep_all_on.Goals as goal

pub loop-one-preserved : goal.loop-one-preserved
loop-one-preserved g c =
    let index = c.loop-one.one-index in
    let watched = c.loop-one.watched in
    let item = get_or watched index c.one-item.result in
    let within : index < length c.args.watched.now = omega (arith, c.loop-one-test.true) in
    let fits : index < length watched = omega (arith, c.loop-one-test.true, c.loop-one.auto.watched) in
    ap (set watched index) c.keep_on.ensures
    ∙ map_over_more (kept_on c.args.ticket (aim_of c.args.subject.now)) c.args.watched.now watched index item within c.loop-one.invariant
    (get_or_default watched index c.one-item.result item fits)
