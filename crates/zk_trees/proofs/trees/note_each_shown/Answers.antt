-- Each turn notes one more tree in its place: `map_over_more`, with what `note_shown` ensures; the index is in range by arithmetic.
use Rattle.std.proofs.Common.{◌<◌, ◌∙◌, ap, arith, get_or, length, set}
use Rattle.std.proofs.lemmas.List.{get_or_default}
use Rattle.std.proofs.lemmas.List.Edits.{map_over_more}
use Rattle.zk_trees.specs.Tending.{noted_shown}
use Rattle.zk_trees.proofs.trees.note_each_shown.Goals as goal

pub loop-tree-preserved : goal.loop-tree-preserved
loop-tree-preserved g c =
    let index = c.loop-tree.tree-index in
    let trees = c.loop-tree.trees in
    let item = get_or trees index c.tree-item.result in
    let within : index < length c.args.trees.now = omega (arith, c.loop-tree-test.true) in
    let fits : index < length trees = omega (arith, c.loop-tree-test.true, c.loop-tree.auto.trees) in
    ap (set trees index) c.note_shown.ensures
    ∙ map_over_more (noted_shown c.args.ticket) c.args.trees.now trees index item within c.loop-tree.invariant
    (get_or_default trees index c.tree-item.result item fits)
