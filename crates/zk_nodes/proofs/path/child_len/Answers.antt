-- By whether the path above is the root: the lengths of `child_text-root` or of `child_text-below`, added up.
use Rattle.std.proofs.Common.{◌∷◌, length, ap, arith}
use Rattle.std.proofs.lemmas.List.{length-append}
use Rattle.zk_nodes.proofs.Children.{child_text-root, child_text-below, below_root}
use Rattle.zk_nodes.proofs.PathTexts.{root_alone}
use Rattle.zk_nodes.proofs.path.child_len.Goals as goal

pub returns-then-above-eq1 : goal.returns-then-above-eq1
returns-then-above-eq1 c =
    let root = child_text-root c.args.above.now c.args.name.now (root_alone c.args.above.now c.requires c.if-above-eq1.true).0 in
    omega (arith, ap length root)

pub returns-else-above-eq1 : goal.returns-else-above-eq1
returns-else-above-eq1 c =
    let below =
    child_text-below c.args.above.now c.args.name.now c.requires (below_root c.args.above.now c.requires c.if-above-eq1.false) in
    omega (arith, ap length below, length-append c.args.above.now (47 ∷ c.args.name.now))
