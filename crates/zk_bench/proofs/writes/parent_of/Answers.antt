-- The parent's Stat counts the names beside the path (`beside_counted`), and there are such names (`beside_there`).
use Rattle.std.proofs.Common.{subst, Option}
use Rattle.zk_nodes.specs.Path.{path_of}
use Rattle.zk_history.specs.Shown.{IsStat}
use Rattle.zk_nodes.specs.declared.stat.Stat.{Stat}
use Rattle.zk_bench.specs.inner.Writing.{tree_of}
use Rattle.zk_bench.proofs.Written.{beside_counted, beside_there}
use Rattle.zk_bench.proofs.writes.parent_of.Goals as goal

pub returns-clause-counted : goal.returns-clause-counted
returns-clause-counted g c = λ names beside.
    let tree = tree_of c.args.tree.now.history.now c.args.tree.now.zxid in
    let parent = path_of c.in-Some.parent.now in
    let seen = subst (λ (o : Option Stat). IsStat tree parent o) c.in-Some-2.is (c.in_ok-above.ensures c.in-Some.ensures.path) in
    beside_counted tree (path_of c.args.asked.now) parent c.in-Some-2.above names c.in-Some.ensures.names seen beside

pub returns-clause-beside : goal.returns-clause-beside
returns-clause-beside g c =
    let tree = tree_of c.args.tree.now.history.now c.args.tree.now.zxid in
    let parent = path_of c.in-Some.parent.now in
    let seen = subst (λ (o : Option Stat). IsStat tree parent o) c.in-Some-2.is (c.in_ok-above.ensures c.in-Some.ensures.path) in
    beside_there tree (path_of c.args.asked.now) parent seen.0 c.in-Some.ensures.names seen.1
