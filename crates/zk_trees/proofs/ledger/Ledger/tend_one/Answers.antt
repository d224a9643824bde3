-- By whether the tree is behind: it is tended (`ok_one`), or left as it is (`same_one`).
use Rattle.zk_trees.specs.inner.Tending.{footing_of}
use Rattle.zk_trees.proofs.Tending.{ok_one, same_one}
use Rattle.zk_trees.proofs.ledger.Ledger.tend_one.Goals as goal

pub returns-then-tree-clause-tends : goal.returns-then-tree-clause-tends
returns-then-tree-clause-tends g c =
    ok_one c.tend_tree.result c.args.tree.now.is_behind c.args.tree.now c.tend_tree.new.tree
    (footing_of c.args.follower.now c.args.self.now) (footing_of c.tend_tree.new.follower c.tend_tree.new.self) c.if-tree.true
    c.tend_tree.ensures.tends c.tend_tree.ensures.rests

pub returns-clause-tends : goal.returns-clause-tends
returns-clause-tends g c =
    same_one c.args.tree.now.is_behind c.args.tree.now (footing_of c.args.follower.now c.args.self.now) c.if-tree.false
