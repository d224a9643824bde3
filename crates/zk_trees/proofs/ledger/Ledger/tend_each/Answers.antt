-- One more tree is tended in its place, from where those before it have led (`tended_more`); at the slice's end all are (`tended_all`).
use Rattle.std.proofs.Common.{◌≤◌, ◌<◌, ◌∙◌, arith, length, refl}
use Rattle.zk_trees.specs.inner.Tending.{footing_of}
use Rattle.zk_trees.proofs.Tended.{tended_all, tended_more, tended_none}
use Rattle.zk_trees.proofs.ledger.Ledger.tend_each.Goals as goal

pub loop-tree-init : goal.loop-tree-init
loop-tree-init g c =
    record { tended = tended_none c.args.trees.now (footing_of c.args.follower.now c.args.self.now); client = refl }

pub loop-tree-preserved : goal.loop-tree-preserved
loop-tree-preserved g c =
    let within : c.loop-tree.tree-index < length c.args.trees.now = omega (arith, c.loop-tree-test.true) in
    record {
      tended = tended_more c.args.trees.now c.loop-tree.tree-index c.loop-tree.trees (footing_of c.args.follower.now c.args.self.now)
          (footing_of c.loop-tree.follower c.loop-tree.self)
          c.tree-item.result c.tend_one.new.tree (footing_of c.tend_one.new.follower c.tend_one.new.self) within
          c.loop-tree.invariant.tended c.in_ok-tend_one.ensures.tends;
      client = c.tend_one.ensures.client ∙ c.loop-tree.invariant.client;
    }

pub returns-clause-tends : goal.returns-clause-tends
returns-clause-tends g c =
    let past : length c.args.trees.now ≤ c.loop-tree.tree-index = omega (arith, c.loop-tree-test.false) in
    tended_all c.args.trees.now c.loop-tree.tree-index c.loop-tree.trees (footing_of c.args.follower.now c.args.self.now)
    (footing_of c.loop-tree.follower c.loop-tree.self) past c.loop-tree.invariant.tended
