-- What is gone is let go, and the tree is taken on from there: `tends`.
use Rattle.zk_trees.specs.Tending.{bed_of}
use Rattle.zk_trees.specs.inner.Tending.{footing_of}
use Rattle.zk_trees.proofs.Tending.{tends}
use Rattle.zk_trees.proofs.ledger.Ledger.tend_tree.Goals as goal

pub returns-clause-tends : goal.returns-clause-tends
returns-clause-tends g c =
    tends (bed_of (footing_of c.args.follower.now c.args.self.now) c.args.tree.now)
    (bed_of (footing_of c.let_go.new.follower c.let_go.new.self) c.let_go.new.tree)
    (bed_of (footing_of c.grow.new.follower c.grow.new.self) c.grow.new.tree)
    c.in_ok-let_go.ensures.lets c.in_ok-grow.ensures.grows
