-- From a seed, which `Tree::new` makes, first the data of the root join, then its names by the ticket that was next: `plants`.
use Rattle.std.proofs.Common.{ap, false, subst}
use Rattle.zk_nodes.specs.Path.{Text}
use Rattle.zk_nodes.specs.declared.side.Side.{Side}
use Rattle.zk_trees.specs.Tending.{bed_of, Joins}
use Rattle.zk_trees.specs.inner.Tending.{footing_of}
use Rattle.zk_trees.proofs.Tending.{plants}
use Rattle.zk_trees.proofs.ledger.Ledger.plant.Goals as goal

pub returns-clause-plants : goal.returns-clause-plants
returns-clause-plants g c =
    let old = footing_of c.args.follower.now c.args.self.now in
    let begun = footing_of c.args.follower.now c.take.new.self in
    let first = bed_of begun c.in_ok-tree.tree in
    let with_data = bed_of (footing_of c.join.new.follower c.join.new.self) c.join.new.tree in
    let new = bed_of (footing_of c.join-2.new.follower c.join-2.new.self) c.join-2.new.tree in
    plants c.args.ticket c.args.root.now c.args.most c.in_ok-its.its old begun first with_data new
    c.in_ok-its.ensures.ticket (ap (footing_of c.args.follower.now) c.in_ok-its.ensures.next) (c.in_ok-tree.ensures.seed begun)
    (subst (λ (aim : Side × Text). Joins c.args.ticket false aim first with_data) c.in_ok-its_data.ensures c.in_ok-join.ensures.joins)
    (subst (λ (aim : Side × Text). Joins c.in_ok-its.its false aim with_data new)
    c.in_ok-its_names.ensures c.in_ok-join-2.ensures.joins)
