-- A tree of its root alone comes after the others: `new_tree`, of what `Ledger::begin` and `Ledger::plant` ensure; and what is told is what
-- becomes of the subjects (`plants_bed`, `from_none`).
use Rattle.std.proofs.Common.{◌≡◌, ◌++◌, [], ◌∷◌, ap, refl, rules, subst}
use Rattle.zk_trees.specs.Tending.{bed_of, trees_told, Footing, PlantsBed}
use Rattle.zk_trees.specs.inner.Tending.{footing_of}
use Rattle.zk_trees.proofs.Shifting.{from_none, plants_bed}
use Rattle.zk_trees.proofs.Tending.{begun_footing}
use Rattle.zk_trees.proofs.tree.Trees.plant.Goals as goal

pub returns-clause-plants : goal.returns-clause-plants
returns-clause-plants g c =
    let tree = c.in_ok-tree.tree in
    let more : c.push.new.self.items ≡ c.args.self.now.all.items ++ tree ∷ [] = search rules in
    let begun =
    begun_footing c.args.self.now c.args.follower.now c.begin-ledger.result c.begin-ledger.ensures.news c.begin-ledger.ensures.next in
    record {
      tree = tree;
      rests = c.in_ok-tree.ensures.rests;
      bed = subst (λ (f : Footing g.row.A.Denot). PlantsBed c.args.ticket c.args.root.now c.args.most f
          (bed_of (footing_of c.plant.new.follower c.plant.new.self) tree)) begun c.in_ok-tree.ensures.plants;
      last = more;
      due = refl;
    }

pub returns-clause-told : goal.returns-clause-told
returns-clause-told g c =
    let begun = footing_of c.args.follower.now c.begin-ledger.result in
    let new = footing_of c.plant.new.follower c.plant.new.self in
    from_none begun new (ap trees_told c.begin-ledger.ensures.news)
    (plants_bed c.args.ticket c.args.root.now c.args.most begun (bed_of new c.in_ok-tree.tree) c.in_ok-tree.ensures.plants)
