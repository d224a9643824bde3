-- By whether `take_out` found a tree: what `Ledger::uproot` does with it, or nothing; and what is told is what becomes of the subjects.
use Rattle.std.proofs.Common.{[], ap, refl, subst}
use Rattle.std.specs.Prelude.{Option}
use Rattle.zk_trees.specs.Tending.{footing_in, trees_told, Footing, UprootsSo, UprootsTree}
use Rattle.zk_trees.specs.inner.Tending.{footing_of}
use Rattle.zk_trees.specs.declared.tree.Tree.{Tree}
use Rattle.zk_trees.proofs.Shifting.{from_none, uproots_all}
use Rattle.zk_trees.proofs.Tending.{begun_footing}
use Rattle.zk_trees.proofs.tree.Trees.uproot.Goals as goal

pub returns-clause-uproots : goal.returns-clause-uproots
returns-clause-uproots g c =
    let begun = begun_footing c.args.self.now c.args.follower.now c.begin-ledger.result c.begin-ledger.ensures.news
    c.begin-ledger.ensures.next in
    record {
      goes = subst (λ (o : Option (Tree g.row.A.Denot)). UprootsSo o (footing_in c.args.self.now c.args.follower.now [])
          (footing_of c.uproot.new.follower c.uproot.new.self)) c.in-Some.ensures.found
          (subst (λ (f : Footing g.row.A.Denot). UprootsTree c.in-Some.tree f (footing_of c.uproot.new.follower c.uproot.new.self)) begun
          c.in_ok-uproot.ensures.goes);
      others = c.take_out-taken.ensures.left;
      due = refl;
    }

pub returns-clause-told : goal.returns-clause-told
returns-clause-told g c =
    let begun = footing_of c.args.follower.now c.begin-ledger.result in
    let new = footing_of c.uproot.new.follower c.uproot.new.self in
    from_none begun new (ap trees_told c.begin-ledger.ensures.news) (uproots_all _ _ begun new c.in_ok-uproot.ensures.goes)
