-- Where trees rest nothing is done (`at_rest`); else each is tended (`tended`), and what is told is what becomes of the subjects
-- (`tends_each`, `from_none`).
use Rattle.std.proofs.Common.{◌∙◌, List, [], ap, refl, subst, sym}
use Rattle.zk_trees.specs.Tending.{are_at_rest, footing_in, trees_told, Footing, TendsEach, TendsWhere}
use Rattle.zk_trees.specs.inner.Tending.{footing_of}
use Rattle.zk_trees.specs.declared.tree.TreeNews.{TreeNews}
use Rattle.zk_trees.proofs.Shifting.{from_none, tends_each}
use Rattle.zk_trees.proofs.Tending.{at_rest, begun_footing, tended}
use Rattle.zk_trees.proofs.tree.Trees.tend.Goals as goal

pub returns-then-are_at_rest-clause-tends : goal.returns-then-are_at_rest-clause-tends
returns-then-are_at_rest-clause-tends g c =
    let is_rest = are_at_rest c.args.now c.args.self.now in
    let here = footing_in c.args.self.now c.args.follower.now [] in
    subst (λ (l : List (TreeNews g.row.A.Denot)). TendsWhere is_rest c.args.now c.args.self.now c.args.self.now here
    (footing_in c.args.self.now c.args.follower.now l)) (sym c.new.ensures.items)
    (at_rest is_rest c.args.now c.args.self.now c.args.self.now here (sym c.are_at_rest.ensures ∙ c.if-are_at_rest.true) refl refl)

pub returns-clause-tends : goal.returns-clause-tends
returns-clause-tends g c =
    let begun =
    begun_footing c.args.self.now c.args.follower.now c.begin-ledger.result c.begin-ledger.ensures.news c.begin-ledger.ensures.next in
    tended (are_at_rest c.args.now c.args.self.now) c.args.now c.args.self.now _
    (footing_in c.args.self.now c.args.follower.now []) (footing_of c.tend_all.new.follower c.tend_all.new.ledger)
    (sym c.are_at_rest.ensures ∙ c.if-are_at_rest.false) c.in_ok-tend_all.ensures.due
    (subst (λ (f : Footing g.row.A.Denot). TendsEach c.args.self.now.all.items c.tend_all.new.self.all.items f
    (footing_of c.tend_all.new.follower c.tend_all.new.ledger)) begun c.in_ok-tend_all.ensures.tends)

pub returns-clause-told : goal.returns-clause-told
returns-clause-told g c =
    let begun = footing_of c.args.follower.now c.begin-ledger.result in
    let new = footing_of c.tend_all.new.follower c.tend_all.new.ledger in
    from_none begun new (ap trees_told c.begin-ledger.ensures.news)
    (tends_each c.args.self.now.all.items c.tend_all.new.self.all.items begun new c.in_ok-tend_all.ensures.tends)
