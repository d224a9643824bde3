-- By the test of `is_same`: the same bound leaves all as it is (`bound_same`), another one is noted and told (`ok_bound`).
use Rattle.std.proofs.Common.{◌∙◌, sym}
use Rattle.zk_trees.specs.Tending.{bed_of, is_same}
use Rattle.zk_trees.specs.inner.Tending.{footing_at}
use Rattle.zk_trees.proofs.Tending.{bound_same, ok_bound, ok_footings}
use Rattle.zk_trees.proofs.ledger.Ledger.note_bound.Goals as goal

pub returns-then-is_same : goal.returns-then-is_same
returns-then-is_same g c = record {
  notes = λ view subjects.
      bound_same (is_same c.args.tree.now.is_bounded c.args.is_bounded) c.args.is_bounded
      (bed_of (footing_at view subjects c.args.self.now) c.args.tree.now) (sym c.is_same.ensures ∙ c.if-is_same.true);
}

pub returns : goal.returns
returns g c = record {
  notes = λ view subjects.
      ok_bound c.tell.result (is_same c.args.tree.now.is_bounded c.args.is_bounded) c.args.is_bounded
      (bed_of (footing_at view subjects c.args.self.now) c.args.tree.now) (footing_at view subjects c.tell.new.self)
      (sym c.is_same.ensures ∙ c.if-is_same.false)
      (ok_footings c.tell.result view subjects c.args.self.now c.tell.new.self _ c.tell.ensures.told c.tell.ensures.next);
}
