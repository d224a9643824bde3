-- By whether nothing is lacking: then it is told (`ok_whole`), else nothing is (`untold`).
use Rattle.zk_trees.specs.Tending.{bed_of}
use Rattle.zk_trees.specs.inner.Tending.{footing_at}
use Rattle.zk_trees.proofs.Tending.{ok_footings, ok_whole, untold}
use Rattle.zk_trees.proofs.ledger.Ledger.tell_whole.Goals as goal

pub returns-then-is_whole : goal.returns-then-is_whole
returns-then-is_whole g c = record {
  tells = λ view subjects.
      ok_whole c.tell.result c.args.is_whole (bed_of (footing_at view subjects c.args.self.now) c.args.tree.now)
      (footing_at view subjects c.tell.new.self) c.if-is_whole.true
      (ok_footings c.tell.result view subjects c.args.self.now c.tell.new.self _ c.tell.ensures.told c.tell.ensures.next);
}

pub returns : goal.returns
returns g c = record {
  tells = λ view subjects.
      untold c.args.is_whole (bed_of (footing_at view subjects c.args.self.now) c.args.tree.now) c.if-is_whole.false;
}
