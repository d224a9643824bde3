-- The loop of `tend_each`: trees before the index are tended, and those from it on are as they were; at the slice's end this tells of all.
use Rattle.std.proofs.Common.{◌≡◌}
use Rattle.zk_trees.specs.inner.Tending.{footing_of}
use Rattle.zk_trees.proofs.Tended.{Tended}
use Rattle.zk_trees.proofs.ledger.Ledger.tend_each.Given as goal

-- those before were tended, and the client is as it was
abbrev pub invariant-loop-tree : goal.invariant-loop-tree
invariant-loop-tree g l = record {
  tended : Tended l.fn.trees l.tree-index l.trees (footing_of l.fn.follower l.fn.self) (footing_of l.follower l.self);
  client : l.follower.client ≡ l.fn.follower.client;
}
