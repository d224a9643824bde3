-- The loop of `take_each_on`: the subjects before the index are taken on, and `index` has the members that the tree has by then.
use Rattle.std.proofs.Common.{◌≡◌, take}
use Rattle.zk_trees.specs.Tending.{bed_of, TakesAllOn}
use Rattle.zk_trees.specs.inner.Tending.{footing_of}
use Rattle.zk_trees.specs.Trees.{aims_of}
use Rattle.zk_trees.specs.inner.Trees.{IsIndexIfMade}
use Rattle.zk_trees.proofs.ledger.Ledger.take_each_on.Given as goal

-- those so far are taken on, and the client is as it was
abbrev pub invariant-loop-subject : goal.invariant-loop-subject
invariant-loop-subject g l = record {
  takes : TakesAllOn (aims_of (take l.subject-index l.subjects))
      (bed_of (footing_of l.fn.follower l.fn.self) l.fn.tree) (bed_of (footing_of l.follower l.self) l.tree);
  index : IsIndexIfMade l.index l.tree.members.items;
  client : l.follower.client ≡ l.fn.follower.client;
}
