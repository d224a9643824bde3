-- The loop over the paths of one list: those so far are watched again or told as missed; at its end that is the whole list.
use Rattle.std.proofs.Common.{◌≡◌, ℕ, pos, take, length}
use Rattle.std.specs.List.{AllByRecursion}
use Rattle.zk_nodes.specs.History.{tree_at}
use Rattle.zk_history.specs.HistoryView.{history_of, natural}
use Rattle.zk_nodes.specs.PathFault.{IsPath}
use Rattle.zk_bench.specs.inner.Serving.{watched}
use Rattle.zk_bench.specs.inner.Restoring.{texts_in, Rewatches}
use Rattle.zk_bench.proofs.rewatch.rewatch_all.Given as goal

-- so it is of the paths so far
abbrev pub invariant-loop-path : goal.invariant-loop-path
invariant-loop-path g l = record {
  rewatches : (since : ℕ) → l.fn.relative ≡ pos since → AllByRecursion IsPath (texts_in l.paths)
      → Rewatches l.fn.list since (tree_at (history_of l.fn.tree.history.now) (natural l.fn.tree.zxid))
      (texts_in (take l.path-index l.paths))
      (watched l.initial.connection.watches) (watched l.connection.watches) l.initial.connection.output.items l.connection.output.items;
  rest : l.connection ≡ record l.initial.connection { watches = l.connection.watches; output = l.connection.output };
  begun : take (length l.initial.connection.output.items) l.connection.output.items ≡ l.initial.connection.output.items;
}
