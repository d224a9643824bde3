-- The loop that takes transactions: those so far are taken and told. At its end that is `up`, as `next_changes` has no more to give.
use Rattle.std.proofs.Common.{◌≡◌, ◌≤◌, ◌-◌, length}
use Rattle.zk_history.specs.HistoryView.{history_of}
use Rattle.zk_bench.specs.declared.phase.Phase.TheVariants.{Accepted}
use Rattle.zk_bench.specs.inner.Stepping.{CatchesUp}
use Rattle.zk_bench.proofs.servers.take_all.Given as goal

-- so far it has taken transactions, each of which was told
abbrev pub invariant-loop-changes : goal.invariant-loop-changes
invariant-loop-changes g l = record {
  goes : l.fn.connection.phase ≡ Accepted → l.fn.taken ≤ length l.history.transactions
      → CatchesUp (history_of l.history) l.fn.taken l.fn.connection l.taken l.connection;
  rest : l.connection ≡ record l.fn.connection { watches = l.connection.watches; output = l.connection.output };
}

abbrev pub decreases-loop-changes : goal.decreases-loop-changes
decreases-loop-changes g l = length l.history.transactions - l.taken
