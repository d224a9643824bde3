-- The loop over the transactions: the count is that of the first n, or 2^64 - 1 at most. At its end n is all, by `counted_all`.
use Rattle.std.proofs.Common.{◌≡◌, ◌≤◌, length, take}
use Rattle.std.specs.Prelude.{min}
use Rattle.zk_nodes.specs.Path.{path_of}
use Rattle.zk_bench.specs.inner.Writing.{creates_below}
use Rattle.zk_bench.proofs.sequence.creates_below.Given as goal

-- so many in the transactions so far
abbrev pub invariant-loop-n : goal.invariant-loop-n
invariant-loop-n g l = record {
  within : l.n ≤ length l.history.transactions;
  counted : l.count ≡ min (creates_below (path_of l.parent) (take l.n l.history.transactions)) 18446744073709551615;
}
