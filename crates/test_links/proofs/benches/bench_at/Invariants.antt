-- The bench is over the history.
use Rattle.zk_bench_dial.specs.Lines.{IsOver}
use Rattle.test_links.specs.inner.Tale.{told}
use Rattle.test_links.proofs.benches.bench_at.Given as goal

abbrev pub invariant-loop : goal.invariant-loop
invariant-loop l = IsOver told l.bench
