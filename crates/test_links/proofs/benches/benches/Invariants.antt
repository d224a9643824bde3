-- Each bench is over the history.
use Rattle.std.proofs.Common.{All}
use Rattle.zk_bench_dial.specs.Lines.{IsOver}
use Rattle.test_links.specs.inner.Tale.{told}
use Rattle.test_links.proofs.benches.benches.Given as goal

abbrev pub invariant-loop-place : goal.invariant-loop-place
invariant-loop-place l = All (λ line. IsOver told line.0) l.lines.items
