-- After each turn the bench is ready, its server is the same, and it has done what it did since the call with no bytes taken or given.
use Rattle.std.proofs.Common.{◌≡◌, []}
use Rattle.zk_bench.specs.Stepping.{IsReady}
use Rattle.zk_bench_dial.specs.BenchActs.{Answers, GoesBy}
use Rattle.zk_bench_dial.proofs.serve.serve.Given as goal

abbrev pub invariant-loop : goal.invariant-loop
invariant-loop g l = record {
  ready : IsReady l.bench;
  server : l.bench.server ≡ l.fn.bench.server;
  goes : GoesBy Answers l.fn.bench [] [] l.bench;
}
