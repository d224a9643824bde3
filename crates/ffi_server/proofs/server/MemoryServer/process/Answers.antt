-- By how the bench ends: without memory the connection is given up (`gives_up`), else it has processed, and the bytes waiting before and
-- after tell if any were taken.
use Rattle.std.proofs.Common.{◌≤◌, ◌<◌, ℕ, subst, length, arith}
use Rattle.zk_bench.specs.Served.{Served}
use Rattle.ffi_server.specs.Moves.{GaveUp, Processed}
use Rattle.ffi_server.proofs.Refusing.{gives_up}
use Rattle.ffi_server.proofs.server.MemoryServer.process.Goals as goal

pub returns-in_err-process : goal.returns-in_err-process
returns-in_err-process c =
    let done = c.in_err-process.ensures in
    gives_up c.from_residual.result c.args.now_ms c.args.self.now.bench c.process.new.self c.from_residual.ensures.1
    (subst (λ (s : Served). GaveUp s c.process.new.self) c.now.ensures
    (record { gone = done.lost; ready = done.ready; history = done.history; rest = done.rest }))

pub returns-then-waiting-before : goal.returns-then-waiting-before
returns-then-waiting-before c =
    let done = c.in_ok-process.ensures in
    let low : c.waiting.result < c.waiting-before.result = omega arith in (
      subst (λ (s : Served). Processed s c.process.new.self) c.now.ensures (record {
        ready = done.ready;
        serves = done.serves;
        answers = done.answers;
        ends_first = done.ends_first;
        takes = done.processed;
        idle = done.idle;
        waits = done.waits;
        history = done.history;
        rest = done.rest;
      }),
      subst (λ (n : ℕ). length c.process.new.self.connection.requests < n) c.waiting-before.ensures
          (subst (λ (n : ℕ). n < c.waiting-before.result) c.waiting.ensures low),
    )

pub returns-else-waiting-before : goal.returns-else-waiting-before
returns-else-waiting-before c =
    let done = c.in_ok-process.ensures in
    let low : c.waiting-before.result ≤ c.waiting.result = omega arith in (
      subst (λ (s : Served). Processed s c.process.new.self) c.now.ensures (record {
        ready = done.ready;
        serves = done.serves;
        answers = done.answers;
        ends_first = done.ends_first;
        takes = done.processed;
        idle = done.idle;
        waits = done.waits;
        history = done.history;
        rest = done.rest;
      }),
      subst (λ (n : ℕ). n ≤ length c.process.new.self.connection.requests) c.waiting-before.ensures
          (subst (λ (n : ℕ). c.waiting-before.result ≤ n) c.waiting.ensures low),
    )
