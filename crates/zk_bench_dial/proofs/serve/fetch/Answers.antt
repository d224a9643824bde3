-- What comes is what the bench had sent first (`fetched`), and it is up still (`up_still`).
use Rattle.std.proofs.Common.{◌≡◌, ◌∙◌, ◌++◌, [], sym, subst, IfSome, Option, Some, length, take, drop, arith}
use Rattle.zk_bench.specs.Served.{Served}
use Rattle.zk_bench_dial.specs.Lines.{IsAnswering, IsUp}
use Rattle.zk_bench_dial.proofs.Passing.{as_answer, fetched, up_still}
use Rattle.zk_bench_dial.proofs.serve.fetch.Goals as goal

pub returns-clause-does : goal.returns-clause-does
returns-clause-does g c =
    let long : c.len-count.result ≡ length c.in-Ok.bytes.items = omega (arith, c.len-count.ensures, c.in-Ok.bytes.ok) in
    let gave = take c.len-count.result (c.copy_from_slice.new.self ++ drop c.len-count.result c.args.buf.now) in
    as_answer c.args.line.now (Some c.output.new.self) c.args.waits.now [] gave
    (subst (λ (o : Option Served). IsAnswering o [] gave (Some c.output.new.self)) (sym c.in-Some.is)
    (fetched c.in-Some.bench c.output.new.self c.in-Ok.bytes.items c.copy_from_slice.new.self (drop c.len-count.result c.args.buf.now)
    c.len-count.result _ (c.copy_from_slice.ensures.after ∙ c.as_slice.ensures.value) long c.in-Ok.ensures.bytes c.in-Ok.ensures.rest))

pub returns-clause-up : goal.returns-clause-up
returns-clause-up g c =
    up_still g.K.Past.past c.in-Some.bench c.output.new.self _ c.in-Ok.ensures.rest
    (subst (λ (o : Option Served). IfSome o (IsUp g.K.Past.past)) c.in-Some.is c.requires)
