-- The bench takes all bytes and serves (`delivered`), or the line is over then (`lost`); it was ready, and stays so (`ready_still`).
use Rattle.std.proofs.Common.{◌∙◌, [], sym, subst, IfSome, Option, Some, length, take}
use Rattle.zk_bench.specs.Served.{Served}
use Rattle.zk_bench_dial.specs.Lines.{IsAnswering, IsUp}
use Rattle.zk_bench_dial.proofs.Passing.{delivered, lost, ready_still}
use Rattle.zk_bench_dial.proofs.serve.deliver.Goals as goal

pub serve-requires : goal.serve-requires
serve-requires g c =
    ready_still c.in-Some.bench c.args.bytes.now c.receive.new.self (c.in-Ok.ensures.ok, c.in-Ok.ensures.lost)
    (subst (λ (o : Option Served). IfSome o (IsUp g.K.Past.past)) (sym c.take.ensures.value ∙ c.in-Some.is) c.requires).0.0

pub returns-then-not-serve-clause-does : goal.returns-then-not-serve-clause-does
returns-then-not-serve-clause-does g c =
    subst (λ (o : Option Served). IsAnswering o (take (length c.args.bytes.now) c.args.bytes.now) [] c.take.new.self)
    (sym (sym c.take.ensures.value ∙ c.in-Some.is))
    (subst (λ (o : Option Served). IsAnswering (Some c.in-Some.bench) (take (length c.args.bytes.now) c.args.bytes.now) [] o)
    (sym c.take.ensures.after)
    (lost c.in-Some.bench c.receive.new.self c.args.bytes.now (c.in-Ok.ensures.ok, c.in-Ok.ensures.lost)))

pub returns-clause-does : goal.returns-clause-does
returns-clause-does g c =
    subst (λ (o : Option Served). IsAnswering o (take (length c.args.bytes.now) c.args.bytes.now) [] (Some c.serve.new.bench))
    (sym (sym c.take.ensures.value ∙ c.in-Some.is))
    (delivered c.in-Some.bench c.receive.new.self c.serve.new.bench c.args.bytes.now (c.in-Ok.ensures.ok, c.in-Ok.ensures.lost)
    (c.serve.ensures.goes c.if-not-serve.false))
