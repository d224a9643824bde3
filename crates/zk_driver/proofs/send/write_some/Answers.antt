-- What a write took is the front of the bytes that the stream says it took (`write_goes`), and nothing where it failed or took none.
use Rattle.std.proofs.Common.{rules, ◌≡◌, [], Some, refl, subst, sym, take}
use Rattle.std.specs.Prelude.{unwrap_or}
use Rattle.zk_link.specs.FarEnds.{Goes}
use Rattle.zk_driver.specs.inner.Reads.{written_by}
use Rattle.zk_driver.proofs.Fronts.{write_goes}
use Rattle.zk_driver.proofs.send.write_some.Goals as goal

pub returns-in_err-count-clause-goes : goal.returns-in_err-count-clause-goes
returns-in_err-count-clause-goes g c =
    let is : c.from_residual.result ≡ written_by c.give.result = search rules in
    write_goes g.S.Stream.far c.give.result c.from_residual.result (unwrap_or c.from_residual.result 0) c.args.bytes.now
    (g.S.Stream.state c.args.stream.now) (g.S.Stream.state c.give.new.self) c.give.ensures.goes is refl

pub returns-clause-goes : goal.returns-clause-goes
returns-clause-goes g c =
    let is : Some c.in_ok-count.count ≡ written_by c.give.result = search rules in
    let same : take c.min.result c.args.bytes.now ≡ take c.in_ok-count.count c.args.bytes.now = search rules in
    let old = g.S.Stream.state c.args.stream.now in
    let new = g.S.Stream.state c.give.new.self in
    subst (λ taken. Goes g.S.Stream.far taken [] old new) (sym same)
    (write_goes g.S.Stream.far c.give.result (Some c.in_ok-count.count) c.in_ok-count.count c.args.bytes.now old new c.give.ensures.goes
    is refl)
