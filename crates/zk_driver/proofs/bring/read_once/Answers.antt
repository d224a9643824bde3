-- What is brought is the front of the buffer that the stream says it gave (`read_goes`), and nothing where the read failed or gave none.
use Rattle.std.proofs.Common.{arith, ◌≡◌, ◌∙◌, [], refl, sym, take}
use Rattle.std.proofs.lemmas.Grind.{common_steps}
use Rattle.zk_driver.specs.declared.bring.Reading.TheVariants.{Bytes, Nothing, End}
use Rattle.zk_driver.proofs.Fronts.{read_goes}
use Rattle.zk_driver.proofs.bring.read_once.Goals as goal

pub returns-in_ok-bytes-in-Bytes-clause-goes : goal.returns-in_ok-bytes-in-Bytes-clause-goes
returns-in_ok-bytes-in-Bytes-clause-goes g c =
    let piece : c.in_ok-bytes-in-Bytes.bytes.items ≡ take c.in-Bytes.count c.read_some.new.buf = grind (arith, common_steps) in
    read_goes g.S.Stream.far c.read_some.result (Bytes c.in-Bytes.count) c.read_some.new.buf c.in_ok-bytes-in-Bytes.bytes.items
    (g.S.Stream.state c.args.stream.now) (g.S.Stream.state c.read_some.new.self) c.read_some.ensures.goes
    (sym c.in-Bytes.is ∙ c.reading_of.ensures) piece

pub returns-in-Nothing-clause-goes : goal.returns-in-Nothing-clause-goes
returns-in-Nothing-clause-goes g c =
    read_goes g.S.Stream.far c.read_some.result Nothing c.read_some.new.buf [] (g.S.Stream.state c.args.stream.now)
    (g.S.Stream.state c.read_some.new.self) c.read_some.ensures.goes (sym c.in-Nothing.is ∙ c.reading_of.ensures) refl

pub returns-in-End-clause-goes : goal.returns-in-End-clause-goes
returns-in-End-clause-goes g c =
    read_goes g.S.Stream.far c.read_some.result (End c.in-End.reason) c.read_some.new.buf [] (g.S.Stream.state c.args.stream.now)
    (g.S.Stream.state c.read_some.new.self) c.read_some.ensures.goes (sym c.in-End.is ∙ c.reading_of.ensures) refl
