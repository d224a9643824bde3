-- Setting the wait reads nothing (`consumes_none`), so what comes is the one read's (`read_kept`). Both keep what was written (`keeps_on`).
-- At the far end one step follows the other (`ok_goes_then`).
use Rattle.zk_link.proofs.Streaming.{consumes_none, keeps_on, read_kept}
use Rattle.std.specs.Prelude.{[]}
use Rattle.zk_link.proofs.Reaching.{goes_once, ok_goes_then}
use Rattle.zk_driver.specs.inner.Driving.{input_of}
use Rattle.zk_driver.specs.Flowing.{bytes_in}
use Rattle.zk_driver.proofs.bring.bring.Goals as goal

pub returns-then-is_err-clause-whole : goal.returns-then-is_err-clause-whole
returns-then-is_err-clause-whole g c =
    consumes_none (g.S.Read.remaining c.args.stream.now) (g.S.Read.remaining c.wait_at_most.new.self) c.wait_at_most.ensures.gives

pub returns-clause-whole : goal.returns-clause-whole
returns-clause-whole g c =
    read_kept c.read_once.result (λ brought. bytes_in (input_of brought)) (g.S.Read.remaining c.args.stream.now)
    (g.S.Read.remaining c.wait_at_most.new.self)
    (g.S.Read.remaining c.read_once.new.stream) c.wait_at_most.ensures.gives c.read_once.ensures.whole

pub returns-clause-took : goal.returns-clause-took
returns-clause-took g c =
    keeps_on (g.S.Write.contents c.args.stream.now) (g.S.Write.contents c.wait_at_most.new.self) (g.S.Write.contents c.read_once.new.stream)
    c.wait_at_most.ensures.took c.read_once.ensures.took

pub returns-then-is_err-clause-goes : goal.returns-then-is_err-clause-goes
returns-then-is_err-clause-goes g c =
    goes_once g.S.Stream.far [] [] (g.S.Stream.state c.args.stream.now)
    (g.S.Stream.state c.wait_at_most.new.self) c.wait_at_most.ensures.goes

pub returns-clause-goes : goal.returns-clause-goes
returns-clause-goes g c =
    let met = g.S.Stream.state c.args.stream.now in
    let waited = g.S.Stream.state c.wait_at_most.new.self in
    ok_goes_then g.S.Stream.far c.read_once.result (λ brought. bytes_in (input_of brought)) [] met waited
    (g.S.Stream.state c.read_once.new.stream)
    (goes_once g.S.Stream.far [] [] met waited c.wait_at_most.ensures.goes) c.read_once.ensures.goes
