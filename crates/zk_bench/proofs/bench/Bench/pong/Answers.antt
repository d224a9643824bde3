-- A ping is answered by a step of the laws: `pongs`, from the header that `send_err` sends.
use Rattle.std.proofs.Common.{sym, subst}
use Rattle.zk_laws.specs.Messages.{Ping}
use Rattle.zk_bench.specs.Served.{Served}
use Rattle.zk_bench.specs.inner.Stepping.{AnswersOne}
use Rattle.zk_bench.specs.Stepping.{shown_of}
use Rattle.zk_bench.proofs.Stepped.{ok_so}
use Rattle.zk_bench.proofs.ProcessedLooks.{pongs}
use Rattle.zk_bench.proofs.bench.Bench.pong.Goals as goal

pub returns-clause-answers : goal.returns-clause-answers
returns-clause-answers g c = λ xid has.
    let old = c.args.self.now in
    let new = c.send_err.new.self in
    ok_so c.send_err.result _ _ (c.send_err.ensures.sends has.ready)
    (λ s. subst (λ (n : Served). AnswersOne Ping xid (shown_of old) (shown_of n)) (sym c.send_err.ensures.only)
    (pongs old new.connection.output xid has s))
