-- The end of a session is answered by a step of the laws, which ends the connection: `closes_so`, from the header that `send_err` sends.
use Rattle.std.proofs.Common.{rules, ◌≡◌, sym, subst, ℤ, pos, to_z, of_z, w32}
use Rattle.zk_conversation.specs.Calls.{Close}
use Rattle.zk_laws.specs.Messages.{Ask}
use Rattle.zk_bench.specs.Served.{Served}
use Rattle.zk_bench.specs.declared.phase.Phase.TheVariants.{Ended}
use Rattle.zk_bench.specs.inner.Stepping.{AnswersOne}
use Rattle.zk_bench.specs.Stepping.{zxid_of, shown_of}
use Rattle.zk_bench.specs.inner.Serving.{SendsHeader}
use Rattle.zk_bench.proofs.Fields.{bench_of}
use Rattle.zk_bench.proofs.ProcessedLooks.{closes_so}
use Rattle.zk_bench.proofs.bench.Bench.close.Goals as goal

pub returns-clause-answers : goal.returns-clause-answers
returns-clause-answers g c = λ has.
    let old = c.args.self.now in
    let b = bench_of c.self.inside in
    let done = c.in_ok-send_err.ensures in
    let xid : to_z w32 (of_z w32 c.args.xid) ≡ c.args.xid = search rules in
    subst (λ (n : Served). AnswersOne (Ask Close) c.args.xid (shown_of old)
    (shown_of (record n { connection = record n.connection { phase = Ended } }))) (sym c.self.view_is)
    (subst (λ (n : Served). AnswersOne (Ask Close) c.args.xid (shown_of old)
    (shown_of (record n { connection = record n.connection { phase = Ended } }))) (sym done.only)
    (closes_so old c.send_err.new.self.connection.output c.args.xid has
    (subst (λ (x : ℤ). SendsHeader (x, (pos (zxid_of old), pos 0)) old.connection.output c.send_err.new.self.connection.output) xid
    (done.sends has.ready))))
