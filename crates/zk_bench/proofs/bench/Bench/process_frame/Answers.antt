-- The first request of a connection is a ConnectRequest with a timeout above 0, by `first_by`: so what `process_first` ensures holds of it.
-- Of a call that its caller has spelled `process_later` ensures what is said, since the client is accepted.
use Rattle.std.proofs.Common.{◌≡◌, sym, ap, ◌∙◌, subst, drop}
use Rattle.std.proofs.Common.{take as first}
use Rattle.std.specs.Prelude.{OnOk, IsErrOf}
use Rattle.zk_laws.specs.Messages.{Request}
use Rattle.zk_laws.specs.ServerSteps.{Stage}
use Rattle.theory_serving.specs.Wires.{IsFor}
use Rattle.zk_bench.specs.Served.{Served}
use Rattle.zk_bench.specs.declared.stop.Stop.TheVariants as stops
use Rattle.zk_bench.specs.declared.phase.Phase.TheVariants.{Opening, Accepted}
use Rattle.zk_bench.specs.inner.Stepping.{AnswersOne}
use Rattle.zk_bench.specs.Stepping.{stage_of, shown_of}
use Rattle.zk_bench.proofs.ProcessedFirst.{first_by}
use Rattle.zk_bench.specs.Answerable.{IsAnswerable}
use Rattle.zk_bench.proofs.bench.Bench.process_frame.Goals as goal

pub returns-in-Opening-clause-serves : goal.returns-in-Opening-clause-serves
returns-in-Opening-clause-serves g c = λ asked xid ready up now read fit.
    let old = c.args.self.now in
    let opening : old.connection.phase ≡ Opening = ap (λ (s : Served). s.connection.phase) (sym c.self.view_is) ∙ c.in-Opening.is in
    first_by (λ (one : Request). OnOk c.process_first.result (AnswersOne one xid (shown_of old) (shown_of c.process_first.new.self))) asked
    xid (first c.args.length (drop 4 old.connection.requests))
    (subst (λ (s : Stage). IsFor asked s) (ap stage_of opening) now) fit
    (λ seen timeout session password found above.
    c.process_first.ensures.connects seen timeout session password xid ready opening found above)

pub returns-in-Opening-clause-stays : goal.returns-in-Opening-clause-stays
returns-in-Opening-clause-stays g c = λ asked xid ready up now read fit.
    let old = c.args.self.now in
    let opening : old.connection.phase ≡ Opening = ap (λ (s : Served). s.connection.phase) (sym c.self.view_is) ∙ c.in-Opening.is in
    first_by (λ (one : Request). IsAnswerable one old → ¬ IsErrOf c.process_first.result stops.End) asked xid
    (first c.args.length (drop 4 old.connection.requests))
    (subst (λ (s : Stage). IsFor asked s) (ap stage_of opening) now) fit
    (λ seen timeout session password found above low. c.process_first.ensures.stays seen timeout session password ready found low)

pub returns-in-Opening-clause-unknown : goal.returns-in-Opening-clause-unknown
returns-in-Opening-clause-unknown g c = λ operation given xid accepted raw.
    let opening : Accepted ≡ Opening =
    sym accepted ∙ ap (λ (s : Served). s.connection.phase) (sym c.self.view_is) ∙ c.in-Opening.is in
    absurd cc
