-- By the request: it is answered or declined as `create`, `set_data`, `delete`, `pong` or `read` ensures. One that is left for `read` is
-- a read or a part of setWatches, by `look_if`. Data that were read are short, by `data_small`: so a create or setData ends no connection.
use Rattle.std.proofs.Common.{rules, ◌≡◌, sym, ap, subst, ℤ, to_z, of_z, w32}
use Rattle.std.specs.Prelude.{Err, OnOk, IfErr}
use Rattle.zk_bench.specs.inner.Asking.{Asks}
use Rattle.zk_bench.specs.inner.Stepping.{ProcessesOne, AnswersOne, Declines}
use Rattle.zk_bench.specs.Stepping.{shown_of}
use Rattle.zk_bench.proofs.Answered.{errs_so}
use Rattle.zk_laws.specs.Messages.{Request as Wanted}
use Rattle.zk_bench.specs.Served.{ended}
use Rattle.zk_bench.proofs.Called.{look_if, pings_asked}
use Rattle.zk_bench.proofs.ProcessedWrites.{stops_by}
use Rattle.zk_jute.specs.Spelling.{Fits}
use Rattle.zk_records.specs.Layouts.{create_request, set_data_request}
use Rattle.zk_records.specs.Operations.{body_layout}
use Rattle.zk_records.specs.Request.{operation_of, body_of}
use Rattle.zk_bench.proofs.Staying.{data_small}
use Rattle.zk_bench.proofs.bench.Bench.answer.Goals as goal

pub returns-in-Create-clause-answers : goal.returns-in-Create-clause-answers
returns-in-Create-clause-answers g c = λ asked has asks.
    let xid : to_z w32 (of_z w32 c.args.xid) ≡ c.args.xid = search rules in
    subst (λ (x : ℤ). OnOk c.create.result (AnswersOne asked x (shown_of c.args.self.now) (shown_of c.create.new.self))) xid
    (c.create.ensures.answers asked has (subst (λ r. Asks r asked) c.in-Create.is asks))

pub returns-in-Create-clause-declines : goal.returns-in-Create-clause-declines
returns-in-Create-clause-declines g c = λ asked has asks.
    let xid : to_z w32 (of_z w32 c.args.xid) ≡ c.args.xid = search rules in
    subst (λ (x : ℤ). IfErr c.create.result (Declines asked x c.args.self.now c.create.new.self)) xid
    (c.create.ensures.declines asked has (subst (λ r. Asks r asked) c.in-Create.is asks))

pub returns-in-Create-clause-ready : goal.returns-in-Create-clause-ready
returns-in-Create-clause-ready g c = λ has. (c.create.ensures.has has).ready

pub returns-in-SetData-clause-answers : goal.returns-in-SetData-clause-answers
returns-in-SetData-clause-answers g c = λ asked has asks.
    let xid : to_z w32 (of_z w32 c.args.xid) ≡ c.args.xid = search rules in
    subst (λ (x : ℤ). OnOk c.set_data.result (AnswersOne asked x (shown_of c.args.self.now) (shown_of c.set_data.new.self))) xid
    (c.set_data.ensures.answers asked has (subst (λ r. Asks r asked) c.in-SetData.is asks))

pub returns-in-SetData-clause-declines : goal.returns-in-SetData-clause-declines
returns-in-SetData-clause-declines g c = λ asked has asks.
    let xid : to_z w32 (of_z w32 c.args.xid) ≡ c.args.xid = search rules in
    subst (λ (x : ℤ). IfErr c.set_data.result (Declines asked x c.args.self.now c.set_data.new.self)) xid
    (c.set_data.ensures.declines asked has (subst (λ r. Asks r asked) c.in-SetData.is asks))

pub returns-in-SetData-clause-ready : goal.returns-in-SetData-clause-ready
returns-in-SetData-clause-ready g c = λ has. (c.set_data.ensures.has has).ready

pub returns-in-Delete-clause-answers : goal.returns-in-Delete-clause-answers
returns-in-Delete-clause-answers g c = λ asked has asks.
    let xid : to_z w32 (of_z w32 c.args.xid) ≡ c.args.xid = search rules in
    subst (λ (x : ℤ). OnOk c.delete.result (AnswersOne asked x (shown_of c.args.self.now) (shown_of c.delete.new.self))) xid
    (c.delete.ensures.answers asked has (subst (λ r. Asks r asked) c.in-Delete.is asks))

pub returns-in-Delete-clause-declines : goal.returns-in-Delete-clause-declines
returns-in-Delete-clause-declines g c = λ asked has asks.
    let xid : to_z w32 (of_z w32 c.args.xid) ≡ c.args.xid = search rules in
    subst (λ (x : ℤ). IfErr c.delete.result (Declines asked x c.args.self.now c.delete.new.self)) xid
    (c.delete.ensures.declines asked has (subst (λ r. Asks r asked) c.in-Delete.is asks))

pub returns-in-Delete-clause-ready : goal.returns-in-Delete-clause-ready
returns-in-Delete-clause-ready g c = λ has. (c.delete.ensures.has has).ready

pub returns-in_err-pong-in-Ping-clause-declines : goal.returns-in_err-pong-in-Ping-clause-declines
returns-in_err-pong-in-Ping-clause-declines g c = λ asked has asks.
    let old = c.args.self.now in
    let new = c.pong.new.self in
    errs_so c.from_residual.result _ _ c.from_residual.ensures.1
    (λ refusal same. subst (Declines asked c.args.xid old new) (sym same)
    (stops_by asked c.args.xid old new _
    (λ over. pings_asked (λ (one : Wanted). ProcessesOne one c.args.xid (shown_of old) (shown_of (ended new))) asked
    (subst (λ r. Asks r asked) c.in-Ping.is asks)
    (c.in_err-pong-in-Ping.ensures.ends c.args.xid has (ap Err over)))))

pub returns-in_ok-pong-in-Ping-clause-answers : goal.returns-in_ok-pong-in-Ping-clause-answers
returns-in_ok-pong-in-Ping-clause-answers g c = λ asked has asks.
    pings_asked (λ (one : Wanted). AnswersOne one c.args.xid (shown_of c.args.self.now) (shown_of c.pong.new.self)) asked
    (subst (λ r. Asks r asked) c.in-Ping.is asks) (c.in_ok-pong-in-Ping.ensures.answers c.args.xid has)

pub returns-in_default-clause-answers : goal.returns-in_default-clause-answers
returns-in_default-clause-answers g c = λ asked has asks.
    let other = c.in_default in
    let xid : to_z w32 (of_z w32 c.args.xid) ≡ c.args.xid = search rules in
    let look =
    look_if c.args.request asked asks other.not-Create other.not-SetData other.not-Delete other.not-Ping other.not-CloseSession in
    subst (λ (x : ℤ). OnOk c.read-outcome.result (AnswersOne asked x (shown_of c.args.self.now) (shown_of c.read-outcome.new.self))) xid
    (c.read-outcome.ensures.answers asked has look asks)

pub returns-in-Create-clause-stays : goal.returns-in-Create-clause-stays
returns-in-Create-clause-stays g c = λ asked has asks answerable fits.
    let fit : Fits create_request _ = subst (λ q. Fits (body_layout (operation_of q)) (body_of q)) c.in-Create.is fits in
    c.create.ensures.stays asked (subst (λ r. Asks r asked) c.in-Create.is asks) (data_small c.in-Create.r.bytes fit.1.0)

pub returns-in-SetData-clause-stays : goal.returns-in-SetData-clause-stays
returns-in-SetData-clause-stays g c = λ asked has asks answerable fits.
    let fit : Fits set_data_request _ = subst (λ q. Fits (body_layout (operation_of q)) (body_of q)) c.in-SetData.is fits in
    c.set_data.ensures.stays (data_small c.in-SetData.r.bytes fit.1.0)

pub returns-in_default-clause-stays : goal.returns-in_default-clause-stays
returns-in_default-clause-stays g c = λ asked has asks answerable fits.
    let other = c.in_default in
    c.read-outcome.ensures.stays asked has (look_if c.args.request asked asks other.not-Create other.not-SetData other.not-Delete
    other.not-Ping other.not-CloseSession) asks answerable
