-- The ConnectRequest that is read is the one in the frame, so `admit` answers it; that the frame's bytes are gone changes nothing of that,
-- by `front_gone` and `ready_front`. Reading it fails for want of memory alone, which is no end of the connection.
use Rattle.std.proofs.Common.{◌≡◌, sym, ap, ◌∙◌, subst, pos, Some, false, drop, ◌≤◌}
use Rattle.std.proofs.Common.{take as first}
use Rattle.std.specs.Prelude.{int_lt}
use Rattle.zk_jute.specs.Layout.{Value}
use Rattle.zk_records.specs.Layouts.{connect_request}
use Rattle.zk_records.specs.Views.{request_of}
use Rattle.zk_laws.specs.Messages.{Connect}
use Rattle.zk_laws.specs.Parsed.{IsRecord}
use Rattle.zk_bench.specs.Served.{Served}
use Rattle.zk_bench.specs.declared.phase.Phase.TheVariants.{Opening}
use Rattle.zk_bench.specs.Stepping.{IsReady, shown_of, zxid_of}
use Rattle.zk_bench.proofs.Fields.{bench_of}
use Rattle.zk_bench.proofs.Stepped.{ready_front, front_gone, ok_so}
use Rattle.zk_bench.proofs.Staying.{handed_on}
use Rattle.zk_bench.proofs.bench.Bench.process_first.Goals as goal

pub returns-in_err-first-clause-ready : goal.returns-in_err-first-clause-ready
returns-in_err-first-clause-ready g c =
    let b = bench_of c.self.inside in
    let rest = c.remove_front.new.bytes.items in
    subst (λ (old : Served). IsReady old → IsReady (record b { connection = record b.connection { requests = rest } })) c.self.view_is
    (λ ready. ready_front b rest ready)

pub returns-clause-ready : goal.returns-clause-ready
returns-clause-ready g c =
    let b = bench_of c.self.inside in
    subst (λ (old : Served). IsReady old → IsReady c.admit.new.self) c.self.view_is
    (λ ready. c.admit.ensures.ready (ready_front b c.remove_front.new.bytes.items ready))

pub returns-clause-connects : goal.returns-clause-connects
returns-clause-connects g c = λ seen timeout session password xid ready opening read up.
    let b = bench_of c.self.inside in
    let rest = c.remove_front.new.bytes.items in
    let value : Value connect_request = (pos 0, (pos seen, (timeout, (session, (Some password, false))))) in
    let found : request_of c.in_ok-first.field-0 ≡ value =
    c.in_ok-first.ensures value
    (subst (λ bytes. IsRecord connect_request value (first c.args.length (drop 4 bytes)))
    (ap (λ (s : Served). s.connection.requests) (sym c.self.view_is) ∙ sym c.deref.ensures.value) read) in
    ok_so c.admit.result _ _
    (c.admit.ensures.admits seen xid (ready_front b rest (subst IsReady (sym c.self.view_is) ready))
    (subst (λ (s : Served). s.connection.phase ≡ Opening) (sym c.self.view_is) opening)
    (ap (λ (v : Value connect_request). v.1.0) found) (ap (λ (v : Value connect_request). int_lt (pos 0) v.1.1.0) found ∙ up))
    (front_gone b c.args.self.now rest (Connect seen) xid (shown_of c.admit.new.self) c.self.view_is)

pub returns-in_err-first-clause-stays : goal.returns-in_err-first-clause-stays
returns-in_err-first-clause-stays g c = λ seen timeout session password ready read low.
    handed_on c.from_residual.result _ _ c.from_residual.ensures.1
    (λ over. let memory = c.in_err-first.ensures (pos 0, (pos seen, (timeout, (session, (Some password, false)))))
    (subst (λ bytes. IsRecord connect_request (pos 0, (pos seen, (timeout, (session, (Some password, false))))) (first c.args.length
    (drop 4 bytes))) (ap (λ (s : Served). s.connection.requests) (sym c.self.view_is) ∙ sym c.deref.ensures.value) read) in cc)

pub returns-clause-stays : goal.returns-clause-stays
returns-clause-stays g c = λ seen timeout session password ready read low.
    let b = bench_of c.self.inside in
    let value : Value connect_request = (pos 0, (pos seen, (timeout, (session, (Some password, false))))) in
    let found : request_of c.in_ok-first.field-0 ≡ value =
    c.in_ok-first.ensures value
    (subst (λ bytes. IsRecord connect_request value (first c.args.length (drop 4 bytes)))
    (ap (λ (s : Served). s.connection.requests) (sym c.self.view_is) ∙ sym c.deref.ensures.value) read) in
    c.admit.ensures.stays seen (ready_front b c.remove_front.new.bytes.items (subst IsReady (sym c.self.view_is) ready))
    (ap (λ (v : Value connect_request). v.1.0) found)
    (subst (λ (s : Served). seen ≤ zxid_of s) (sym c.self.view_is) low)
