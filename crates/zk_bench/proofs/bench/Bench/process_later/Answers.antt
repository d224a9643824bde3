-- The request that is read is the one in the frame, under its xid, by `found_front`. It is answered or declined as `answer` ensures, and
-- that the frame's bytes are gone changes nothing of that, by `front_gone`. A code that it is owed is sent, by `owed_to`, or the
-- connection ends, by `owed_unsent`. Reading a request that is known fails for want of memory alone, by `read_front`; a call that its
-- caller has spelled is not read, and nothing follows but that its bytes are gone.
use Rattle.std.proofs.Common.{rules, ◌≡◌, ap, ◌+◌, ◌∙◌, subst, ℤ, pos, drop, to_z, of_z, w32, sym, refl}
use Rattle.std.proofs.Common.{take as first}
use Rattle.std.specs.Prelude.{Ok, Err}
use Rattle.zk_records.specs.Codes.{code_number}
use Rattle.zk_laws.specs.Messages.{Request}
use Rattle.zk_laws.specs.Parsed.{IsReadAs}
use Rattle.zk_laws.specs.ServerSteps.{Serving}
use Rattle.theory_serving.specs.Wires.{IsFit, IsFor}
use Rattle.zk_bench.specs.Linked.{linked_of}
use Rattle.zk_bench.specs.Served.{Served, ended}
use Rattle.zk_bench.specs.declared.stop.Stop.{Stop}
use Rattle.zk_bench.specs.declared.stop.Stop.TheVariants as stops
use Rattle.zk_bench.specs.declared.stop.Refusal.{Refusal}
use Rattle.zk_bench.specs.declared.stop.Refusal.TheVariants as refusals
use Rattle.zk_bench.specs.inner.Serving.{SendsHeader}
use Rattle.zk_bench.specs.inner.Stepping.{HasClient, ProcessesOne, AnswersOne, Declines, EndsBy, OwesTo}
use Rattle.zk_bench.specs.Stepping.{zxid_of, shown_of}
use Rattle.zk_bench.proofs.Fields.{bench_of}
use Rattle.zk_bench.proofs.Stepped.{ok_so, front_gone, left_front}
use Rattle.zk_bench.proofs.Asked.{errs_never}
use Rattle.zk_bench.proofs.Called.{found_front, known_answerable, raw_front, read_front}
use Rattle.zk_bench.proofs.ProcessedLooks.{ends_unsent}
use Rattle.zk_bench.proofs.ProcessedFirst.{has_front, ready_sending, owed_to, owed_unsent}
use Rattle.zk_bench.specs.Answerable.{IsAnswerable}
use Rattle.zk_bench.proofs.Staying.{handed_on}
use Rattle.zk_bench.proofs.bench.Bench.process_later.Goals as goal

pub returns-in-Ok-clause-serves : goal.returns-in-Ok-clause-serves
returns-in-Ok-clause-serves g c = λ asked xid has later read fit.
    let b = bench_of c.self.inside in
    let rest = c.remove_front.new.bytes.items in
    let mid : Served = record b { connection = record b.connection { requests = rest } } in
    let ranged : to_z w32 (of_z w32 c.in_ok-xid.xid) ≡ c.in_ok-xid.xid = search rules in
    let found = found_front b c.args.self.now c.args.length _ asked xid _ _ c.in_ok-xid.request c.self.view_is c.deref.ensures.value ranged
    later read fit c.in_ok-xid.ensures.read c.in_ok-xid.ensures.unknown in
    front_gone b c.args.self.now rest asked xid (shown_of c.answer.new.self) c.self.view_is
    (subst (λ (x : ℤ). AnswersOne asked x (shown_of mid) (shown_of c.answer.new.self)) found.1
    (c.in-Ok.ensures.answers asked (has_front b c.args.self.now rest c.self.view_is has) found.0))

pub returns-in-Err-Stop-clause-ends : goal.returns-in-Err-Stop-clause-ends
returns-in-Err-Stop-clause-ends g c = λ asked xid has later read fit over.
    let b = bench_of c.self.inside in
    let rest = c.remove_front.new.bytes.items in
    let mid : Served = record b { connection = record b.connection { requests = rest } } in
    let ranged : to_z w32 (of_z w32 c.in_ok-xid.xid) ≡ c.in_ok-xid.xid = search rules in
    let found = found_front b c.args.self.now c.args.length _ asked xid _ _ c.in_ok-xid.request c.self.view_is c.deref.ensures.value ranged
    later read fit c.in_ok-xid.ensures.read c.in_ok-xid.ensures.unknown in
    let new = c.answer.new.self in
    let stop : c.in-Err-Stop.stop ≡ stops.End = ap (λ o. elim o [ Ok x ↦ stops.End | Err e ↦ e ]) over in
    let ends : EndsBy c.in-Err-Stop.stop asked xid (shown_of mid) (shown_of (ended new)) =
    subst (λ (x : ℤ). EndsBy c.in-Err-Stop.stop asked x (shown_of mid) (shown_of (ended new))) found.1
    (subst (λ (r : Refusal). Declines asked (to_z w32 (of_z w32 c.in_ok-xid.xid)) mid new r) c.in-Err-Stop.field-0-is
    (c.in-Err-Stop.ensures.declines asked (has_front b c.args.self.now rest c.self.view_is has) found.0)) in
    front_gone b c.args.self.now rest asked xid (shown_of (ended new)) c.self.view_is
    (subst (λ (s : Stop). EndsBy s asked xid (shown_of mid) (shown_of (ended new))) stop ends)

-- the code that the request is owed, under its xid
owed : (g : _) (c : goal.After-send_err g) (asked : Request) (xid : ℤ) → HasClient c.args.self.now → IsFor asked Serving
    → IsReadAs asked xid (first c.args.length (drop 4 c.args.self.now.connection.requests))
    → IsFit asked (first c.args.length (drop 4 c.args.self.now.connection.requests))
    → OwesTo asked (code_number c.in-Err-Code.code) (shown_of (record (bench_of c.self.inside) {
      connection =
          record (linked_of c.self.inside.connection) { requests = c.remove_front.new.bytes.items };
    })) (shown_of c.answer.new.self)
    × (to_z w32 (of_z w32 c.in_ok-xid.xid) ≡ xid)
owed g c asked xid has later read fit =
    let b = bench_of c.self.inside in
    let rest = c.remove_front.new.bytes.items in
    let mid : Served = record b { connection = record b.connection { requests = rest } } in
    let ranged : to_z w32 (of_z w32 c.in_ok-xid.xid) ≡ c.in_ok-xid.xid = search rules in
    let found = found_front b c.args.self.now c.args.length _ asked xid _ _ c.in_ok-xid.request c.self.view_is c.deref.ensures.value ranged
    later read fit c.in_ok-xid.ensures.read c.in_ok-xid.ensures.unknown in (
      subst (λ (r : Refusal). Declines asked (to_z w32 (of_z w32 c.in_ok-xid.xid)) mid c.answer.new.self r) c.in-Err-Code.field-0-is
          (c.in-Err-Code.ensures.declines asked (has_front b c.args.self.now rest c.self.view_is has) found.0),
      found.1,
    )

pub returns-in-Err-Code-clause-serves : goal.returns-in-Err-Code-clause-serves
returns-in-Err-Code-clause-serves g c = λ asked xid has later read fit.
    let b = bench_of c.self.inside in
    let rest = c.remove_front.new.bytes.items in
    let late = c.answer.new.self in
    let new = c.send_err.new.self in
    let owes = owed g c asked xid has later read fit in
    let number : to_z w32 (of_z w32 c.number.result) ≡ c.number.result = search rules in
    ok_so c.send_err.result _ _ (c.send_err.ensures.sends (c.answer.ensures.ready (has_front b c.args.self.now rest c.self.view_is has)))
    (λ s. front_gone b c.args.self.now rest asked xid (shown_of new) c.self.view_is
    (owed_to asked (code_number c.in-Err-Code.code) xid _ late new owes.0
    (subst (λ (x : ℤ). SendsHeader (x, (pos (zxid_of late), code_number c.in-Err-Code.code)) late.connection.output new.connection.output)
    owes.1
    (subst (λ (n : ℤ). SendsHeader (to_z w32 (of_z w32 c.in_ok-xid.xid), (pos (zxid_of late), n)) late.connection.output
    new.connection.output) (number ∙ c.number.ensures) s)) c.send_err.ensures.only))

pub returns-in-Err-Code-clause-ends : goal.returns-in-Err-Code-clause-ends
returns-in-Err-Code-clause-ends g c = λ asked xid has later read fit over.
    let new = c.send_err.new.self in
    front_gone (bench_of c.self.inside) c.args.self.now c.remove_front.new.bytes.items asked xid (shown_of (ended new)) c.self.view_is
    (owed_unsent asked (code_number c.in-Err-Code.code) xid _ c.answer.new.self new
    (owed g c asked xid has later read fit).0 c.send_err.ensures.only (c.send_err.ensures.sent over))

pub returns-in-Err-Code-clause-ready : goal.returns-in-Err-Code-clause-ready
returns-in-Err-Code-clause-ready g c = λ has.
    ready_sending c.answer.new.self c.send_err.new.self (c.answer.ensures.ready
    (has_front (bench_of c.self.inside) c.args.self.now c.remove_front.new.bytes.items c.self.view_is has)) c.send_err.ensures.only

pub returns-in-Err-Stop-clause-stays : goal.returns-in-Err-Stop-clause-stays
returns-in-Err-Stop-clause-stays g c = λ asked xid has later read fit answerable over.
    let b = bench_of c.self.inside in
    let rest = c.remove_front.new.bytes.items in
    let ranged : to_z w32 (of_z w32 c.in_ok-xid.xid) ≡ c.in_ok-xid.xid = search rules in
    let found = found_front b c.args.self.now c.args.length _ asked xid _ _ c.in_ok-xid.request c.self.view_is c.deref.ensures.value ranged
    later read fit c.in_ok-xid.ensures.read c.in_ok-xid.ensures.unknown in
    let stop : c.in-Err-Stop.stop ≡ stops.End = ap (λ o. elim o [ Ok x ↦ stops.End | Err e ↦ e ]) over in
    c.in-Err-Stop.ensures.stays asked (has_front b c.args.self.now rest c.self.view_is has) found.0
    (subst (IsAnswerable asked) (sym c.self.view_is) answerable) c.in_ok-xid.ensures.fits
    (ap Err (c.in-Err-Stop.field-0-is ∙ ap refusals.Stop stop))

pub returns-in_err-xid-clause-ends : goal.returns-in_err-xid-clause-ends
returns-in_err-xid-clause-ends g c = λ asked xid has later read fit over.
    let b = bench_of c.self.inside in
    let mid : Served = record b { connection = record b.connection { requests = c.remove_front.new.bytes.items } } in
    subst (λ (s : Served). ProcessesOne asked xid (shown_of s) (shown_of (ended mid))) c.self.view_is
    (ends_unsent asked xid b mid refl refl)

pub returns-in_err-xid-clause-stays : goal.returns-in_err-xid-clause-stays
returns-in_err-xid-clause-stays g c = λ asked xid has later read fit answerable.
    handed_on c.from_residual.result _ _ c.from_residual.ensures.1
    (λ over. read_front (bench_of c.self.inside) c.args.self.now c.args.length _ asked xid ⊥ c.self.view_is c.deref.ensures.value later
    (known_answerable asked c.args.self.now answerable) read fit (λ a found. let memory = c.in_err-xid.ensures.read a found in cc))

pub returns-in-Ok-clause-unknown : goal.returns-in-Ok-clause-unknown
returns-in-Ok-clause-unknown g c = λ operation given xid raw.
    absurd (c.in_ok-xid.ensures.unknown operation given xid
    (raw_front (bench_of c.self.inside) c.args.self.now c.args.length _ operation given xid c.self.view_is c.deref.ensures.value raw))

pub returns-in-Err-Stop-clause-unknown : goal.returns-in-Err-Stop-clause-unknown
returns-in-Err-Stop-clause-unknown g c = λ operation given xid raw.
    absurd (c.in_ok-xid.ensures.unknown operation given xid
    (raw_front (bench_of c.self.inside) c.args.self.now c.args.length _ operation given xid c.self.view_is c.deref.ensures.value raw))

pub returns-in-Err-Code-clause-unknown : goal.returns-in-Err-Code-clause-unknown
returns-in-Err-Code-clause-unknown g c = λ operation given xid raw.
    absurd (c.in_ok-xid.ensures.unknown operation given xid
    (raw_front (bench_of c.self.inside) c.args.self.now c.args.length _ operation given xid c.self.view_is c.deref.ensures.value raw))

pub returns-in_err-xid-clause-unknown : goal.returns-in_err-xid-clause-unknown
returns-in_err-xid-clause-unknown g c = λ operation given xid raw. (
  left_front (bench_of c.self.inside) c.args.self.now c.remove_front.new.bytes.items (4 + c.args.length) c.self.view_is
      c.remove_front.ensures.items,
  errs_never c.from_residual.result _ c.from_residual.ensures.1,
)
