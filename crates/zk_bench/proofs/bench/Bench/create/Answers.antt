-- The create that `make` makes is the one that was asked for, by `creates_asked`, and its mode that of the flags, by `mode_is`.
-- What `make` ensures after catching up holds from before it: `processes_then` and `declines_then`. Where there is no mode, or
-- catching up fails, the create is declined, by `ends_then`; with flags from 0 to 3 it does not end the connection.
use Rattle.std.proofs.Common.{rules, ◌≡◌, ◌≤◌, ℕ, pos, ap, ◌∙◌, subst, ℤ, to_z, of_z, w32}
use Rattle.std.specs.Prelude.{OnOk, IfErr, Err}
use Rattle.zk_jute.specs.Lenient.{or_empty}
use Rattle.zk_nodes.specs.Path.{Text}
use Rattle.zk_conversation.specs.Calls.{Create}
use Rattle.zk_laws.specs.Messages.{Request, Ask}
use Rattle.zk_records.specs.declared.request.Request.TheVariants as requests
use Rattle.zk_bench.specs.declared.stop.Stop.TheVariants as stops
use Rattle.zk_bench.specs.inner.Asking.{Asks}
use Rattle.zk_bench.specs.inner.Stepping.{AnswersOne, Declines}
use Rattle.zk_bench.specs.Stepping.{shown_of}
use Rattle.zk_bench.proofs.Stepped.{ok_so, err_so}
use Rattle.zk_bench.proofs.Called.{creates_asked, mode_is}
use Rattle.zk_bench.proofs.ProcessedTaken.{processes_then, declines_then, ends_then}
use Rattle.zk_bench.proofs.ProcessedWrites.{stops_by}
use Rattle.zk_bench.proofs.bench.Bench.create.Goals as goal

pub returns-in-Err-clause-declines : goal.returns-in-Err-clause-declines
returns-in-Err-clause-declines g c = λ asked has asks.
    let old = c.args.self.now in
    let new = c.mode_caught_up.new.self in
    stops_by asked c.args.xid old new c.in-Err.stop (λ over. ends_then asked c.args.xid old new (c.in-Err.ensures.ends has))

-- what holds of the create that is made holds of the one that was asked for
as_asked : (g : _) (c : goal.After-drop-2 g) (P : Request → ℤ → Type 0) (asked : Request) → Asks (requests.Create c.args.request) asked
    → ((number : ℕ) → number ≤ 3 → to_z w32 (of_z w32 c.args.request.flags) ≡ pos number
    → P (Ask (Create c.text_of.result.now c.args.request.bytes number)) (to_z w32 (of_z w32 c.args.xid))) → P asked c.args.xid
as_asked g c P asked asks made =
    let r = c.args.request in
    let xid : to_z w32 (of_z w32 c.args.xid) ≡ c.args.xid = search rules in
    let flagged : to_z w32 (of_z w32 r.flags) ≡ r.flags = search rules in
    creates_asked (λ (one : Request). P one c.args.xid) r asked asks
    (λ text number is at flags low.
    let same : c.text_of.result.now ≡ text = c.text_of.ensures ∙ ap or_empty at in
    subst (λ (t : Text). P (Ask (Create t r.bytes number)) c.args.xid) same
    (subst (λ (x : ℤ). P (Ask (Create c.text_of.result.now r.bytes number)) x) xid (made number low (flagged ∙ flags))))

pub returns-clause-answers : goal.returns-clause-answers
returns-clause-answers g c = λ asked has asks.
    let old = c.args.self.now in
    let mid = c.mode_caught_up.new.self in
    let new = c.make-outcome.new.self in
    let more = c.mode_caught_up.ensures.has has in
    as_asked g c (λ one xid. OnOk c.make-outcome.result (AnswersOne one xid (shown_of old) (shown_of new))) asked asks
    (λ number low flags. ok_so c.make-outcome.result _ _ (c.make-outcome.ensures.answers number more
    (mode_is (to_z w32 (of_z w32 c.args.request.flags)) number _ _ low flags c.in-Ok.ensures.mode))
    (λ done. processes_then (Ask (Create c.text_of.result.now c.args.request.bytes number))
    (to_z w32 (of_z w32 c.args.xid)) old mid new has more (c.in-Ok.ensures.takes has) done))

pub returns-clause-declines : goal.returns-clause-declines
returns-clause-declines g c = λ asked has asks.
    let old = c.args.self.now in
    let mid = c.mode_caught_up.new.self in
    let new = c.make-outcome.new.self in
    as_asked g c (λ one xid. IfErr c.make-outcome.result (Declines one xid old new)) asked asks
    (λ number low flags.
    let more = c.mode_caught_up.ensures.has has in
    let one = Create c.text_of.result.now c.args.request.bytes number in
    err_so c.make-outcome.result (Declines (Ask one) (to_z w32 (of_z w32 c.args.xid)) mid new)
    (Declines (Ask one) (to_z w32 (of_z w32 c.args.xid)) old new) (c.make-outcome.ensures.declines number more)
    (λ refusal d. declines_then one (to_z w32 (of_z w32 c.args.xid)) old mid new refusal has more (c.in-Ok.ensures.takes has) d))

pub returns-in-Err-clause-stays : goal.returns-in-Err-clause-stays
returns-in-Err-clause-stays g c = λ asked asks small over.
    let stop : c.in-Err.stop ≡ stops.End = cc in
    let flagged : to_z w32 (of_z w32 c.args.request.flags) ≡ c.args.request.flags = search rules in
    creates_asked (λ (one : Request). ⊥) c.args.request asked asks
    (λ text number is at flags low. c.in-Err.ensures.stays number (flagged ∙ flags) low (ap Err stop))
