-- The setData that `set_bytes` makes is the one that was asked for, by `sets_asked`, so it is answered and declined as that ensures.
use Rattle.std.proofs.Common.{rules, ◌≡◌, sym, ap, ◌∙◌, subst, ℤ, to_z, of_z, w32}
use Rattle.std.specs.Prelude.{OnOk, IfErr}
use Rattle.zk_jute.specs.Lenient.{or_empty}
use Rattle.zk_nodes.specs.Path.{Text}
use Rattle.zk_nodes.specs.PathFault.{IsPath}
use Rattle.zk_conversation.specs.Calls.{SetData}
use Rattle.zk_laws.specs.Messages.{Request, Ask}
use Rattle.zk_records.specs.declared.request.Request.TheVariants as requests
use Rattle.zk_bench.specs.inner.Asking.{Asks}
use Rattle.zk_bench.specs.inner.Stepping.{AnswersOne, Declines}
use Rattle.zk_bench.specs.Stepping.{shown_of}
use Rattle.zk_bench.proofs.Called.{sets_asked}
use Rattle.zk_bench.proofs.bench.Bench.set_data.Goals as goal

-- what holds of the setData that is made holds of the one that was asked for
as_asked : (g : _) (c : goal.After-drop g) (P : Request → ℤ → Type 0) (asked : Request) → Asks (requests.SetData c.args.request) asked
    → (IsPath c.text_of.result.now
    → P (Ask (SetData c.text_of.result.now c.args.request.bytes (to_z w32 (of_z w32 c.args.request.version))))
    (to_z w32 (of_z w32 c.args.xid))) → P asked c.args.xid
as_asked g c P asked asks made =
    let r = c.args.request in
    let xid : to_z w32 (of_z w32 c.args.xid) ≡ c.args.xid = search rules in
    let version : to_z w32 (of_z w32 r.version) ≡ r.version = search rules in
    sets_asked (λ (one : Request). P one c.args.xid) r asked asks
    (λ text is at.
    let same : c.text_of.result.now ≡ text = c.text_of.ensures ∙ ap or_empty at in
    subst (λ (t : Text). P (Ask (SetData t r.bytes r.version)) c.args.xid) same
    (subst (λ (x : ℤ). P (Ask (SetData c.text_of.result.now r.bytes r.version)) x) xid
    (subst (λ (v : ℤ). P (Ask (SetData c.text_of.result.now r.bytes v)) (to_z w32 (of_z w32 c.args.xid))) version
    (made (subst IsPath (sym same) is)))))

pub returns-clause-answers : goal.returns-clause-answers
returns-clause-answers g c = λ asked has asks.
    as_asked g c
    (λ one xid. OnOk c.set_bytes-outcome.result (AnswersOne one xid (shown_of c.args.self.now) (shown_of c.set_bytes-outcome.new.self)))
    asked asks (c.set_bytes-outcome.ensures.answers has)

pub returns-clause-declines : goal.returns-clause-declines
returns-clause-declines g c = λ asked has asks.
    as_asked g c (λ one xid. IfErr c.set_bytes-outcome.result (Declines one xid c.args.self.now c.set_bytes-outcome.new.self)) asked asks
    (c.set_bytes-outcome.ensures.declines has)
