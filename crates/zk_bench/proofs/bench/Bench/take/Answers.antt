-- What `take_next` ensures holds after `settle` too: `settled` and `settled_so`, by the outcome. As `take_next` ends no connection, the
-- phase stays, and a connection that is not open stays as it is.
use Rattle.std.proofs.Common.{◌≡◌, refl, sym, ap, subst, ◌∙◌, Result, Ok, Err, OnOk, IsOk}
use Rattle.theory_serving.specs.GoingOn.{GoesOn}
use Rattle.zk_bench.specs.declared.stop.Stop.TheVariants as stops
use Rattle.zk_history.specs.HistoryView.{history_of}
use Rattle.zk_bench.specs.Served.{Served, ended}
use Rattle.zk_bench.specs.Stepping.{IsReady, TakesSome, shown_of}
use Rattle.zk_bench.proofs.Stepped.{this_error, settled, settled_so, ready_ended, ready_disconnected, shows_ended, same_history}
use Rattle.zk_bench.proofs.bench.Bench.take.Goals as goal

pub returns-clause-ready : goal.returns-clause-ready
returns-clause-ready g c = λ ready.
    let mid = c.take_next-outcome.new.self in
    let now = c.take_next-outcome.ensures.ready ready in
    settled IsReady c.take_next-outcome.result mid c.settle.new.self c.settle.ensures.ok c.settle.ensures.ended c.settle.ensures.lost now
    (ready_ended mid now) (ready_disconnected mid now)

pub returns-clause-advances : goal.returns-clause-advances
returns-clause-advances g c = λ ready same up.
    let old = c.args.self.now in
    let mid = c.take_next-outcome.new.self in
    settled_so (λ (new : Served). TakesSome (shown_of old) (shown_of new)) c.take_next-outcome.result c.settle.result mid c.settle.new.self
    c.settle.ensures.ok c.settle.ensures.ended c.settle.ensures.gives_up
    (c.take_next-outcome.ensures.advances ready same up)
    (λ over. shows_ended old (ended mid)
    (subst (λ (s : Served). GoesOn (history_of old.history) (history_of s.history)) (sym c.take_next-outcome.ensures.rest)
    (same_history (history_of old.history)))
    refl (this_error c.take_next-outcome.result stops.End
    (mid.connection.output ≡ old.connection.output) c.take_next-outcome.ensures.sent over))

gives : {T E : Type 0} (result : Result T E) (P : Type 0) → IsOk result → OnOk result P → P
gives (Ok x) P is p = p
gives (Err e) P is p = absurd cc

on_ok : {T E : Type 0} (result : Result T E) (P : Type 0) → P → OnOk result P
on_ok (Ok x) P p = p
on_ok (Err e) P p = tt

pub returns-clause-apart : goal.returns-clause-apart
returns-clause-apart g c = λ shut.
    let mid = c.take_next-outcome.new.self in
    let stays = c.take_next-outcome.ensures.apart shut in
    let same = gives c.take_next-outcome.result (c.settle.new.self ≡ mid) stays.1 c.settle.ensures.ok in
    on_ok c.settle.result (c.settle.new.self.connection ≡ c.args.self.now.connection) (ap (λ (b : Served). b.connection) same ∙ stays.0)

pub returns-clause-stays : goal.returns-clause-stays
returns-clause-stays g c =
    let mid = c.take_next-outcome.new.self in
    let done = c.take_next-outcome.ensures in
    settled_so (λ (new : Served). new.connection.phase ≡ c.args.self.now.connection.phase) c.take_next-outcome.result c.settle.result mid
    c.settle.new.self c.settle.ensures.ok c.settle.ensures.ended c.settle.ensures.gives_up
    (on_ok c.take_next-outcome.result _ done.phase) (λ over. absurd (done.stays over))
