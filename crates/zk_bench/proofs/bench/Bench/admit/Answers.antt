-- A ConnectRequest is answered by a step of the laws: `expires_so` where the session has expired, and `admits_so` where it is accepted.
-- The client is not ahead of the server then, by `not_ahead`. One that has seen no more than the server is not turned away, by
-- `no_more_seen`. And where the answer is not sent, the bench stays ready, by `ready_answered`.
use Rattle.std.proofs.Common.{rules, ◌≡◌, ◌≤◌, refl, sym, ap, ◌∙◌, subst, pos, to_z, of_z, w32, w64}
use Rattle.std.specs.Prelude.{slice_index, int_lt}
use Rattle.zk_history.specs.HistoryView.{history_of}
use Rattle.zk_laws.specs.Server.{zxid_held}
use Rattle.zk_laws.specs.Messages.{Connect}
use Rattle.zk_bench.specs.Linked.{linked_of}
use Rattle.zk_bench.specs.Served.{Served}
use Rattle.zk_bench.specs.declared.phase.Phase.TheVariants.{Opening, Accepted, Ended}
use Rattle.zk_bench.specs.inner.Stepping.{AnswersOne}
use Rattle.zk_bench.specs.Stepping.{shown_of}
use Rattle.zk_bench.proofs.Fields.{bench_of}
use Rattle.zk_bench.proofs.Stepped.{ready_answered, not_ahead, no_more_seen}
use Rattle.zk_bench.proofs.Processed.{admits_so, expires_so}
use Rattle.zk_bench.proofs.bench.Bench.admit.Goals as goal

pub returns-in_err-send_expired-clause-ready : goal.returns-in_err-send_expired-clause-ready
returns-in_err-send_expired-clause-ready g c = ready_answered c.self.inside c.args.self.now c.send_expired.new.out c.self.view_is

pub returns-in_err-send_accepted-clause-ready : goal.returns-in_err-send_accepted-clause-ready
returns-in_err-send_accepted-clause-ready g c = ready_answered c.self.inside c.args.self.now c.send_accepted.new.out c.self.view_is

pub returns-then-self-clause-admits : goal.returns-then-self-clause-admits
returns-then-self-clause-admits g c = λ seen xid ready opening last up.
    let b = bench_of c.self.inside in
    let old = c.args.self.now in
    let new = linked_of (record c.self.inside.connection { phase = Ended; output = c.send_expired.new.out }) in
    let held : to_z w64 (of_z w64 c.zxid.result) ≡ c.zxid.result = search rules in
    let asked : to_z w64 (of_z w64 c.args.request.now.last_zxid_seen) ≡ c.args.request.now.last_zxid_seen = search rules in
    let low = not_ahead (zxid_held (history_of old.history) (slice_index old.taken old.server)) seen _ _ (held ∙ c.zxid.ensures ready)
    (asked ∙ last) c.if-zxid-request.false in
    subst (λ (s : Served). AnswersOne (Connect seen) xid (shown_of s) (shown_of (record b { connection = new }))) c.self.view_is
    (expires_so b new seen xid (subst (λ (s : Served). s.connection.phase ≡ Opening) (sym c.self.view_is) opening)
    (subst (λ (s : Served). seen ≤ zxid_held (history_of s.history) (slice_index s.taken s.server)) (sym c.self.view_is) low)
    c.in_ok-send_expired.ensures.sends refl)

pub returns-clause-admits : goal.returns-clause-admits
returns-clause-admits g c = λ seen xid ready opening last up.
    let b = bench_of c.self.inside in
    let old = c.args.self.now in
    let new = linked_of (record c.self.inside.connection { phase = Accepted; output = c.send_accepted.new.out }) in
    let ranged : to_z w32 (of_z w32 c.args.request.now.time_out) ≡ c.args.request.now.time_out = search rules in
    let held : to_z w64 (of_z w64 c.zxid.result) ≡ c.zxid.result = search rules in
    let asked : to_z w64 (of_z w64 c.args.request.now.last_zxid_seen) ≡ c.args.request.now.last_zxid_seen = search rules in
    let low = not_ahead (zxid_held (history_of old.history) (slice_index old.taken old.server)) seen _ _ (held ∙ c.zxid.ensures ready)
    (asked ∙ last) c.if-zxid-request.false in
    subst (λ (s : Served). AnswersOne (Connect seen) xid (shown_of s) (shown_of (record b { connection = new }))) c.self.view_is
    (admits_so b new seen xid (subst (λ (s : Served). s.connection.phase ≡ Opening) (sym c.self.view_is) opening)
    (subst (λ (s : Served). seen ≤ zxid_held (history_of s.history) (slice_index s.taken s.server)) (sym c.self.view_is) low)
    (c.in_ok-send_accepted.ensures.sends (ap (int_lt (pos 0)) ranged ∙ up)) refl)

pub returns-then-zxid-request-clause-stays : goal.returns-then-zxid-request-clause-stays
returns-then-zxid-request-clause-stays g c = λ seen ready last low over.
    let held : to_z w64 (of_z w64 c.zxid.result) ≡ c.zxid.result = search rules in
    let asked : to_z w64 (of_z w64 c.args.request.now.last_zxid_seen) ≡ c.args.request.now.last_zxid_seen = search rules in
    no_more_seen _ seen _ _ (held ∙ c.zxid.ensures ready) (asked ∙ last) low c.if-zxid-request.true
