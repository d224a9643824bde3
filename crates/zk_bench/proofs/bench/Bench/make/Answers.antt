-- A create is answered with the path that was made, by `created_so`, from what `creation`, `write` and `send_created` ensure.
-- Where one of the first two refuses, it is declined by `declines_unmade`, and where the answer is not sent, by `ends_sending`.
-- A change with short data is accepted and its path fits a frame, so the connection does not end.
use Rattle.std.proofs.Common.{rules, ◌≡◌, sym, ap, subst, ℤ, pos, Bool, Some, to_z, of_z, w32, w64}
use Rattle.std.specs.Prelude.{Err}
use Rattle.zk_records.specs.Layouts.{create_response}
use Rattle.zk_nodes.specs.Path.{Text, path_of}
use Rattle.zk_nodes.specs.History.{Creates}
use Rattle.zk_nodes.specs.History as model
use Rattle.zk_conversation.specs.Calls.{Create}
use Rattle.zk_laws.specs.Server.{IsMadeOf}
use Rattle.zk_laws.specs.Messages.{Ask}
use Rattle.zk_bench.specs.inner.Serving.{Sends}
use Rattle.zk_bench.specs.inner.Writing.{owner_of, IsAnswer}
use Rattle.zk_bench.specs.inner.Stepping.{Declines, HasWritten}
use Rattle.zk_bench.specs.Stepping.{zxid_of}
use Rattle.zk_bench.proofs.Answered.{errs_so}
use Rattle.zk_bench.proofs.ProcessedWrites.{declines_unmade, unmade_same, ends_sending, stops_by, created_so}
use Rattle.zk_nodes.specs.PathFault.{IsPath}
use Rattle.zk_history.specs.HistoryView.{IsAccepted}
use Rattle.zk_history.specs.Made.{change_of}
use Rattle.zk_bench.proofs.Staying.{handed_on}
use Rattle.zk_bench.proofs.bench.Bench.make.Goals as goal

pub returns-in_err-made-clause-declines : goal.returns-in_err-made-clause-declines
returns-in_err-made-clause-declines g c = λ number has.
    let old = c.args.self.now in
    let one = Create c.args.text.now c.args.bytes number in
    errs_so c.from_residual.result _ _ c.from_residual.ensures.1
    (λ refusal is. declines_unmade one c.args.xid old old refusal tt has has
    (unmade_same old refusal has (subst IsAnswer (sym is) c.in_err-made.ensures.refused)))

pub returns-in-Err-clause-declines : goal.returns-in-Err-clause-declines
returns-in-Err-clause-declines g c = λ number has.
    declines_unmade (Create c.args.text.now c.args.bytes number) c.args.xid c.args.self.now c.write.new.self c.in-Err.refusal tt has
    (c.write.ensures.has has) (c.in-Err.ensures.refuses has)

pub returns-in_err-outcome-clause-declines : goal.returns-in_err-outcome-clause-declines
returns-in_err-outcome-clause-declines g c = λ number has.
    let old = c.args.self.now in
    let mid = c.write.new.self in
    let new = c.send_created-outcome.new.self in
    let one = Ask (Create c.args.text.now c.args.bytes number) in
    let done = c.in_err-outcome.ensures in
    errs_so c.from_residual-in_err-outcome.result _ _ c.from_residual-in_err-outcome.ensures.1
    (λ refusal is. subst (Declines one c.args.xid old new) (sym is)
    (stops_by one c.args.xid old new _ (λ over. ends_sending one c.args.xid old mid new has (c.write.ensures.has has)
    (c.in_default.ensures.takes has) done.only (done.sent (ap Err over)))))

pub returns-clause-answers : goal.returns-clause-answers
returns-clause-answers g c = λ number has same.
    let old = c.args.self.now in
    let mid = c.write.new.self in
    let new = c.send_created-outcome.new.self in
    let made = c.in_ok-made.ensures.made in
    let at : Text = c.as_str.result.now in
    let owner = owner_of old.session c.args.mode.ephemeral in
    let more = c.write.ensures.has has in
    let done = c.in_ok-outcome.ensures in
    let xid : to_z w32 (of_z w32 c.args.xid) ≡ c.args.xid = search rules in
    let raw : ℤ = to_z w64 (of_z w64 c.self.inside.session) in
    let session : raw ≡ old.session = search rules in
    created_so c.args.text.now c.args.bytes number c.args.xid old mid new at owner more (c.in_default.ensures.takes has)
    (subst (λ (b : Bool). IsMadeOf c.args.text.now b at) (sym same)
    (subst (λ (t : Text). IsMadeOf c.args.text.now c.args.mode.sequential t) (sym c.as_str.ensures.value) made.1))
    (subst (λ (s : ℤ). HasWritten (Creates (path_of at) c.args.bytes (owner_of s c.args.mode.ephemeral)) mid) session
    (subst (λ (t : Text). HasWritten (Creates (path_of t) c.args.bytes (owner_of raw c.args.mode.ephemeral)) mid)
    (sym c.as_str.ensures.value)
    (subst (λ (x : model.Change). HasWritten x mid) made.0 (c.in_default.ensures.wrote has))))
    (subst (λ (x : ℤ). Sends (x, (pos (zxid_of mid), pos 0)) create_response (Some at) mid.connection.output new.connection.output) xid
    (done.sends more.ready)) done.only

pub returns-in-Err-clause-stays : goal.returns-in-Err-clause-stays
returns-in-Err-clause-stays g c = λ small.
    c.in-Err.ensures.stays (subst (IsAccepted (change_of c.in_ok-made.change)) c.newest.ensures.seen (c.in_ok-made.ensures.allowed small))

pub returns-in_err-outcome-clause-stays : goal.returns-in_err-outcome-clause-stays
returns-in_err-outcome-clause-stays g c = λ small.
    handed_on c.from_residual-in_err-outcome.result _ _ c.from_residual-in_err-outcome.ensures.1
    (λ over. c.in_err-outcome.ensures.stays (subst IsPath (sym c.as_str.ensures.value) c.in_ok-made.ensures.path) (cc))
