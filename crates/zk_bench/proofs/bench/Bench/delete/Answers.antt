-- A delete is answered by a header alone, by `deleted_so`: `takes_then` joins what was taken before the write and with it.
-- By the call that fails it is declined: `ends_then`, `declines_left`, and `ends_sending` where no header is sent.
-- The change at the path that `deleted_path` finds is one that the newest tree accepts, so the write ends no connection.
use Rattle.std.proofs.Common.{rules, ◌≡◌, sym, ap, ◌∙◌, subst, ℤ, pos, to_z, of_z, w32}
use Rattle.std.specs.Prelude.{Err, IfErr}
use Rattle.std.specs.Result.{IsErrAnd}
use Rattle.std.specs.Prelude.{Result as Outcome}
use Rattle.zk_jute.specs.Lenient.{or_empty}
use Rattle.zk_nodes.specs.Path.{Text, path_of}
use Rattle.zk_nodes.specs.History.{Deletes, Tree}
use Rattle.zk_conversation.specs.Calls.{Delete}
use Rattle.zk_laws.specs.Messages.{Request, Ask}
use Rattle.zk_bench.specs.inner.Serving.{SendsHeader}
use Rattle.zk_records.specs.declared.request.Request.TheVariants as requests
use Rattle.zk_bench.specs.declared.stop.Refusal.{Refusal}
use Rattle.zk_bench.specs.inner.Asking.{Asks}
use Rattle.zk_bench.specs.Served.{Served}
use Rattle.zk_bench.specs.inner.Stepping.{AnswersOne, Declines, HasClient, HasWritten, LeavesUnmade}
use Rattle.zk_bench.specs.Stepping.{zxid_of, shown_of}
use Rattle.zk_bench.proofs.Answered.{errs_so}
use Rattle.zk_bench.proofs.Called.{deletes_asked}
use Rattle.zk_bench.proofs.ProcessedTaken.{takes_then, ends_then, declines_then}
use Rattle.zk_bench.proofs.ProcessedWrites.{ends_sending, stops_by, declines_unmade, unmade_same}
use Rattle.zk_bench.proofs.ProcessedWrites.{deleted_so}
use Rattle.zk_bench.proofs.bench.Bench.delete.Goals as goal
use Rattle.zk_bench.proofs.bench.Bench.delete.Goals.{In_ok-catch_up}
use Rattle.zk_history.specs.HistoryView.{IsAccepted, newest_tree}
use Rattle.zk_bench.proofs.Staying.{handed_on}

pub returns-in_err-catch_up-clause-declines : goal.returns-in_err-catch_up-clause-declines
returns-in_err-catch_up-clause-declines g c = λ asked has asks.
    let old = c.args.self.now in
    let new = c.catch_up.new.self in
    errs_so c.from_residual.result _ _ c.from_residual.ensures.1
    (λ refusal same. subst (Declines asked c.args.xid old new) (sym same)
    (stops_by asked c.args.xid old new _ (λ over. ends_then asked c.args.xid old new (c.in_err-catch_up.ensures.ends has))))

-- what is left unmade once the server has caught up is declined
declines_left : (g : _) (c : In_ok-catch_up g) (result : Outcome (Unit {0}) Refusal) (why : Refusal) (new : Served) (asked : Request)
    → HasClient c.args.self.now → HasClient new → Asks (requests.Delete c.args.request.now) asked
    → IsErrAnd result (λ refusal. refusal ≡ why) → LeavesUnmade c.catch_up.new.self new why
    → IfErr result (Declines asked c.args.xid c.args.self.now new)
declines_left g c result why new asked has now asks is unmade =
    let old = c.args.self.now in
    let mid = c.catch_up.new.self in
    let more = c.catch_up.ensures.has has in
    deletes_asked (λ (one : Request). IfErr result (Declines one c.args.xid old new)) c.args.request.now asked asks
    (λ text path at.
    let one = Delete text c.args.request.now.version in
    errs_so result _ _ is
    (λ refusal same. subst (Declines (Ask one) c.args.xid old new) (sym same)
    (declines_then one c.args.xid old mid new why has more (c.in_ok-catch_up.ensures.takes has)
    (declines_unmade one c.args.xid mid new why tt more now unmade))))

pub returns-in_err-path-clause-declines : goal.returns-in_err-path-clause-declines
returns-in_err-path-clause-declines g c = λ asked has asks.
    let more = c.catch_up.ensures.has has in
    declines_left g (goal.at.returns-in_err-path-clause-declines g c).In_ok-catch_up c.from_residual-in_err-path.result _
    c.catch_up.new.self asked has more asks c.from_residual-in_err-path.ensures.1
    (unmade_same c.catch_up.new.self _ more c.in_err-path.ensures.refused)

pub returns-in_err-write-clause-declines : goal.returns-in_err-write-clause-declines
returns-in_err-write-clause-declines g c = λ asked has asks.
    let more = c.catch_up.ensures.has has in
    declines_left g (goal.at.returns-in_err-write-clause-declines g c).In_ok-catch_up c.from_residual-in_err-write.result _ c.write.new.self
    asked has (c.write.ensures.has more) asks c.from_residual-in_err-write.ensures.1 (c.in_err-write.ensures.refuses more)

pub returns-in_err-send_err-clause-declines : goal.returns-in_err-send_err-clause-declines
returns-in_err-send_err-clause-declines g c = λ asked has asks.
    let old = c.args.self.now in
    let mid = c.catch_up.new.self in
    let late = c.write.new.self in
    let new = c.send_err.new.self in
    let more = c.catch_up.ensures.has has in
    let took = takes_then old mid late has more (c.in_ok-catch_up.ensures.takes has) (c.in_ok-write.ensures.takes more) in
    errs_so c.from_residual-in_err-send_err.result _ _ c.from_residual-in_err-send_err.ensures.1
    (λ refusal same. subst (Declines asked c.args.xid old new) (sym same)
    (stops_by asked c.args.xid old new _ (λ over. ends_sending asked c.args.xid old late new has
    (c.write.ensures.has more) took c.in_err-send_err.ensures.only (c.in_err-send_err.ensures.sent (ap Err over)))))

pub returns-clause-answers : goal.returns-clause-answers
returns-clause-answers g c = λ asked has asks.
    let old = c.args.self.now in
    let mid = c.catch_up.new.self in
    let late = c.write.new.self in
    let new = c.send_err.new.self in
    let more = c.catch_up.ensures.has has in
    let still = c.write.ensures.has more in
    let took = takes_then old mid late has more (c.in_ok-catch_up.ensures.takes has) (c.in_ok-write.ensures.takes more) in
    let xid : to_z w32 (of_z w32 c.args.xid) ≡ c.args.xid = search rules in
    let sends : SendsHeader (c.args.xid, (pos (zxid_of late), pos 0)) late.connection.output new.connection.output =
    subst (λ (x : ℤ). SendsHeader (x, (pos (zxid_of late), pos 0)) late.connection.output new.connection.output) xid
    (c.in_ok-send_err.ensures.sends still.ready) in
    deletes_asked (λ (one : Request). AnswersOne one c.args.xid (shown_of old) (shown_of new)) c.args.request.now asked asks
    (λ text is at.
    let wrote : HasWritten (Deletes (path_of text)) late =
    subst (λ (t : Text). HasWritten (Deletes (path_of t)) late) (c.in_ok-path.ensures.path ∙ ap or_empty at)
    (c.in_ok-write.ensures.wrote more) in
    deleted_so text c.args.request.now.version c.args.xid old late new still took wrote sends c.in_ok-send_err.ensures.only)

pub returns-in_err-write-clause-stays : goal.returns-in_err-write-clause-stays
returns-in_err-write-clause-stays g c =
    let tree = newest_tree c.catch_up.new.self.history in
    let text = or_empty c.args.request.now.path in
    let allowed = subst (λ (t : Tree). IsAccepted (Deletes (path_of text)) t) c.newest.ensures.seen c.in_ok-path.ensures.allowed in
    let made = subst (λ (t : Text). IsAccepted (Deletes (path_of t)) tree) (sym c.in_ok-path.ensures.path) allowed in
    handed_on c.from_residual-in_err-write.result _ _ c.from_residual-in_err-write.ensures.1
    (λ over. c.in_err-write.ensures.stays made (cc))
