-- A transaction is begun, and its changes are added: `begun-changes`. Numbers fit, so they stay themselves.
use Rattle.std.proofs.Common.{rules, w64, FitsSigned}
use Rattle.std.proofs.lemmas.Int.{to_z-of_z}
use Rattle.std.proofs.lemmas.Result.{on_ok_weaker, MatchResult-weaker}
use Rattle.zk_log_history.proofs.Sessions.{AreMade-begun}
use Rattle.zk_log.specs.Views.{entry_of}
use Rattle.zk_log_history.specs.Made.{AreMade}
use Rattle.zk_log_history.specs.Refused.{IsUntold}
use Rattle.zk_log_history.proofs.Entries.{followed_as}
use Rattle.zk_log_history.proofs.Refused.{on_err}
use Rattle.zk_log_history.proofs.Outcomes.{followed_taken, followed_refused, begin_refused}
use Rattle.zk_log_history.proofs.telling.follow.Goals as goal

pub returns-clause-added : goal.returns-clause-added
returns-clause-added g c =
    let zxid : FitsSigned w64 c.args.entry.now.zxid = search rules in
    let time : FitsSigned w64 c.args.entry.now.time = search rules in
    let session : FitsSigned w64 c.args.entry.now.session = search rules in
    on_ok_weaker c.add_changes.result
    (λ added made. followed_as c.args.history.now c.begin.new.history _ c.args.entry.now _ _ _ (to_z-of_z w64 c.args.entry.now.zxid zxid)
    (to_z-of_z w64 c.args.entry.now.time time) (to_z-of_z w64 c.args.entry.now.session session)
    c.in_ok-begin.ensures.begun (added (AreMade-begun c.args.made.now c.args.history.now c.begin.new.history _ _
    c.in_ok-begin.ensures.begun made)))
    c.add_changes.ensures.added

pub returns-clause-made : goal.returns-clause-made
returns-clause-made g c =
    on_ok_weaker c.add_changes.result
    (λ kept made. kept (AreMade-begun c.args.made.now c.args.history.now c.begin.new.history _ _ c.in_ok-begin.ensures.begun made))
    c.add_changes.ensures.made

pub returns-clause-taken : goal.returns-clause-taken
returns-clause-taken g c =
    let zxid : FitsSigned w64 c.args.entry.now.zxid = search rules in
    let time : FitsSigned w64 c.args.entry.now.time = search rules in
    let session : FitsSigned w64 c.args.entry.now.session = search rules in
    on_ok_weaker c.add_changes.result
    (λ taken made. followed_taken c.args.history.now c.begin.new.history c.args.entry.now _ _ _ (to_z-of_z w64 c.args.entry.now.zxid zxid)
    (to_z-of_z w64 c.args.entry.now.time time) (to_z-of_z w64 c.args.entry.now.session session)
    c.in_ok-begin.ensures.begun c.in_ok-begin.ensures.rising c.in_ok-begin.ensures.next
    (taken (AreMade-begun c.args.made.now c.args.history.now c.begin.new.history _ _ c.in_ok-begin.ensures.begun made)))
    c.add_changes.ensures.taken

pub returns-clause-refused : goal.returns-clause-refused
returns-clause-refused g c =
    let zxid : FitsSigned w64 c.args.entry.now.zxid = search rules in
    let time : FitsSigned w64 c.args.entry.now.time = search rules in
    let session : FitsSigned w64 c.args.entry.now.session = search rules in
    MatchResult-weaker c.add_changes.result c.add_changes.ensures.refused (λ x p. p)
    (λ why refused made. followed_refused c.args.history.now c.begin.new.history c.args.entry.now _ _ _ why
    (to_z-of_z w64 c.args.entry.now.zxid zxid) (to_z-of_z w64 c.args.entry.now.time time)
    (to_z-of_z w64 c.args.entry.now.session session) c.in_ok-begin.ensures.begun
    (refused (AreMade-begun c.args.made.now c.args.history.now c.begin.new.history _ _ c.in_ok-begin.ensures.begun made)))

pub returns-in_err-begin-clause-refused : goal.returns-in_err-begin-clause-refused
returns-in_err-begin-clause-refused g c =
    on_err c.from_residual.result c.in_err-begin.field-0.0
    (λ why. AreMade c.args.made.now c.args.history.now → IsUntold c.args.history.now (entry_of c.args.entry.now) why)
    c.from_residual.ensures.1
    (λ made. begin_refused c.args.history.now c.args.entry.now _ _ (to_z-of_z w64 c.args.entry.now.zxid (search rules))
    c.in_err-begin.ensures.refused)
