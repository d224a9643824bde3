-- By the request: the call is its read, by `read_exists`, `read_data` and `read_children`, so what `exists`, `get_data` and
-- `get_children_2` ensure holds of the call. For setWatches it is what `set_watches` ensures, of the same part.
use Rattle.std.proofs.Common.{rules, ◌≡◌, subst, to_z, of_z, w32, sym, ℤ, pos}
use Rattle.std.specs.Prelude.{OnOk, IsErrOf}
use Rattle.zk_nodes.specs.History.{tree_at}
use Rattle.zk_history.specs.HistoryView.{history_of, natural}
use Rattle.zk_conversation.specs.Calls as call
use Rattle.zk_bench.specs.inner.Answering.{AnswersRead, IsReadOf, IsRestoring}
use Rattle.zk_bench.specs.declared.stop.Stop.TheVariants as stops
use Rattle.zk_bench.specs.declared.stop.Refusal.TheVariants as refusals
use Rattle.zk_bench.specs.inner.Restoring.{IsPart, ArePaths, RestoresPart}
use Rattle.zk_bench.proofs.Answered.{read_exists, read_data, read_children}
use Rattle.zk_nodes.specs.Path.{path_of}
use Rattle.zk_bench.specs.Answerable.{DataFit, NamesFit, AnswerFits}
use Rattle.zk_bench.proofs.Staying.{handed_on}
use Rattle.zk_bench.proofs.reads.read.Goals as goal

pub returns-in-Exists-clause-answers : goal.returns-in-Exists-clause-answers
returns-in-Exists-clause-answers g c = λ asked zxid is at.
    let tree = tree_at (history_of c.args.tree.now.history.now) zxid in
    let xid : to_z w32 (of_z w32 c.args.xid) ≡ c.args.xid = search rules in
    let r = c.in-Exists.r in
    read_exists (λ a. OnOk c.exists.result (AnswersRead tree zxid c.args.xid a c.args.connection.now c.exists.new.connection)) r asked
    (subst (λ q. IsReadOf q asked) c.in-Exists.is is)
    (λ text path e.
    subst (λ x. OnOk c.exists.result (AnswersRead tree zxid x (call.Exists text r.watch) c.args.connection.now c.exists.new.connection))
    xid (c.exists.ensures.answers text zxid path e at))

pub returns-in-GetData-clause-answers : goal.returns-in-GetData-clause-answers
returns-in-GetData-clause-answers g c = λ asked zxid is at.
    let tree = tree_at (history_of c.args.tree.now.history.now) zxid in
    let xid : to_z w32 (of_z w32 c.args.xid) ≡ c.args.xid = search rules in
    let r = c.in-GetData.r in
    read_data (λ a. OnOk c.get_data.result (AnswersRead tree zxid c.args.xid a c.args.connection.now c.get_data.new.connection)) r asked
    (subst (λ q. IsReadOf q asked) c.in-GetData.is is)
    (λ text path e. subst (λ x. OnOk c.get_data.result (AnswersRead tree zxid x
    (call.GetData text r.watch) c.args.connection.now c.get_data.new.connection)) xid (c.get_data.ensures.answers text zxid path e at))

pub returns-in-GetChildren2-clause-answers : goal.returns-in-GetChildren2-clause-answers
returns-in-GetChildren2-clause-answers g c = λ asked zxid is at.
    let tree = tree_at (history_of c.args.tree.now.history.now) zxid in
    let xid : to_z w32 (of_z w32 c.args.xid) ≡ c.args.xid = search rules in
    let r = c.in-GetChildren2.r in
    read_children
    (λ a. OnOk c.get_children_2.result (AnswersRead tree zxid c.args.xid a c.args.connection.now c.get_children_2.new.connection)) r
    asked (subst (λ q. IsReadOf q asked) c.in-GetChildren2.is is)
    (λ text path e. subst (λ x. OnOk c.get_children_2.result (AnswersRead tree zxid x (call.GetChildren text r.watch) c.args.connection.now
    c.get_children_2.new.connection)) xid (c.get_children_2.ensures.answers text zxid path e at))

pub returns-in_ok-set_watches-in-SetWatches-clause-restores :
    goal.returns-in_ok-set_watches-in-SetWatches-clause-restores
returns-in_ok-set_watches-in-SetWatches-clause-restores g c = λ since zxid part is at.
    let tree = tree_at (history_of c.args.tree.now.history.now) zxid in
    let xid : to_z w32 (of_z w32 c.args.xid) ≡ c.args.xid = search rules in
    let asked : IsPart c.in-SetWatches.r since part × ArePaths part = subst (λ q. IsRestoring q since part) c.in-SetWatches.is is in
    subst (λ x. RestoresPart tree zxid x since part c.args.connection.now c.set_watches.new.connection) xid
    (c.in_ok-set_watches-in-SetWatches.ensures.restores since zxid part asked.0 asked.1 at)

pub returns-in-GetData-clause-stays : goal.returns-in-GetData-clause-stays
returns-in-GetData-clause-stays g c = λ asked zxid is at fits.
    let tree = λ (z : ℤ). tree_at (history_of c.args.tree.now.history.now) (natural z) in
    read_data (λ a. AnswerFits (tree (pos zxid)) a → ¬ IsErrOf c.get_data.result (refusals.Stop stops.End)) c.in-GetData.r asked
    (subst (λ q. IsReadOf q asked) c.in-GetData.is is)
    (λ text path e small. c.get_data.ensures.stays text path e (subst (λ z. DataFit (tree z (path_of text))) (sym at) small)) fits

pub returns-in-GetChildren2-clause-stays : goal.returns-in-GetChildren2-clause-stays
returns-in-GetChildren2-clause-stays g c = λ asked zxid is at fits.
    let tree = λ (z : ℤ). tree_at (history_of c.args.tree.now.history.now) (natural z) in
    read_children (λ a. AnswerFits (tree (pos zxid)) a → ¬ IsErrOf c.get_children_2.result (refusals.Stop stops.End)) c.in-GetChildren2.r
    asked (subst (λ q. IsReadOf q asked) c.in-GetChildren2.is is)
    (λ text path e small. c.get_children_2.ensures.stays text path e
    (subst (λ z. NamesFit (tree z) (path_of text) (tree z (path_of text))) (sym at) small)) fits

pub returns-in_err-set_watches-in-SetWatches-clause-holds : goal.returns-in_err-set_watches-in-SetWatches-clause-holds
returns-in_err-set_watches-in-SetWatches-clause-holds g c = λ since part is.
    let asked : IsPart c.in-SetWatches.r since part × ArePaths part = subst (λ q. IsRestoring q since part) c.in-SetWatches.is is in
    handed_on c.from_residual.result _ _ c.from_residual.ensures.1
    (λ over. c.in_err-set_watches-in-SetWatches.ensures.stays since part asked.0 asked.1 (cc))
