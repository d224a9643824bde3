-- `kept-at` says whether the delete is refused, by what `refused_deletion` ensures; if not, the tree takes it: `delete_allowed`.
use Rattle.std.proofs.Common.{rules, ◌≡◌, sym, ◌∙◌, to_z, of_z, w32, subst}
use Rattle.zk_jute.specs.Lenient.{or_empty}
use Rattle.zk_bench.specs.inner.Writing.{tree_of}
use Rattle.zk_bench.proofs.Written.{kept-at}
use Rattle.zk_nodes.specs.Path.{Text, path_of}
use Rattle.zk_history.specs.HistoryView.{HasChildren}
use Rattle.zk_bench.proofs.Allowed.{delete_allowed}
use Rattle.zk_bench.proofs.writes.deleted_path.Goals as goal

pub returns-in-Some-clause-told : goal.returns-in-Some-clause-told
returns-in-Some-clause-told g c = λ names children.
    let asked : to_z w32 (of_z w32 c.args.request.now.version) ≡ c.args.request.now.version = search rules in
    kept-at (tree_of c.args.tree.now.history.now c.args.tree.now.zxid)
    (or_empty c.args.request.now.path) c.text_of-text.result.now c.in_ok-path.stat names c.args.request.now.version
    _ _ children c.text_of-text.ensures c.in_ok-path.ensures.found (sym c.eq.ensures ∙ c.if-eq.false) asked c.in-Some.ensures.is

pub returns-in-None-clause-accepted : goal.returns-in-None-clause-accepted
returns-in-None-clause-accepted g c = λ names children.
    let asked : to_z w32 (of_z w32 c.args.request.now.version) ≡ c.args.request.now.version = search rules in
    kept-at (tree_of c.args.tree.now.history.now c.args.tree.now.zxid)
    (or_empty c.args.request.now.path) c.text_of-text.result.now c.in_ok-path.stat names c.args.request.now.version
    _ _ children c.text_of-text.ensures c.in_ok-path.ensures.found (sym c.eq.ensures ∙ c.if-eq.false) asked c.in-None.ensures.is

pub returns-in-None-clause-allowed : goal.returns-in-None-clause-allowed
returns-in-None-clause-allowed g c =
    let tree = tree_of c.args.tree.now.history.now c.args.tree.now.zxid in
    let text = or_empty c.args.request.now.path in
    let asked : to_z w32 (of_z w32 c.args.request.now.version) ≡ c.args.request.now.version = search rules in
    let found = c.in_ok-path.ensures.found in
    let children = subst (λ (t : Text). HasChildren tree (path_of t) found.0) c.text_of-text.ensures found.1 in
    delete_allowed tree text found.0 c.args.request.now.version children
    (kept-at tree text c.text_of-text.result.now c.in_ok-path.stat found.0 c.args.request.now.version _ _ children c.text_of-text.ensures
    found (sym c.eq.ensures ∙ c.if-eq.false) asked c.in-None.ensures.is)
