-- By what `stat` ensures of the node at the path, rewritten to the text that was asked: one is found with its Stat, or none is there.
use Rattle.std.proofs.Common.{◌≡◌, refl, ap, subst, ◌∙◌, sym, Some, None, Option}
use Rattle.zk_jute.specs.Lenient.{or_empty}
use Rattle.zk_nodes.specs.Path.{path_of}
use Rattle.zk_nodes.specs.History.{tree_at}
use Rattle.zk_history.specs.HistoryView.{history_of, natural}
use Rattle.zk_nodes.specs.PathFault.{IsPath}
use Rattle.zk_history.specs.Shown.{IsStat}
use Rattle.zk_nodes.specs.declared.stat.Stat.{Stat}
use Rattle.zk_bench.proofs.reads.watched.Goals as goal

pub returns-in_default-clause-misses : goal.returns-in_default-clause-misses
returns-in_default-clause-misses g c = λ text is path code.
    let tree = tree_at (history_of c.args.tree.now.history.now) (natural c.args.tree.now.zxid) in
    let same : c.text_of-text.result.now ≡ text = c.text_of-text.ensures ∙ ap or_empty path in
    let found : IsPath c.text_of-text.result.now = subst IsPath (sym same) is in (
      refl,
      subst (λ t. IsStat tree (path_of t) None) same
          (subst (λ (o : Option Stat). IsStat tree (path_of c.text_of-text.result.now) o) c.in_default.is (c.in_ok-stat.ensures found)),
      refl,
    )

pub returns-clause-found : goal.returns-clause-found
returns-clause-found g c = λ text is path.
    let tree = tree_at (history_of c.args.tree.now.history.now) (natural c.args.tree.now.zxid) in
    let same : c.text_of-text.result.now ≡ text = c.text_of-text.ensures ∙ ap or_empty path in
    let found : IsPath c.text_of-text.result.now = subst IsPath (sym same) is in
    subst (λ t. IsStat tree (path_of t) (Some c.in-Some.stat)) same
    (subst (λ (o : Option Stat). IsStat tree (path_of c.text_of-text.result.now) o) c.in-Some.is (c.in_ok-stat.ensures found))
