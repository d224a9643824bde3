-- The Stat that `stat_at` tells of the path is that of the node at its text: `stat_found`, and the zxid is one of 64 bits.
use Rattle.std.proofs.Common.{rules, ◌≡◌, sym, subst, ◌∙◌, to_z, of_z, w64, ℤ}
use Rattle.zk_nodes.specs.Path.{path_of}
use Rattle.zk_nodes.specs.History.{tree_at}
use Rattle.zk_history.specs.HistoryView.{history_of, natural}
use Rattle.zk_history.specs.Shown.{IsStat}
use Rattle.zk_bench.proofs.Answered.{stat_found}
use Rattle.zk_bench.proofs.tree.Tree.stat.Goals as goal

pub returns-in-Some : goal.returns-in-Some
returns-in-Some g c = λ is.
    let same : to_z w64 (of_z w64 c.args.self.now.zxid) ≡ c.args.self.now.zxid = search rules in
    subst (λ (z : ℤ). IsStat (tree_at (history_of c.args.self.now.history.now) (natural z)) (path_of c.args.text.now) c.stat_at.result) same
    (stat_found (tree_at (history_of c.args.self.now.history.now) (natural (to_z w64 (of_z w64 c.args.self.now.zxid)))) c.in-Some.path
    c.args.text.now c.stat_at.result (sym c.in-Some.is ∙ c.in_ok-path.ensures.path is) c.stat_at.ensures.told)
