-- The Stat that the history tells of the path is that of the node at its text: `stat-at`, and the zxid is one of 64 bits.
use Rattle.std.proofs.Common.{rules, ◌≡◌, sym, subst, ◌∙◌, to_z, of_z, w64, ℤ, Some}
use Rattle.zk_nodes.specs.Path.{path_of}
use Rattle.zk_history.specs.Shown.{IsStat}
use Rattle.zk_bench.specs.inner.Writing.{tree_of}
use Rattle.zk_bench.proofs.Written.{stat-at}
use Rattle.zk_bench.proofs.writes.node_at.Goals as goal

pub returns-in-Some-stat_at-clause-found : goal.returns-in-Some-stat_at-clause-found
returns-in-Some-stat_at-clause-found g c =
    let kept = c.args.tree.now.history.now in
    let same : to_z w64 (of_z w64 c.args.tree.now.zxid) ≡ c.args.tree.now.zxid = search rules in
    let seen = subst (λ (z : ℤ). IsStat (tree_of kept z) (path_of c.in-Some.path) (Some c.in-Some-stat_at.stat)) same
    c.in-Some-stat_at.ensures.told in
    stat-at (tree_of kept c.args.tree.now.zxid) c.args.text.now c.in-Some.path (Some c.in-Some-stat_at.stat)
    (sym c.in_ok-path.ensures.told ∙ c.in-Some.is) seen
