-- The Stat is that of the tree now: `stat_at` tells it at the last zxid, which is read back from its word unchanged.
use Rattle.std.proofs.Common.{◌≡◌, ℤ, ◌∙◌, subst, rules, to_z, of_z, w64}
use Rattle.zk_nodes.specs.Path.{path_of}
use Rattle.zk_nodes.specs.History.{tree_at}
use Rattle.zk_history.specs.HistoryView.{history_of, natural}
use Rattle.zk_history.specs.Shown.{IsStat}
use Rattle.ffi_server.proofs.admitted.newest_stat.Goals as goal

pub returns-clause-told : goal.returns-clause-told
returns-clause-told c =
    let ranged : to_z w64 (of_z w64 c.last_zxid.result) ≡ c.last_zxid.result = search rules in
    subst (λ (z : ℤ). IsStat (tree_at (history_of c.args.history.now) (natural z)) (path_of c.args.path.now) c.stat_at.result)
    (ranged ∙ c.last_zxid.ensures.value) c.stat_at.ensures.told
