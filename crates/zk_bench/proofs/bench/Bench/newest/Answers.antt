-- As zxids rise, the tree at the last zxid is that after all transactions, by `newest_seen`, and where the connected server has taken
-- all of them, it is the tree that this server holds, by `newest_tree`.
use Rattle.std.proofs.Common.{rules, ◌≡◌, ℤ, ap, ◌∙◌, subst, to_z, of_z, w64}
use Rattle.std.specs.Prelude.{slice_index}
use Rattle.zk_history.specs.HistoryView.{history_of, natural, newest_tree as newest_tree_of}
use Rattle.zk_nodes.specs.History.{tree_at}
use Rattle.zk_laws.specs.Server.{tree_held}
use Rattle.zk_bench.specs.Served.{Served}
use Rattle.zk_bench.specs.inner.Stepping.{HasAll}
use Rattle.zk_bench.proofs.Fields.{bench_of}
use Rattle.zk_bench.proofs.Placed.{newest_tree}
use Rattle.zk_bench.specs.inner.Writing.{tree_of}
use Rattle.zk_bench.proofs.Allowed.{newest_seen}
use Rattle.zk_bench.proofs.bench.Bench.newest.Goals as goal

pub returns-clause-held : goal.returns-clause-held
returns-clause-held g c =
    let b = bench_of c.self.inside in
    let h = history_of b.history in
    let ranged : to_z w64 (of_z w64 c.last_zxid.result) ≡ c.last_zxid.result = search rules in
    subst (λ (s : Served). HasAll s → tree_at (history_of s.history) (natural (to_z w64 (of_z w64 c.last_zxid.result)))
    ≡ tree_held (history_of s.history) (slice_index s.taken s.server)) c.self.view_is
    (λ all. ap (λ (z : ℤ). tree_at h (natural z)) (ranged ∙ c.last_zxid.ensures.value)
    ∙ newest_tree h (slice_index b.taken b.server) c.last_zxid.ensures.history.rising all)

pub returns-clause-seen : goal.returns-clause-seen
returns-clause-seen g c =
    let kept = c.self.inside.history in
    let ranged : to_z w64 (of_z w64 c.last_zxid.result) ≡ c.last_zxid.result = search rules in
    subst (λ (s : Served). tree_of kept (to_z w64 (of_z w64 c.last_zxid.result)) ≡ newest_tree_of s.history) c.self.view_is
    (ap (tree_of kept) (ranged ∙ c.last_zxid.ensures.value) ∙ newest_seen kept c.last_zxid.ensures.history.rising)
