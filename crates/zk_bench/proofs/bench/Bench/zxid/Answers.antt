-- By what `zxid_after` ensures, rewritten: the server's place is one of the history, by `taken_at`, as the bench is ready.
use Rattle.std.proofs.Common.{rules, ◌≡◌, ◌∙◌, subst, pos, to_z, of_z, w64}
use Rattle.std.specs.Prelude.{slice_index}
use Rattle.zk_history.specs.HistoryView.{history_of}
use Rattle.zk_laws.specs.Server.{zxid_held}
use Rattle.theory_serving.proofs.Later.{taken_at}
use Rattle.zk_bench.specs.Served.{Served}
use Rattle.zk_bench.specs.Stepping.{IsReady}
use Rattle.zk_bench.proofs.Fields.{bench_of}
use Rattle.zk_bench.proofs.bench.Bench.zxid.Goals as goal

pub returns : goal.returns
returns g c =
    let b = bench_of c.self.inside in
    let ranged : to_z w64 (of_z w64 c.zxid_after.result) ≡ c.zxid_after.result = search rules in
    subst (λ (old : Served). IsReady old → to_z w64 (of_z w64 c.zxid_after.result)
    ≡ pos (zxid_held (history_of old.history) (slice_index old.taken old.server))) c.self.view_is
    (λ ready. ranged ∙ c.zxid_after.ensures.zxid (taken_at (history_of b.history) b.taken b.server ready.taken))
