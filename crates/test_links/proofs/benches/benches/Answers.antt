-- The bench that is put behind the others is over the history, as they are.
use Rattle.std.proofs.Common.{All, ℕ, List, subst, sym}
use Rattle.std.proofs.lemmas.List.Elements.{All-push}
use Rattle.zk_bench.specs.Served.{Served}
use Rattle.zk_bench_dial.specs.Lines.{IsOver}
use Rattle.test_links.specs.inner.Tale.{told}
use Rattle.test_links.proofs.benches.benches.Goals as goal

pub loop-place-preserved : goal.loop-place-preserved
loop-place-preserved c =
    subst (λ (lines : List (Served × ℕ)). All (λ (line : Served × ℕ). IsOver told line.0) lines) (sym c.in_ok-push.ensures.items)
    (All-push (λ (line : Served × ℕ). IsOver told line.0) _ _ c.loop-place.invariant c.in_ok-bench_at.ensures)
