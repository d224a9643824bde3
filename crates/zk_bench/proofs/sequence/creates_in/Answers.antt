-- A change adds one to the count just where `is_made_below` says so: `count_by_more_yes` and `count_by_more_no`.
use Rattle.std.proofs.Common.{ap, sym, ◌∙◌, ◌+◌, ℕ}
use Rattle.std.proofs.lemmas.List.Sums.{count_by_more_yes, count_by_more_no}
use Rattle.zk_nodes.specs.Path.{path_of}
use Rattle.zk_history.specs.Made.{change_of}
use Rattle.zk_bench.specs.inner.Writing.{makes_below}
use Rattle.zk_bench.proofs.sequence.creates_in.Goals as goal
use Rattle.zk_bench.proofs.sequence.creates_in.Goals.{then-is_made_below, else-is_made_below}

pub loop-change-preserved : goal.loop-change-preserved
loop-change-preserved g c =
    let here = ap (λ change. makes_below (path_of c.args.parent.now) (change_of change)) (sym c.change-item.is)
    ∙ sym c.is_made_below.ensures in
    elim c.if-is_made_below.branch [
      | then-is_made_below w ↦
          w.count-is ∙ ap (λ (n : ℕ). n + 1) c.loop-change.invariant
          ∙ sym (count_by_more_yes (λ change. makes_below (path_of c.args.parent.now) (change_of change)) c.args.changes.now
          c.loop-change.change-index c.change-item.result c.loop-change-test.true (here ∙ w.if-is_made_below.true))
      | else-is_made_below w ↦
          w.count-is ∙ c.loop-change.invariant
          ∙ sym (count_by_more_no (λ change. makes_below (path_of c.args.parent.now) (change_of change)) c.args.changes.now
          c.loop-change.change-index c.change-item.result c.loop-change-test.true (here ∙ w.if-is_made_below.false))
    ]
