-- Each byte from the second to before `at` may follow the one before it; at the end `at` has reached `last`, and the look at the last 16
-- bytes covers the rest. Each turn brings `at` nearer to `last`.
use Rattle.std.proofs.Common.{◌-◌, ◌≤◌}
use Rattle.zk_nodes.specs.inner.Plain.{ArePlain}
use Rattle.zk_nodes.proofs.plain.long_is_plain.Given as goal

abbrev pub invariant-loop-at : goal.invariant-loop-at
invariant-loop-at l = record {
  some : 1 ≤ l.at;
  plain : ArePlain l.text 1 l.at;
}

abbrev pub decreases-loop-at : goal.decreases-loop-at
decreases-loop-at l = l.last - l.at
