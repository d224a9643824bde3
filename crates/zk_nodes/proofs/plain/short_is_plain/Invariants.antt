-- Each byte from the second to before `at` may follow the one before it; at the end `at` is the length, so all may.
use Rattle.zk_nodes.specs.inner.Plain.{ArePlain}
use Rattle.zk_nodes.proofs.plain.short_is_plain.Given as goal

abbrev pub invariant-loop-at : goal.invariant-loop-at
invariant-loop-at l = ArePlain l.text 1 l.at
