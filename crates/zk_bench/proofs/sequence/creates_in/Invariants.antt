-- The loop over the changes: the count is that of those so far, so at its end it is that of all.
use Rattle.std.proofs.Common.{◌≡◌, take}
use Rattle.std.specs.Prelude.{count_by}
use Rattle.zk_nodes.specs.Path.{path_of}
use Rattle.zk_history.specs.Made.{change_of}
use Rattle.zk_bench.specs.inner.Writing.{makes_below}
use Rattle.zk_bench.proofs.sequence.creates_in.Given as goal

-- so many of the changes so far
abbrev pub invariant-loop-change : goal.invariant-loop-change
invariant-loop-change g l = l.count ≡ count_by (λ change. makes_below (path_of l.parent) (change_of change)) (take l.change-index l.changes)
