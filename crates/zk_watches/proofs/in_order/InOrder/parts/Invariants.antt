-- The parts so far are rightly cut of the watches before `start`, those from there to `at` weigh `weight`, and each part has the zxid; at
-- the end `at` is past all watches, so one part at most is left to cut.
use Rattle.std.proofs.Common.{◌≡◌, length, map, All}
use Rattle.zk_watches.specs.Parts.{watches_of}
use Rattle.zk_watches.specs.Lent.{lists_of}
use Rattle.zk_watches.proofs.PartsLemmas.{PartsSoFar}
use Rattle.zk_watches.proofs.in_order.InOrder.parts.Given as goal

abbrev pub invariant-loop-at : goal.invariant-loop-at
invariant-loop-at g l =
    PartsSoFar (watches_of l.self) (map lists_of l.parts.items) l.start l.weight l.at
    × All (λ part. part.relative_zxid ≡ l.relative) l.parts.items
    × (l.count ≡ length (watches_of l.self))
