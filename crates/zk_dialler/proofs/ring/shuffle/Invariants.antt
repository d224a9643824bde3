-- The loop of exchanges: shuffling what is left gives the order and the chance of the whole, and no place is lost. At the end none is left.
use Rattle.std.proofs.Common.{◌≡◌, ◌≤◌, length}
use Rattle.std.specs.List.Sorted.{IsPermutation}
use Rattle.zk_dialler.specs.Orders.{shuffled}
use Rattle.zk_dialler.specs.Chances.{state_after}
use Rattle.zk_dialler.proofs.ring.shuffle.Given as goal

-- what is left to be done makes the same order
abbrev pub invariant-loop-left : goal.invariant-loop-left
invariant-loop-left l = record {
  exact : shuffled l.chance.state l.left l.order ≡ shuffled l.fn.chance.state (length l.fn.order) l.fn.order;
  chance : state_after l.left l.chance.state ≡ state_after (length l.fn.order) l.fn.chance.state;
  same : IsPermutation l.fn.order l.order;
  within : l.left ≤ length l.order;
}

abbrev pub decreases-loop-left : goal.decreases-loop-left
decreases-loop-left l = l.left
