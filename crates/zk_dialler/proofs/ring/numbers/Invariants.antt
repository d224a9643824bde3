-- The loop that pushes the numbers: the list has those below `number`, so at the end those below `count`.
use Rattle.std.proofs.Common.{◌≡◌}
use Rattle.zk_dialler.specs.Orders.{numbers}
use Rattle.zk_dialler.proofs.ring.numbers.Given as goal

-- the numbers so far
abbrev pub invariant-loop-number : goal.invariant-loop-number
invariant-loop-number g l = l.order.items ≡ numbers l.number
