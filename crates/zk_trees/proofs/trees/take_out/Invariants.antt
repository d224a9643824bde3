-- The loop of `take_out`: no tree before the index has the ticket, and nothing was taken out yet; so what is found first is the first.
use Rattle.std.proofs.Common.{◌≡◌}
use Rattle.zk_trees.proofs.Finding.{Missed}
use Rattle.zk_trees.proofs.trees.take_out.Given as goal

-- none of those so far has the ticket
abbrev pub invariant-loop-index : goal.invariant-loop-index
invariant-loop-index g l = record { missed : Missed l.ticket l.fn.trees.items l.index; same : l.trees.items ≡ l.fn.trees.items }
