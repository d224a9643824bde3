-- The loop over the tickets: at its end none is left, so what is told is what was, and then that each is let go.
use Rattle.std.proofs.Common.{◌≡◌, ◌++◌, drop, map}
use Rattle.zk_trees.specs.Tending.{trees_told, LetsGo}
use Rattle.zk_trees.proofs.ledger.Ledger.tell_left.Given as goal

-- what was told, with what is left to be told
abbrev pub invariant-loop-ticket : goal.invariant-loop-ticket
invariant-loop-ticket g l = record {
  told : trees_told l.self.news.items ++ map (LetsGo l.tree) (drop l.ticket-index l.tickets)
      ≡ trees_told l.fn.self.news.items ++ map (LetsGo l.tree) l.tickets;
  next : l.self.next ≡ l.fn.self.next;
}
