-- The loop over the tickets: of those so far it is told, in order.
use Rattle.std.proofs.Common.{nat_eq, take}
use Rattle.std.specs.List.{FoldsTo}
use Rattle.indexmap.specs.IndexMap.{get}
use Rattle.zk_client.specs.Clients.{view_of}
use Rattle.zk_contend.specs.Collections.{TellsAt}
use Rattle.zk_contend.specs.inner.Rolls.{hall}
use Rattle.zk_contend.proofs.roll.tell_each.Given as goal

-- it is told of those so far
abbrev pub invariant-loop-ticket : goal.invariant-loop-ticket
invariant-loop-ticket g l =
    FoldsTo (TellsAt (view_of l.client)) (hall (get nat_eq l.fn.all) l.fn.news.items) (take l.ticket-index l.tickets)
    (hall (get nat_eq l.all) l.news.items)
