-- One call more leaves the tickets in order, if its own is above the last one's: `in_order-added`, with `tickets_join`.
use Rattle.std.proofs.Common.{◌-◌, deque_len, arith}
use Rattle.zk_calls.specs.Orders.{is_below}
use Rattle.zk_calls.proofs.Orders.{in_order-added}
use Rattle.zk_calls.proofs.Rising.{tickets_join}
use Rattle.zk_calls.proofs.order.tickets_rise.Goals as goal

pub returns-then-so_far : goal.returns-then-so_far
returns-then-so_far g c = λ less.
    in_order-added (is_below {A = g.row.A.Denot}) tickets_join c.args.entries.now.items
    (deque_len c.args.entries.now - 1) c.in-Some.last.now c.args.entry.now (c.requires c.if-so_far.true)
    (omega (arith, c.in-Some.ensures.item.3.0, c.args.entries.now.ok.0)) c.in-Some.ensures.lookup less
