-- Each turn takes one call out (`takes-one`), and where none is given nothing is pending any more (`takes-none`).
use Rattle.std.proofs.Common.{sym, ◌∙◌}
use Rattle.zk_client.proofs.Pendings.{TakesOne, takes-one, takes-none}
use Rattle.zk_client.proofs.connections.forget_pending.Goals as goal

taken : (g : _) (c : goal.In-Some g) → TakesOne c.loop-ticket.conversation c.take_pending.new.self c.in-Some._ticket
taken g c = takes-one c.loop-ticket.conversation c.take_pending.new.self c.in-Some._ticket c.loop-ticket.invariant.phase
    (sym c.in-Some.is ∙ c.take_pending.ensures.ticket) c.take_pending.ensures.rest

pub loop-ticket-smaller : goal.loop-ticket-smaller
loop-ticket-smaller g c = (taken g c).shorter

pub loop-ticket-preserved : goal.loop-ticket-preserved
loop-ticket-preserved g c = record { phase = (taken g c).phase; xid = (taken g c).xid ∙ c.loop-ticket.invariant.xid }

pub returns-clause-pending : goal.returns-clause-pending
returns-clause-pending g c =
    let t = takes-none c.loop-ticket.conversation c.take_pending.new.self c.loop-ticket.invariant.phase
    (sym c.in_default.is ∙ c.take_pending.ensures.ticket) c.take_pending.ensures.rest in
    t.pending
