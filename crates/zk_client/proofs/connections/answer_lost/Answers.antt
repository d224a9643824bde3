-- Each turn takes one call out and answers it (`takes-one`), so what was said, with the
-- losses still to tell, stays the same. After the loop nothing is pending: `takes-none`.
use Rattle.std.proofs.Common.{ap, sym, ◌∙◌, append_assoc, List, ◌++◌}
use Rattle.std.proofs.lemmas.List.{append-nil}
use Rattle.zk_turns.specs.Turns.{Output}
use Rattle.zk_client.specs.Views.{said}
use Rattle.zk_client.proofs.Pendings.{TakesOne, TakesNone, takes-one, takes-none}
use Rattle.zk_client.proofs.connections.answer_lost.Goals as goal

taken : (g : _) (c : goal.In_ok-say g) → TakesOne c.loop-ticket.conversation c.take_pending.new.self c.in-Some.ticket
taken g c = takes-one c.loop-ticket.conversation c.take_pending.new.self c.in-Some.ticket c.loop-ticket.invariant.phase
    (sym c.in-Some.is ∙ c.take_pending.ensures.ticket) c.take_pending.ensures.rest

none_left : (g : _) (c : goal.In_default g) → TakesNone c.loop-ticket.conversation c.take_pending.new.self
none_left g c = takes-none c.loop-ticket.conversation c.take_pending.new.self c.loop-ticket.invariant.phase
    (sym c.in_default.is ∙ c.take_pending.ensures.ticket) c.take_pending.ensures.rest

pub loop-ticket-smaller : goal.loop-ticket-smaller
loop-ticket-smaller g c = (taken g c).shorter

pub loop-ticket-preserved : goal.loop-ticket-preserved
loop-ticket-preserved g c =
    let t = taken g c in
    record {
      phase = t.phase;
      xid = t.xid ∙ c.loop-ticket.invariant.xid;
      told = rw (c.in_ok-say.ensures, append_assoc)
          (ap (λ (more : List Output). said c.loop-ticket.outputs.items ++ more) (sym t.told) ∙ c.loop-ticket.invariant.told);
    }

pub returns-clause-pending : goal.returns-clause-pending
returns-clause-pending g c = (none_left g c).pending

pub returns-clause-says : goal.returns-clause-says
returns-clause-says g c =
    sym (append-nil (said c.loop-ticket.outputs.items))
    ∙ ap (λ (more : List Output). said c.loop-ticket.outputs.items ++ more) (sym (none_left g c).told) ∙ c.loop-ticket.invariant.told
