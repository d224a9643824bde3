-- The loop over the queue: the first ticket, and what comes after it, are as at the start, and the counts are right. So the first call met,
-- or none at the end, is the answer. The queue gets shorter.
use Rattle.std.proofs.Common.{◌≡◌, ◌≤◌, length, map}
use Rattle.zk_conversation.specs.Counted.{counts_of}
use Rattle.zk_conversation.specs.Pending.{first_ticket, after_ticket}
use Rattle.zk_conversation.specs.Views.{pending_view}
use Rattle.zk_conversation.proofs.taking.take_call.Given as goal
use Rattle.zk_limits.specs.declared.limits.TheConstants.{MOST_PENDING}

abbrev pub invariant-loop-oldest : goal.invariant-loop-oldest
invariant-loop-oldest g l = record {
  ticket : first_ticket (map pending_view l.pending.items) ≡ first_ticket (map pending_view l.fn.pending.items);
  rest : after_ticket (map pending_view l.pending.items) ≡ after_ticket (map pending_view l.fn.pending.items);
  counted : l.counts ≡ counts_of (map pending_view l.pending.items);
  few : l.counts.calls ≤ MOST_PENDING;
}

abbrev pub decreases-loop-oldest : goal.decreases-loop-oldest
decreases-loop-oldest g l = length l.pending.items
