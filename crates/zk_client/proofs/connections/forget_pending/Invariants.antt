-- The loop that takes pending calls out: the conversation stays closed, with its xid. At the end that is enough for `takes-none`.
use Rattle.std.proofs.Common.{◌≡◌, length}
use Rattle.zk_conversation.specs.declared.phase.Phase.TheVariants.{Closed}
use Rattle.zk_client.proofs.connections.forget_pending.Given as goal

abbrev pub invariant-loop-ticket : goal.invariant-loop-ticket
invariant-loop-ticket g l = record {
  phase : l.conversation.phase ≡ Closed;
  xid : l.conversation.xid ≡ l.fn.conversation.xid;
}

abbrev pub decreases-loop-ticket : goal.decreases-loop-ticket
decreases-loop-ticket g l = length l.conversation.pending
