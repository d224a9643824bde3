-- The loop over the pending calls: what was said, with the losses of those still pending, is what is to be said at the end. Each turn
-- leaves fewer of them, and after the last none is left to add.
use Rattle.std.proofs.Common.{◌≡◌, ◌++◌, length}
use Rattle.std.specs.List.{flat_map}
use Rattle.zk_conversation.specs.declared.phase.Phase.TheVariants.{Closed}
use Rattle.zk_turns.specs.Rule.{loss}
use Rattle.zk_client.specs.Views.{said}
use Rattle.zk_client.proofs.connections.answer_lost.Given as goal

abbrev pub invariant-loop-ticket : goal.invariant-loop-ticket
invariant-loop-ticket g l = record {
  phase : l.conversation.phase ≡ Closed;
  xid : l.conversation.xid ≡ l.fn.conversation.xid;
  told : said l.outputs.items ++ flat_map loss l.conversation.pending ≡ said l.fn.outputs.items ++ flat_map loss l.fn.conversation.pending;
}

abbrev pub decreases-loop-ticket : goal.decreases-loop-ticket
decreases-loop-ticket g l = length l.conversation.pending
