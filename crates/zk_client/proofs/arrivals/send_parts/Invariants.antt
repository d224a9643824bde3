-- The loop over the parts of setWatches: those so far are sent and pending, phase and xid stay. At its end that is all of them.
use Rattle.std.proofs.Common.{◌≡◌, ◌++◌, map, take}
use Rattle.zk_conversation.specs.declared.phase.Phase.TheVariants.{Talking}
use Rattle.zk_watches.specs.Parts.{parts}
use Rattle.zk_turns.specs.Past.{pending_for, parts_asked}
use Rattle.zk_turns.specs.Rule.{part_frame}
use Rattle.zk_client.specs.Views.{said}
use Rattle.zk_client.proofs.arrivals.send_parts.Given as goal

abbrev pub invariant-loop-at : goal.invariant-loop-at
invariant-loop-at g l = record {
  phase : l.conversation.phase ≡ Talking;
  xid : l.conversation.xid ≡ l.fn.conversation.xid;
  pending : l.conversation.pending ≡ l.fn.conversation.pending ++ take l.at (map pending_for (parts_asked (parts l.registry)));
  told : said l.outputs.items ≡ said l.fn.outputs.items ++ take l.at (map (part_frame l.last) (parts l.registry));
}
