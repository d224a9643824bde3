-- The loop of `push_outputs`: what is told, with what the outputs left will tell, is the whole, and the line will have heard all. At the
-- end none is left, so all is told and heard. The outputs left become fewer.
use Rattle.std.proofs.Common.{◌≡◌, ◌++◌, length}
use Rattle.zk_client.specs.Views.{said}
use Rattle.zk_agent.specs.Calls.{hears_all, tells_all}
use Rattle.zk_agent.specs.Telling.{told_by}
use Rattle.zk_agent.proofs.calls.push_outputs.Given as goal

-- what was told, and what is left to be told, is all of it, and the line will have heard all
abbrev pub invariant-loop-output : goal.invariant-loop-output
invariant-loop-output g l = record {
  told : told_by l.actions.items ++ tells_all l.line.entries.items (said l.left.items)
      ≡ told_by l.fn.actions.items ++ tells_all l.fn.line.entries.items (said l.fn.outputs.items);
  line : hears_all l.line.entries.items (said l.left.items) ≡ hears_all l.fn.line.entries.items (said l.fn.outputs.items);
}

abbrev pub decreases-loop-output : goal.decreases-loop-output
decreases-loop-output g l = length l.left.items
