-- The loop over the actions: what those before the index say is noted. At the end that is what all say.
use Rattle.std.proofs.Common.{◌≡◌, take}
use Rattle.zk_agent.specs.Trees.{noted_by}
use Rattle.zk_agent.proofs.growing.note_all.Given as goal

-- what was said so far is noted
abbrev pub invariant-loop-action : goal.invariant-loop-action
invariant-loop-action g l = record {
  all : l.trees.all.items ≡ noted_by (take l.action-index l.said) l.fn.trees.all.items;
  next : l.trees.next ≡ l.fn.trees.next;
  due : l.trees.due ≡ l.fn.trees.due;
}
