-- The loop over the names: the paths are those of the names done, and fit in the room. At its end no name is left.
use Rattle.std.proofs.Common.{◌≤◌, length, drop}
use Rattle.zk_conclusions.specs.inner.Walks.{Added}
use Rattle.zk_conclusions.proofs.children.children_of.Given as goal

-- what was made, and what is left
abbrev pub invariant-loop-at : goal.invariant-loop-at
invariant-loop-at g l = record {
  added : Added l.path l.names.names (drop l.at l.names.names) l.children.items;
  fits : length l.children.items ≤ l.room;
}
