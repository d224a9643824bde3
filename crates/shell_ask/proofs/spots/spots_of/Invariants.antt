-- The loop over the names below a node: after it the nodes are those of all names; where it stops, the name without a path is one of them.
use Rattle.std.proofs.Common.{◌≡◌, ◌++◌, map, Contains}
use Rattle.std.specs.Prelude.{string_bytes}
use Rattle.zk_nodes.specs.Path.{Text}
use Rattle.shell_ask.specs.Trees.{child_of}
use Rattle.shell_ask.specs.inner.Trees.{spot_view}
use Rattle.shell_ask.proofs.spots.spots_of.Given as goal

-- the nodes so far, and those of the names that are left, are all; and the names that are left are among them
abbrev pub invariant-loop-name : goal.invariant-loop-name
invariant-loop-name g l = record {
  made : map spot_view l.spots.items ++ map (child_of (spot_view l.spot))
      (map string_bytes l.name-iterator) ≡ map (child_of (spot_view l.spot)) (map string_bytes l.names.keys);
  within : (name : Text) → Contains (map string_bytes l.name-iterator) name → Contains (map string_bytes l.names.keys) name;
}
