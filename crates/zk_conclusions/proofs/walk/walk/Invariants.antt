-- The loop over the places: the nodes before the place are kept whole, with their children in the list. So past the last path it is a walk.
use Rattle.std.proofs.Common.{◌≤◌, length}
use Rattle.zk_client.specs.Clients.{view_of}
use Rattle.zk_conclusions.proofs.Walking.{Walked}
use Rattle.zk_conclusions.proofs.walk.walk.Given as goal

-- how far it has come
abbrev pub invariant-loop-place : goal.invariant-loop-place
invariant-loop-place g l = record {
  walked : Walked (view_of l.client).cache l.root l.paths.items l.place;
  within : length l.paths.items ≤ l.most;
}
