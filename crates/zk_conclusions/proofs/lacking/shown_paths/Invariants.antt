-- The loop over the places: the paths before the place have their children in the list. So past the last path all shown paths are in it.
use Rattle.std.proofs.Common.{◌≤◌, length}
use Rattle.zk_client.specs.Clients.{view_of}
use Rattle.zk_conclusions.proofs.Sought.{Sought}
use Rattle.zk_conclusions.proofs.lacking.shown_paths.Given as goal

-- how far it has come
abbrev pub invariant-loop-place : goal.invariant-loop-place
invariant-loop-place g l = record {
  sought : Sought (view_of l.client).cache l.root l.paths.items l.place;
  within : length l.paths.items ≤ l.most;
}
