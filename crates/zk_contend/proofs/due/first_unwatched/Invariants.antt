-- The loop over the places: each so far is watched.
use Rattle.std.proofs.Common.{◌≡◌, true, take}
use Rattle.std.specs.List.{list_all}
use Rattle.zk_client.specs.Clients.{view_of}
use Rattle.zk_contend.specs.Places.{shows_node}
use Rattle.zk_contend.proofs.due.first_unwatched.Given as goal

-- each so far
abbrev pub invariant-loop-place : goal.invariant-loop-place
invariant-loop-place g l = list_all (shows_node (view_of l.client)) (take l.place l.behind) ≡ true
