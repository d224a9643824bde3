-- What a watch does is, byte by byte, a run of its driver: each move is some calls of the driver. So is that it begins to follow subjects
-- and trees.
use Rattle.std.proofs.Common.{◌≡◌, List, [], ◌∷◌, ap}
use Rattle.std.specs.List.{FoldsTo}
use Rattle.zk_link.specs.FarEnds.{FarEnd}
use Rattle.zk_nodes.specs.Path.{Text}
use Rattle.zk_nodes.specs.declared.side.Side.{Side}
use Rattle.zk_driver.specs.Flowing.{Runs}
use Rattle.zk_driver.proofs.Running.{runs_join, runs_same}
use Rattle.shell_watch.specs.Watching.{flow_in, Closes, Does, FollowsAll, FollowsRun, Move, PlantsAll, Stand, Takes, WatchesRun}

abbrev RunsOn : {A : Type 0} {far : FarEnd} → (old new : Stand A far) → Type 0
RunsOn old new = Runs (flow_in old) (flow_in new)

on : {A : Type 0} {far : FarEnd} (old between new : Stand A far) → RunsOn old between → RunsOn between new → RunsOn old new
on old between new first rest = runs_join (flow_in old) (flow_in between) (flow_in new) first rest

still : {A : Type 0} {far : FarEnd} (old new : Stand A far) → old ≡ new → RunsOn old new
still {A} {far} old new is = runs_same (flow_in old) (flow_in new) (ap (λ (s : Stand A far). flow_in s) is)

-- ---- what is printed

pub does_run : {A : Type 0} {far : FarEnd} (move : Move A) (old new : Stand A far) → Does old move new → RunsOn old new
does_run (Takes turn text) old new turns = turns.runs
does_run (Closes until) old new does = does.1

pub moves_run : {A : Type 0} {far : FarEnd} (moves : List (Move A)) (old new : Stand A far) → FoldsTo Does old moves new → RunsOn old new
moves_run [] old new same = still old new same
moves_run (move ∷ moves) old new does = on old does.0 new (does_run move old does.0 does.1) (moves_run moves does.0 new does.2)

pub watches_run : (A : Type 0) (far : FarEnd) → WatchesRun A far
watches_run A far old new text prints = moves_run prints.moves old new prints.does

-- ---- what is followed

subjects_run : {A : Type 0} {far : FarEnd} (aims : List (Side × Text)) (old new : Stand A far) → FollowsAll aims old new → RunsOn old new
subjects_run [] old new same = still old new same
subjects_run (aim ∷ aims) old new follows = on old follows.0 new follows.1.runs (subjects_run aims follows.0 new follows.2)

trees_run : {A : Type 0} {far : FarEnd} (roots : List Text) (old new : Stand A far) → PlantsAll roots old new → RunsOn old new
trees_run [] old new same = still old new same
trees_run (root ∷ roots) old new plants = on old plants.0 new plants.1.runs (trees_run roots plants.0 new plants.2)

pub follows_run : (A : Type 0) (far : FarEnd) → FollowsRun A far
follows_run A far aims roots old new prepares =
    on old prepares.between new (subjects_run aims old prepares.between prepares.follows)
    (trees_run roots prepares.between new prepares.plants)
