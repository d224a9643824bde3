-- What contracts of private functions say: nobody has to believe it.
use Rattle.std.specs.Prelude.{◌≢◌, ⊤, List, ◌∷◌}
use Rattle.std.specs.Prelude.{map, reverse}
use Rattle.zk_link.specs.FarEnds.{FarEnd}
use Rattle.zk_driver.specs.Flowing.{Flow}
use Rattle.shell_ask.specs.declared.spots.Spot.{Spot as Place}
use Rattle.shell_ask.specs.declared.walk.Ending.{Ending as Reached}
use Rattle.shell_ask.specs.declared.walk.Walk.{Walk}
use Rattle.shell_ask.specs.inner.Asking.{came_view}
use Rattle.shell_ask.specs.Printing.{end_of}
use Rattle.shell_ask.specs.Trees.{Spot, Stage, Ending, Whole, Full, Stopped, Misnamed}
use Rattle.shell_ask.specs.declared.end.CallEnd.TheVariants as ends
use Rattle.shell_ask.specs.declared.walk.Ending.TheVariants as reached

abbrev pub spot_view : {A : Type 0} → Place A → Spot
spot_view place = record { depth = place.depth; path = place.path; name = place.name }

-- nodes that wait, of which the next one comes last
abbrev pub waiting_view : {A : Type 0} → List (Place A) → List Spot
waiting_view places = reverse (map spot_view places)

abbrev pub stage_of : {A : Type 0} {far : FarEnd} → Flow A far → Walk A → Stage A far
stage_of flow walk = record { flow = flow; waiting = waiting_view walk.waiting.items; printed = walk.printed.items }

-- another node is the next one
abbrev pub with_next : {A : Type 0} {far : FarEnd} → Spot → Stage A far → Stage A far
with_next spot stage = record stage { waiting = spot ∷ stage.waiting }

abbrev pub ending_view : {A : Type 0} → Reached A → Ending
ending_view reached.Whole = Whole
ending_view reached.Full = Full
ending_view (reached.Stopped name came) = Stopped name (came_view came)
ending_view (reached.Misnamed name) = Misnamed name

-- A call that stopped a walk is not done.
abbrev pub IsUndone : Ending → Type 0
IsUndone (Stopped name coming) = end_of coming ≢ ends.Done
IsUndone _ = ⊤
