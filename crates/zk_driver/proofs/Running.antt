-- Calls of a driver, one after the other, and that the program takes of what it is told: runs join, as what comes after begins where the
-- one before has led.
use Rattle.std.proofs.Common.{◌≡◌, ◌++◌, List, [], ◌∷◌, Option, Some, None, map, refl, sym, subst}
use Rattle.std.specs.Prelude.{ℕ, Result, Ok, Err, OnOk}
use Rattle.std.specs.List.{FoldsTo}
use Rattle.zk_agent.specs.declared.action.Action.{Action}
use Rattle.zk_agent.specs.Telling.{Told, told_by}
use Rattle.zk_link.specs.FarEnds.{FarEnd}
use Rattle.zk_driver.specs.declared.engine.Engine.{Engine}
use Rattle.zk_driver.specs.Flowing.{flow_of, Carries, Deed, Flow, Flows, Passes, Runs}

passes_of : {A : Type 0} {far : FarEnd} (deeds : List (Deed A)) (old new : Flow A far)
    → FoldsTo Carries old deeds new → FoldsTo Passes old (map Some deeds) new
passes_of [] old new same = same
passes_of (deed ∷ deeds) old new carries = (carries.0, carries.1, passes_of deeds carries.0 new carries.2)

pub calls_run : {A : Type 0} {far : FarEnd} (old new : Flow A far) → Flows old new → Runs old new
calls_run old new flows = record { steps = map Some flows.deeds; passes = passes_of flows.deeds old new flows.carries }

pub taking_runs : {A : Type 0} {far : FarEnd} (old : Flow A far) (told : List Told)
    → Runs old (record old { course = record old.course { told = told } })
taking_runs old told = record { steps = None ∷ []; passes = (record old { course = record old.course { told = told } }, refl, refl) }

passes_on : {A : Type 0} {far : FarEnd} (steps more : List (Option (Deed A))) (old between new : Flow A far)
    → FoldsTo Passes old steps between → FoldsTo Passes between more new → FoldsTo Passes old (steps ++ more) new
passes_on [] more old between new same rest = subst (λ f. FoldsTo Passes f more new) (sym same) rest
passes_on (step ∷ steps) more old between new passes rest = (passes.0, passes.1, passes_on steps more passes.0 between new passes.2 rest)

pub runs_join : {A : Type 0} {far : FarEnd} (old between new : Flow A far) → Runs old between → Runs between new → Runs old new
runs_join old between new first rest =
    record { steps = first.steps ++ rest.steps; passes = passes_on first.steps rest.steps old between new first.passes rest.passes }

-- one that returns an action, which the program takes
pub next_runs : {A S : Type 0} (remaining contents : S → Option (List ℕ)) (far : FarEnd) (state : S → far.State) (old : Flow A far)
    (engine : Engine A S) (passed : Option (Action A))
    → Flows old (flow_of remaining contents far state engine passed) → Runs old (flow_of remaining contents far state engine None)
next_runs remaining contents far state old engine passed flows =
    let told = flow_of remaining contents far state engine passed in
    runs_join old told (flow_of remaining contents far state engine None) (calls_run old told flows)
    (taking_runs told (told_by engine.waiting.items))

pub runs_same : {A : Type 0} {far : FarEnd} (old new : Flow A far) → old ≡ new → Runs old new
runs_same old new is = record { steps = []; passes = is }

-- and one more of those
pub next_run : {A S : Type 0} (remaining contents : S → Option (List ℕ)) (far : FarEnd) (state : S → far.State)
    (first until engine : Engine A S) (passed : Option (Action A))
    → Runs (flow_of remaining contents far state first None) (flow_of remaining contents far state until None)
    → Flows (flow_of remaining contents far state until None) (flow_of remaining contents far state engine passed)
    → Runs (flow_of remaining contents far state first None) (flow_of remaining contents far state engine None)
next_run remaining contents far state first until engine passed runs flows =
    let at = flow_of remaining contents far state until None in
    runs_join (flow_of remaining contents far state first None) at (flow_of remaining contents far state engine None) runs
    (next_runs remaining contents far state at engine passed flows)

-- a call, and what comes after it
pub ok_asked_runs : {A X E : Type 0} {far : FarEnd} (result : Result X E) (old asked new : Flow A far)
    → Flows old asked → OnOk result (Runs asked new)
    → OnOk result (Runs old new)
ok_asked_runs (Ok x) old asked new flows rest = runs_join old asked new (calls_run old asked flows) rest
ok_asked_runs (Err e) old asked new flows rest = tt

pub ok_calls_run : {A X E : Type 0} {far : FarEnd} (result : Result X E) (old new : Flow A far) → OnOk result (Flows old new)
    → OnOk result (Runs old new)
ok_calls_run (Ok x) old new flows = calls_run old new flows
ok_calls_run (Err e) old new flows = tt
