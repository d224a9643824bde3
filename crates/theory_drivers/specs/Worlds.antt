-- Servers at the far end of a driver's connections.
use Rattle.std.specs.Prelude.{◌≡◌, ◌≤◌, ℕ, Bool, true, false, List, [], ◌∷◌, ◌++◌, length, Option, Some, None}
use Rattle.std.specs.List.{FoldsTo}
use Rattle.zk_link.specs.FarEnds.{FarEnd}
use Rattle.theory_serving.specs.GoingOn.{GoesOn}
use Rattle.theory_serving.specs.Shown.{connected, Shown}
use Rattle.zk_agent.specs.declared.input.AgentInput.TheVariants as happens
use Rattle.zk_driver.specs.Driving.{Looked, Noted, Written}
use Rattle.zk_driver.specs.Flowing.{Deed, Flow, Made, Passes}
use Rattle.theory_drivers.specs.Acts.{given_in, taken_in, Act, Happens}

-- ---- which bytes these are

-- a stream that knows its bytes took these, and gave these
pub record ByStream {A : Type 0} {far : FarEnd} (took gave : List ℕ) (old new : Flow A far) : Type 0 where
  pub before : List ℕ
  pub taken : old.known.took ≡ Some before
  pub then_taken : new.known.took ≡ Some (before ++ took)
  pub rest : List ℕ
  pub left : old.known.left ≡ Some (gave ++ rest)
  pub then_left : new.known.left ≡ Some rest

-- a driver wrote these, whatever its stream knows, and read these
pub record ByDriver {A : Type 0} {far : FarEnd} (took gave : List ℕ) (old new : Flow A far) : Type 0 where
  pub wrote : old.course.channel.unsent ≡ took ++ new.course.channel.unsent
  pub read : new.held ≡ old.held ++ gave

-- ---- beside what a driver does

module _ {A : Type 0} {far : FarEnd} (By : List ℕ → List ℕ → Flow A far → Flow A far → Type 0) where
  -- While a connection is there, what befalls it are acts with these bytes; without one the history may go on.
  abbrev pub Meanwhile : Bool → (old new : Flow A far) → (before after : Shown) → Type 0
  Meanwhile true old new before after = (acts : List Act) × FoldsTo Happens before acts after × By (taken_in acts) (given_in acts) old new
  Meanwhile false old new before after = GoesOn before.history after.history

  -- A connection that begins is one to a server, which holds a beginning of the history.
  abbrev pub Befalls : (old : Flow A far) → Deed A → (new : Flow A far) → (before after : Shown) → Type 0
  Befalls old (Made Written) new before after = Meanwhile old.course.channel.is_open old new before after
  Befalls old (Made (Looked look)) new before after = Meanwhile old.course.channel.is_open old new before after
  Befalls old (Made (Noted now happens.Opened)) new before after =
      (place : ℕ) × (place ≤ length before.history.transactions) × (after ≡ connected place before)
  Befalls old deed new before after = after ≡ before

  -- step after step
  abbrev pub Meets : (steps : List (Option (Deed A))) → (old new : Flow A far)
      → FoldsTo Passes old steps new → (before after : Shown) → Type 0
  Meets [] old new passes before after = after ≡ before
  Meets (Some deed ∷ steps) old new passes before after =
      (between : Shown) × Befalls old deed passes.0 before between × Meets steps passes.0 new passes.2 between after
  Meets (None ∷ steps) old new passes before after = Meets steps passes.0 new passes.2 before after
