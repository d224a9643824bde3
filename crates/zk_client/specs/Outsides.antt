-- What a client is run against, as far as it tells its turns.
use Rattle.std.specs.Prelude.{◌≡◌, List, [], ◌∷◌, ◌++◌, map, reverse, Option, Some, None}
use Rattle.zk_turns.specs.Turns.{Input, Output, Turn}

-- The inputs still to come, the one that was handed out and has no outputs yet, and the turns, the newest first.
pub record Told : Type 0 where
  pub coming : List Input
  pub asked : Option Input
  pub turns : List Turn

-- The next input is the first of those still to come. None is handed out only where none is left.
abbrev pub HandsOut : Option Told → Option Input → Option Told → Type 0
HandsOut None input new = new ≡ None
HandsOut (Some old) None new = (old.coming ≡ []) × (new ≡ Some old)
HandsOut (Some old) (Some input) new =
    (rest : List Input) × (old.coming ≡ input ∷ rest) × (new ≡ Some (record { coming = rest; asked = Some input; turns = old.turns }))

-- The outputs are those of the input that was handed out: one more turn is told.
abbrev pub IsGiven : Option Told → List Output → Option Told → Type 0
IsGiven None outputs new = new ≡ None
IsGiven (Some old) outputs new = new ≡ Some (elim old.asked [
  | None ↦ old
  | Some input ↦ record { coming = old.coming; asked = None; turns = record { input = input; outputs = outputs } ∷ old.turns }
])

-- The inputs that were handed out are those of these turns, which are told, and then these, which are no turns.
abbrev pub TellsAll : Option Told → List Turn → List Input → Option Told → Type 0
TellsAll None turns others new = new ≡ None
TellsAll (Some old) turns others None = ⊥
TellsAll (Some old) turns others (Some new) =
    (old.coming ≡ reverse (map (λ turn. turn.input) turns) ++ (others ++ new.coming)) × (new.turns ≡ turns ++ old.turns)
