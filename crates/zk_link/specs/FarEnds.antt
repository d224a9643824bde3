-- What is at the far end of a connection, and what goes through it.
use Rattle.std.specs.Prelude.{◌≡◌, ⊤, ℕ, List, [], ◌++◌, take, Option, Some, None, Result, Ok, Err}
use Rattle.std.specs.List.{flat_map, FoldsTo}
use Rattle.std.specs.Io.KnownBytes.{Consumes}
use Rattle.zk_link.specs.Streams.{Sends}

-- What may be at the far end: the states of that, in which of them a connection may begin, and which follows which while the stream takes
-- these bytes and gives those.
pub record FarEnd : Type 1 where
  pub State : Type 0
  pub begins : State → Type 0
  pub does : State → (took gave : List ℕ) → State → Type 0

-- an end of which nothing is known
abbrev pub any_end : FarEnd
any_end = record { State = Unit {0}; begins = λ _. ⊤; does = λ _ _ _ _. ⊤ }

-- the first bytes of a buffer, as many as a read brought or a write took, and none where it failed
abbrev pub front_by : {E : Type 0} → Result ℕ E → List ℕ → List ℕ
front_by (Ok count) buffer = take count buffer
front_by (Err fault) buffer = []

-- One state after the other follows, and together the stream took these bytes, and gave those.
pub record Goes (far : FarEnd) (taken given : List ℕ) (old new : far.State) : Type 0 where
  pub steps : List (List ℕ × List ℕ)
  pub does : FoldsTo (λ before step after. far.does before step.0 step.1 after) old steps new
  pub took : flat_map (λ (step : List ℕ × List ℕ). step.0) steps ≡ taken
  pub gave : flat_map (λ (step : List ℕ × List ℕ). step.1) steps ≡ given

-- So it goes where there is a connection, which is there before and after.
abbrev pub Went : (far : FarEnd) → (taken given : List ℕ) → (before after : Option far.State) → Type 0
Went far taken given (Some old) (Some new) = Goes far taken given old new
Went far taken given None None = ⊤
Went far taken given before after = ⊥

-- What leaves the front of what is unsent went to the far end, and this piece came from there.
abbrev pub Trades : (far : FarEnd) → (unsent rest piece : List ℕ) → (before after : Option far.State) → Type 0
Trades far unsent rest piece before after = (written : List ℕ) × (unsent ≡ written ++ rest) × Went far written piece before after

-- the state in which a connection is, if there is one, is one in which it may begin
abbrev pub Begun : (far : FarEnd) → Option far.State → Type 0
Begun far None = ⊥
Begun far (Some state) = far.begins state

-- What is known of a connection: what its stream has still to give, and what it took, each where it knows that; and the state of its far
-- end.
pub record Reached (far : FarEnd) : Type 0 where
  pub left : Option (List ℕ)
  pub took : Option (List ℕ)
  pub end : Option far.State

abbrev pub reached_of : {S : Type 0} → (remaining contents : S → Option (List ℕ)) → (far : FarEnd) → (state : S → far.State) → Option S
    → Reached far
reached_of remaining contents far state None = record { left = None; took = None; end = None }
reached_of remaining contents far state (Some stream) =
    record { left = remaining stream; took = contents stream; end = Some (state stream) }

-- Some of what is unsent is written, and these bytes are read: the first ones that the stream had to give. So it goes at the far end.
pub record Reaches {far : FarEnd} (unsent rest : List ℕ) (old new : Reached far) (piece : List ℕ) : Type 0 where
  pub sends : Sends unsent rest old.took new.took
  pub gives : Consumes old.left new.left piece
  pub trades : Trades far unsent rest piece old.end new.end
