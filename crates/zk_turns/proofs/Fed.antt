-- What bytes do that come piece by piece, in the words of `theory_pieces`. The client's own proofs name it too.
use Rattle.zk_turns.specs.Past.{Happening}
use Rattle.std.specs.Prelude.{◌≡◌, ℕ, false, List, [], ◌∷◌, ◌++◌}
use Rattle.zk_turns.specs.View.{View}
use Rattle.zk_turns.specs.Taken.{reading}
use Rattle.zk_turns.specs.Rule.{heard_now, IsOpen}

-- the view after bytes that make no frame whole
abbrev pub fed : View → List ℕ → View
fed view [] = view
fed view (byte ∷ bytes) = record view { moments = heard_now view; held = view.held ++ byte ∷ bytes }

pub record Hears (view : View) : Type 0 where
  pub up : IsOpen view.standing.state
  pub goes_on : view.standing.halted ≡ false

-- the view, where something is heard
abbrev pub heard : View → View
heard view = record view { moments = heard_now view }

-- what a payload makes happen
abbrev pub arrival : View → List ℕ → Happening
arrival view payload = reading view.standing.state view.pending view.saved.last payload
