-- The frames that a connection was sent, by the outputs and by what happened.
use Rattle.std.specs.Prelude.{ℕ, List, [], ◌∷◌, ◌++◌, reverse}
use Rattle.zk_turns.specs.Turns.{Output, Send, Enters, Item, Turned}
use Rattle.zk_session.specs.declared.states.State.{State}
use Rattle.zk_session.specs.declared.states.State.TheVariants.{Idle, Connecting}

-- the outputs of all turns, the newest first
abbrev pub outputs_of : List Item → List Output
outputs_of [] = []
outputs_of (Turned turn ∷ items) = reverse turn.outputs ++ outputs_of items
outputs_of (_ ∷ items) = outputs_of items

-- A connection's first frame was sent just before the state Connecting, the others after it.
abbrev pub sends : List Output → List (List ℕ)
sends [] = []
sends (Send bytes ∷ outputs) = sends outputs ++ bytes ∷ []
sends (Enters Connecting ∷ Send bytes ∷ outputs) = bytes ∷ []
sends (Enters Connecting ∷ outputs) = []
sends (_ ∷ outputs) = sends outputs

-- the state that was told last, Idle before any
abbrev pub told_state : List Output → State
told_state [] = Idle
told_state (Enters state ∷ outputs) = state
told_state (_ ∷ outputs) = told_state outputs
