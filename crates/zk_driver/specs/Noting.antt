-- What has happened to connections, note by note.
use Rattle.std.specs.Prelude.{◌≡◌, Bool, true, false, List, [], ◌∷◌, Option, Some, None}
use Rattle.std.specs.List.{flat_map, FoldsTo}
use Rattle.zk_client.specs.Clients.{view_of}
use Rattle.zk_agent.specs.declared.action.Action.{Action}
use Rattle.zk_agent.specs.declared.input.AgentInput.{AgentInput}
use Rattle.zk_agent.specs.declared.input.AgentInput.TheVariants as happens
use Rattle.zk_agent.specs.Agents.{IsLed}
use Rattle.zk_driver.specs.declared.turn.Turn.{Turn}
use Rattle.zk_driver.specs.declared.turn.Turn.TheVariants as turn
use Rattle.zk_driver.specs.Driving.{AreFollowed, Course, Does, IsShutAgent, Move, Written, Looked, Noted}

-- a connection that was asked for is there; one could not be made; one is over
pub data Note : Type 0 where
  Made Missed Lost : Note

abbrev pub notes_in : {A : Type 0} → AgentInput A → List Note
notes_in happens.Opened = Made ∷ []
notes_in happens.Failed = Missed ∷ []
notes_in happens.Cut = Lost ∷ []
notes_in input = []

abbrev pub notes_by : {A : Type 0} → Move A → List Note
notes_by Written = []
notes_by (Looked look) = []
notes_by (Noted now input) = notes_in input

-- Moves, the oldest first, in which the agent was told this of connections, and nothing else of them.
pub record GoesBy {A : Type 0} (notes : List Note) (old new : Course A) : Type 0 where
  pub moves : List (Move A)
  pub does : FoldsTo Does old moves new
  pub are : flat_map notes_by moves ≡ notes
  pub followed : AreFollowed old.agent → AreFollowed new.agent
  pub led : IsLed (view_of old.agent.asker.follower.client) → IsLed (view_of new.agent.asker.follower.client)
  pub shut : IsShutAgent old.agent → IsShutAgent new.agent

abbrev pub notes_of : {A : Type 0} → Turn A → List Note
notes_of turn.Opened = Made ∷ []
notes_of (turn.Failed why) = Missed ∷ []
notes_of (turn.Ended why) = Lost ∷ []
notes_of turn = []

abbrev pub passed_in : {A : Type 0} → Turn A → Option (Action A)
passed_in (turn.Told action) = Some action
passed_in turn = None

abbrev pub is_come : {A : Type 0} → Turn A → Bool
is_come turn.Come = true
is_come turn = false
