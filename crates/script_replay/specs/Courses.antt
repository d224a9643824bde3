-- What the lines of a replay print by all that they make happen: each input is a turn with the outputs that are due, and a look-up
-- prints what the definitions give for the whole past. No client is named here, except where it is said that one is there.
use Rattle.std.specs.Prelude.{◌≡◌, ⊤, is_some, ℕ, List, [], ◌∷◌, Option, Some, None}
use Rattle.zk_nodes.specs.Path.{Text}
use Rattle.zk_turns.specs.Turns.{Input, Output, Start, Item, Turned, Forgets, signals_of}
use Rattle.zk_turns.specs.Past.{Past}
use Rattle.zk_turns.specs.View.{View, view_at}
use Rattle.zk_turns.specs.Taken.{past_of}
use Rattle.zk_turns.specs.Rule.{Stands, due_signals}
use Rattle.script_words.specs.Pieces.{words_of}
use Rattle.script_words.specs.Said.{TakesSaid}
use Rattle.script_replay.specs.ClientLines.{ClientValue}
use Rattle.script_replay.specs.ReplayLines.{DriveValue, ReplayValue, Begins, Drives, says_at}
use Rattle.script_replay.specs.Shown.{TellsAll}
use Rattle.script_replay.specs.Played.{start_of, DoesBy, DrivesBy, GoesOn}

-- What a client began with, and what has happened to it since, the newest first.
pub record Course : Type 0 where
  pub start : Start
  pub items : List Item

abbrev pub past_in : Course → Past
past_in course = past_of course.start course.items

abbrev pub and_then : Course → Item → Course
and_then course item = record { start = course.start; items = item ∷ course.items }

-- what an input makes due there
abbrev pub due_to : Course → Input → List Output
due_to course input = due_signals course.start (past_in course) (signals_of input)

-- An input is one more turn, with the outputs that are due, and the text tells these.
pub record AddsTurn (input : Input) (old new : Course) (text : List ℕ) : Type 0 where
  pub next : new ≡ and_then old (Turned (record { input = input; outputs = due_to old input }))
  pub told : TellsAll (due_to old input) text

-- What a line adds to what has happened, and what it prints.
abbrev pub AddsClient : ClientValue → Course → Course → List ℕ → Type 0
AddsClient value old new text =
    DoesBy AddsTurn (λ course. view_at course.start (past_in course)) (λ course. and_then course Forgets) value old new text

abbrev pub AddsDrive : DriveValue → Course → Course → List ℕ → Type 0
AddsDrive value old new text = DrivesBy AddsTurn AddsClient value old new text

-- the line that makes the client begins the course, and each after it goes on with one that had begun
abbrev pub Adds : ReplayValue → Option Course → Option Course → List ℕ → Type 0
Adds (Begins value) old new text = (old ≡ None) × (new ≡ Some (record { start = start_of value; items = [] })) × (text ≡ [])
Adds (Drives value) old new text = GoesOn (AddsDrive value) old new text

-- What the words of a line say is added, and printed.
abbrev pub AddsLine : Text → Option Course → Option Course → List ℕ → Type 0
AddsLine line old new text = TakesSaid (says_at (words_of line) (is_some old)) Adds old new text

-- A client stands where a course has led, once there is one.
abbrev pub StandsBy : Option Course → Option View → Type 0
StandsBy None None = ⊤
StandsBy None (Some view) = ⊥
StandsBy (Some course) None = ⊥
StandsBy (Some course) (Some view) = Stands course.start course.items view
