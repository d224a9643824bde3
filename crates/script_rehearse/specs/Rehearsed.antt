-- What the lines of a rehearsal make of a history, and of a client with servers over it, and what they print.
use Rattle.std.specs.Prelude.{◌≡◌, ◌<ℤ◌, pos, unsigned_abs, ⊤, ℕ, ℤ, Bool, true, false, List, [], Some, Ok, Err}
use Rattle.zk_nodes.specs.Path.{Text}
use Rattle.script_words.specs.Pieces.{words_of}
use Rattle.script_words.specs.Said.{TakesSaid}
use Rattle.script_story.specs.Stories as story
use Rattle.zk_turns.specs.Ranges.{IsResumable}
use Rattle.zk_turns.specs.Turns.{new_start}
use Rattle.script_words.specs.declared.script_fault.ScriptFault.{ScriptFault}
use Rattle.script_rehearse.specs.BenchLines.{BenchValue, GoodLine}
use Rattle.script_rehearse.specs.RehearseLines.{RehearseValue, HistoryLine, BeginLine, BenchValueLine, says_at}
use Rattle.script_rehearse.specs.Scenes.{Scene, first_scene, DoesBench, HaltsBench, TellsAgreeing}

-- A history is told, and from the line on that makes the client there is a scene.
pub data Position : Type 0 where
  Told : story.Position → Position
  Staged : Scene → Position

abbrev pub is_begun : Position → Bool
is_begun (Told told) = false
is_begun (Staged scene) = true

-- The client is made, with a timeout in range and above 0, and the servers over the history so far.
abbrev pub Begins : ℤ → Position → Position → Type 0
Begins timeout (Told told) new =
    (new ≡ Staged (first_scene timeout told.history)) × (pos 0 <ℤ timeout) × IsResumable (new_start (unsigned_abs timeout))
Begins timeout (Staged scene) new = ⊥

abbrev pub DoesBenchLine : BenchValue → Position → Position → List ℕ → Type 0
DoesBenchLine value (Staged old) (Staged new) text = DoesBench value old new text
DoesBenchLine value old new text = ⊥

-- a line of the history makes it as in a script of its own
abbrev pub DoesHistory : Text → Position → Position → List ℕ → Type 0
DoesHistory line (Told old) (Told new) text = story.TakesLine line old new text
DoesHistory line old new text = ⊥

-- What a line does by what its words say, and what it prints.
abbrev pub Does : Text → RehearseValue → Position → Position → List ℕ → Type 0
Does line HistoryLine old new text = DoesHistory line old new text
Does line (BeginLine timeout) old new text = Begins timeout old new × (text ≡ [])
Does line (BenchValueLine value) old new text = DoesBenchLine value old new text

-- What a line makes of where a rehearsal stands, and what it prints.
abbrev pub TakesLine : Text → Position → Position → List ℕ → Type 0
TakesLine line old new text = TakesSaid (says_at (words_of line) (is_begun old)) (Does line) old new text

-- A line that looks the good answers up says of each that it agrees with the history.
abbrev pub Agrees : Text → Position → List ℕ → Type 0
Agrees line (Told told) text = ⊤
Agrees line (Staged scene) text = says_at (words_of line) true ≡ Ok (Some (BenchValueLine GoodLine)) → TellsAgreeing scene text

-- The client halts at what a line says that is one after the line that makes it.
abbrev pub HaltsBenchLine : BenchValue → Position → Position → Type 0
HaltsBenchLine value (Staged old) (Staged new) = HaltsBench value old new
HaltsBenchLine value old new = ⊥

-- So it does at a line.
pub record HaltsLine (line : Text) (old new : Position) : Type 0 where
  pub value : BenchValue
  pub says : says_at (words_of line) (is_begun old) ≡ Ok (Some (BenchValueLine value))
  pub halts : HaltsBenchLine value old new

-- A line of the history is refused as in a script of its own.
abbrev pub RefusesHistory : Text → Position → ScriptFault → Type 0
RefusesHistory line (Told told) fault = story.RefusesLine line told fault
RefusesHistory line (Staged scene) fault = ⊥

-- A line is refused by its words; or it is one of the history, and refused there.
pub data RefusesLine (line : Text) (old : Position) (fault : ScriptFault) : Type 0 where
  by_words : says_at (words_of line) (is_begun old) ≡ Err fault → RefusesLine line old fault
  by_history : says_at (words_of line) (is_begun old) ≡ Ok (Some HistoryLine) → RefusesHistory line old fault → RefusesLine line old fault
