-- What the lines of a script say of the client that is to be made.
use Rattle.std.specs.Prelude.{◌≡◌, ⊤, ℕ, ◌+◌, List, [], ◌∷◌, Option, Some, None, Result, Ok, Err}
use Rattle.zk_nodes.specs.Path.{Text}
use Rattle.script_words.specs.Pieces.{words_of}
use Rattle.script_words.specs.declared.script.ScriptEnd.{ScriptEnd}
use Rattle.script_words.specs.declared.script.ScriptEnd.TheVariants.{Taken, Refused, Halted, Memory}
use Rattle.script_words.specs.declared.script_fault.ScriptFault.{ScriptFault}
use Rattle.script_replay.specs.ReplayLines.{BeginValue}
use Rattle.script_live.specs.LiveLines.{begins_at, fresh}

-- A client to make; or the line of this number, counted from 1, which is the first that stands, is refused.
pub data Begun : Type 0 where
  Begins : BeginValue → Begun
  Spoilt : ℕ → ScriptFault → Begun

-- by a line and its number, and the lines after it
abbrev pub decided : ℕ → Result (Option BeginValue) ScriptFault → Begun → Begun
decided number (Ok None) behind = behind
decided number (Ok (Some value)) behind = Begins value
decided number (Err fault) behind = Spoilt number fault

-- the first line that stands decides
abbrev pub begun_from : ℕ → List Text → Begun
begun_from number [] = Begins fresh
begun_from number (line ∷ lines) = decided number (begins_at (words_of line)) (begun_from (number + 1) lines)

abbrev pub begun_by : List Text → Begun
begun_by lines = begun_from 1 lines

-- Nothing was printed: the first line that stands is refused, so that there is no client, or memory ran out.
abbrev pub Nothing : List Text → ScriptEnd → Type 0
Nothing lines Taken = ⊥
Nothing lines (Refused number why) = begun_by lines ≡ Spoilt number why
Nothing lines Halted = ⊥
Nothing lines Memory = ⊤
