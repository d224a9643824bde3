-- The lines of a capture, and what is told at each.
use Rattle.std.specs.Prelude.{◌≡◌, ℕ, if◌then◌else◌, List, [], ◌∷◌, ◌++◌, codes, bytes_eq, Option, Some, None, Result, Ok, Err}
use Rattle.zk_nodes.specs.Path.{Text}
use Rattle.script_words.specs.Pieces.{words_of}
use Rattle.std.specs.Option.{ok_or}
use Rattle.script_words.specs.Reads.{◌>>=◌, alone, data_at, named, only}
use Rattle.script_words.specs.Said.{says_by, TakesSaid}
use Rattle.script_words.specs.Scripts.{IsTranscript, Rules, progress}
use Rattle.script_words.specs.declared.script.ScriptEnd.{ScriptEnd}
use Rattle.script_words.specs.declared.script_fault.ScriptFault.{ScriptFault}
use Rattle.script_words.specs.declared.script_fault.ScriptFault.TheVariants.{Unknown, Hex}
use Rattle.script_stream.specs.declared.line.CaptureLine.TheVariants as lines
use Rattle.script_stream.specs.declared.way.Way.{Way}
use Rattle.script_stream.specs.declared.way.Way.TheVariants.{Client, Server}
use Rattle.script_stream.specs.Streams.{Hears, Position, first_position, left_line}
use Rattle.script_stream.specs.Ways.{way_of}

-- Bytes came in a direction, a connection begins, nothing is said of a frame, or the capture ends.
pub data Says : Type 0 where
  Came : Way → List ℕ → Says
  Opens : Says
  Passes : Says
  Over : Says

-- bytes, and null is none
abbrev pub some_bytes : Option (List ℕ) → Result (List ℕ) ScriptFault
some_bytes (Some bytes) = Ok bytes
some_bytes None = Err Hex

unfoldable pub bytes_at : Text → Result (List ℕ) ScriptFault
bytes_at word = data_at word >>= some_bytes

unfoldable pub came_at : Way → List Text → Result Says ScriptFault
came_at way words = do
  word ← only words
  bytes ← bytes_at word
  Ok (Came way bytes)

-- the lines of a record that have no bytes of a connection
abbrev pub record_of : Text → Option Says
record_of word =
    named ((codes "opened", Opens) ∷ (codes "cut", Passes) ∷ (codes "now", Passes) ∷ (codes "call", Passes) ∷ (codes "timeout", Passes)
    ∷ (codes "resume", Passes) ∷ []) word

abbrev pub over_at : Text → List Text → Result Says ScriptFault
over_at first words = if bytes_eq first (codes "end") then alone Over words else ok_or (record_of first) Unknown

abbrev pub line_by : Option Way → Text → List Text → Result Says ScriptFault
line_by (Some way) first words = came_at way words
line_by None first words = over_at first words

-- what the words of a line say: nothing where there are none, and for a remark
abbrev pub said : List Text → Result (Option Says) ScriptFault
said words = says_by (λ first behind. line_by (way_of first) first behind) words

-- what is told of a connection from which nothing comes any more
abbrev pub left_of : Position → List ℕ
left_of old = left_line Client old.client.place old.client.came ++ left_line Server old.server.place old.server.came

-- what is told
abbrev pub Does : Says → Position → Position → List ℕ → Type 0
Does (Came Client bytes) old new text = Hears Client bytes old.client old.asked new.client new.asked text × (new.server ≡ old.server)
Does (Came Server bytes) old new text = Hears Server bytes old.server old.asked new.server new.asked text × (new.client ≡ old.client)
Does Opens old new text = (new ≡ first_position) × (text ≡ left_of old)
Does Passes old new text = (new ≡ old) × (text ≡ [])
Does Over old new text = (new ≡ old) × (text ≡ left_of old)

abbrev pub TakesLine : Text → Position → Position → List ℕ → Type 0
TakesLine line old new text = TakesSaid (said (words_of line)) Does old new text

abbrev pub rules : Rules Position
rules = record { Takes = TakesLine; Refuses = λ line old fault. said (words_of line) ≡ Err fault; Halts = λ line old. ⊥ }

-- What is printed of the lines of a capture, whose end is told after them, by how they ended.
abbrev pub IsShown : List Text → List ℕ → ScriptEnd → Type 0
IsShown lines text end = IsTranscript rules (progress first_position []) (lines ++ codes "end" ∷ []) text end
