-- What a whole script prints, line by line, up to the first line that is not done.
use Rattle.std.specs.Prelude.{◌≡◌, ⊤, ℕ, ◌+◌, List, [], ◌∷◌, ◌++◌, length, codes}
use Rattle.std.specs.Fmt.{decimal}
use Rattle.std.specs.List.{FoldsTo}
use Rattle.zk_nodes.specs.Path.{Text}
use Rattle.script_words.specs.declared.script.ScriptEnd.{ScriptEnd}
use Rattle.script_words.specs.declared.script.ScriptEnd.TheVariants as ends
use Rattle.script_words.specs.declared.script_fault.ScriptFault.{ScriptFault}
use Rattle.script_words.specs.declared.stop.LineStop.{LineStop}
use Rattle.script_words.specs.declared.stop.LineStop.TheVariants as stops
use Rattle.script_words.specs.Pieces.{pieces_at}
use Rattle.script_words.specs.ScriptFaults.{script_fault_text}

-- The rules of a kind of script: what a line that is taken makes of where the script stands, and what it prints; for which reason a
-- line is refused; and at which lines a client halts.
pub record Rules (S : Type 0) : Type 1 where
  pub Takes : Text → S → S → List ℕ → Type 0
  pub Refuses : Text → S → ScriptFault → Type 0
  pub Halts : Text → S → Type 0

-- how far a script has come: where it stands, and what was printed
pub record Progress (S : Type 0) : Type 0 where
  pub position : S
  pub printed : List ℕ

abbrev pub progress : {S : Type 0} → S → List ℕ → Progress S
progress position printed = record { position = position; printed = printed }

-- one line further: what it prints stands after what was printed
abbrev pub Goes : {S : Type 0} → Rules S → Progress S → Text → Progress S → Type 0
Goes rules old line new = (text : List ℕ) × rules.Takes line old.position new.position text × (new.printed ≡ old.printed ++ text)

-- Each of these lines is taken, in order, from here on: the text is what was printed before them, and what they print.
pub record Prints {S : Type 0} (rules : Rules S) (here : Progress S) (lines : List Text) (text : List ℕ) : Type 0 where
  pub end : S
  pub taken : FoldsTo (Goes rules) here lines (progress end text)

-- The first of them are taken, and the text is what these print: of no line a part.
pub record PrintsFirst {S : Type 0} (rules : Rules S) (here : Progress S) (lines : List Text) (text : List ℕ) : Type 0 where
  pub before : List Text
  pub behind : List Text
  pub are : lines ≡ before ++ behind
  pub prints : Prints rules here before text

-- Those before the line of this number, counted from 1, are taken, and that line is refused for this reason.
pub record StopsAt {S : Type 0} (rules : Rules S) (here : Progress S) (lines : List Text) (number : ℕ) (fault : ScriptFault)
    (text : List ℕ) : Type 0 where
  pub before : List Text
  pub line : Text
  pub behind : List Text
  pub are : lines ≡ before ++ line ∷ behind
  pub counted : number ≡ length before + 1
  pub prints : Prints rules here before text
  pub refused : rules.Refuses line prints.end fault

-- Those before one of them are taken, and at that one the client halts.
pub record HaltsIn {S : Type 0} (rules : Rules S) (here : Progress S) (lines : List Text) (text : List ℕ) : Type 0 where
  pub before : List Text
  pub line : Text
  pub behind : List Text
  pub are : lines ≡ before ++ line ∷ behind
  pub prints : Prints rules here before text
  pub halts : rules.Halts line prints.end

-- what lines printed from here on, by how they ended
abbrev pub IsTranscript : {S : Type 0} → Rules S → Progress S → List Text → List ℕ → ScriptEnd → Type 0
IsTranscript rules here lines text ends.Taken = Prints rules here lines text
IsTranscript rules here lines text (ends.Refused number why) = StopsAt rules here lines number why text
IsTranscript rules here lines text ends.Halted = HaltsIn rules here lines text
IsTranscript rules here lines text ends.Memory = PrintsFirst rules here lines text

-- why a line is not done, if memory did not run out elsewhere
abbrev pub IsDue : {S : Type 0} → Rules S → Text → S → LineStop → Type 0
IsDue rules line old (stops.Refused fault) = rules.Refuses line old fault
IsDue rules line old stops.Halted = rules.Halts line old
IsDue rules line old stops.Memory = ⊤

-- how lines end at the line of this number, which is not done
abbrev pub end_at : ℕ → LineStop → ScriptEnd
end_at number (stops.Refused why) = ends.Refused number why
end_at number stops.Halted = ends.Halted
end_at number stops.Memory = ends.Memory

-- the lines of a script, which end with newlines
abbrev pub lines_of : Text → List Text
lines_of script = pieces_at 10 script

-- how a refusal is told
abbrev pub refusal_text : ℕ → ScriptFault → List ℕ
refusal_text number fault = codes "line " ++ (decimal number ++ (codes ": " ++ (script_fault_text fault ++ 10 ∷ [])))
