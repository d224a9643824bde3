-- What a line says by its words, and what it does by what it says.
use Rattle.std.specs.Prelude.{◌≡◌, ℕ, ◌==◌, Bool, false, if◌then◌else◌, List, [], ◌∷◌, Option, Some, None, Result, Ok, Err}
use Rattle.zk_nodes.specs.Path.{Text}
use Rattle.script_words.specs.declared.script_fault.ScriptFault.{ScriptFault}

-- a remark begins with #
abbrev pub is_remark : Text → Bool
is_remark [] = false
is_remark (b ∷ bytes) = b == 35

abbrev pub something : {X : Type 0} → Result X ScriptFault → Result (Option X) ScriptFault
something (Ok value) = Ok (Some value)
something (Err fault) = Err fault

-- the first word of a line and those after it, unless there are none or it is a remark
abbrev pub split_keyword : List Text → Option (Text × List Text)
split_keyword [] = None
split_keyword (first ∷ words) = if is_remark first then None else Some (first, words)

abbrev pub says_split : {X : Type 0} → (Text → List Text → Result X ScriptFault) → Option (Text × List Text) → Result (Option X) ScriptFault
says_split reading None = Ok None
says_split reading (Some line) = something (reading line.0 line.1)

-- What the words of a line say, by the first and those after it: nothing where there are none and for a remark.
abbrev pub says_by : {X : Type 0} → (Text → List Text → Result X ScriptFault) → List Text → Result (Option X) ScriptFault
says_by reading words = says_split reading (split_keyword words)

-- nothing changes nothing and prints nothing
abbrev pub DoesSome : {X S : Type 0} → (X → S → S → List ℕ → Type 0) → Option X → S → S → List ℕ → Type 0
DoesSome Does None old new text = (new ≡ old) × (text ≡ [])
DoesSome Does (Some value) old new text = Does value old new text

-- A line is taken: what it says is done, where it says something.
pub record TakesSaid {X S : Type 0} (said : Result (Option X) ScriptFault) (Does : X → S → S → List ℕ → Type 0) (old new : S)
    (text : List ℕ) : Type 0 where
  pub what : Option X
  pub says : said ≡ Ok what
  pub does : DoesSome Does what old new text
