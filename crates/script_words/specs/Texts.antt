-- The bytes that the word of a text means.
use Rattle.std.specs.Prelude.{ℕ, ◌+◌, ◌-◌, ◌*◌, ◌%◌, ◌==◌, ◌&&◌, nat_le, if◌then◌else◌, List, [], ◌∷◌, ◌++◌, Option, Some, None}
use Rattle.std.specs.Prelude.{option_and_then, option_map}
use Rattle.std.specs.Option.{option_to_list}
use Rattle.script_words.specs.declared.texts.Place.{Place}
use Rattle.script_words.specs.declared.texts.Place.TheVariants.{Plain, Backslash, Letter, Digit}

-- the value of a digit of hex, in either case
abbrev pub digit_of : ℕ → Option ℕ
digit_of b =
    if nat_le 48 b && nat_le b 57 then Some (b - 48)
    else (if nat_le 97 b && nat_le b 102 then Some (b - 97 + 10)
    else (if nat_le 65 b && nat_le b 70 then Some (b - 65 + 10) else None))

-- where the reader stands after one more byte, and the byte of the text that this ends
abbrev pub step : Place → ℕ → Option (Place × Option ℕ)
step Plain b = if b == 92 then Some (Backslash, None) else Some (Plain, Some b)
step Backslash b = if b == 120 then Some (Letter, None) else None
step Letter b = option_map (λ d. (Digit d, None)) (digit_of b)
step (Digit high) b = option_map (λ low. (Plain, Some ((16 * high + low) % 256))) (digit_of b)

-- what may stand at the end of a word
abbrev pub ended : Place → Option (List ℕ)
ended Plain = Some []
ended place = None

abbrev pub unescape : Place → List ℕ → Option (List ℕ)
unescape place [] = ended place
unescape place (b ∷ bytes) = option_and_then (λ s. option_map (λ text. option_to_list s.1 ++ text) (unescape s.0 bytes)) (step place b)
