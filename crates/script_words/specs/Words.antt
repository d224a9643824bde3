-- The words that are printed and read.
use Rattle.std.specs.Prelude.{ℕ, ◌+◌, ◌/◌, ◌%◌, ◌==◌, ◌&&◌, not, nat_le, nat_lt, Bool, true, false, if◌then◌else◌, List, [], ◌∷◌, codes}
use Rattle.std.specs.Prelude.{Option, Some, None}
use Rattle.std.specs.List.{flat_map}
use Rattle.hex.specs.Hex.{encode_lower}

-- a digit of hex, in lower case
abbrev pub hex_digit : ℕ → ℕ
hex_digit n = if nat_lt n 10 then 48 + n else 87 + n

-- a byte that is written as itself: printable, no space and no backslash
abbrev pub is_plain : ℕ → Bool
is_plain b = nat_le 33 b && (nat_le b 126 && not (b == 92))

-- a backslash, an x and two digits
abbrev pub escape : ℕ → List ℕ
escape b = 92 ∷ (120 ∷ (hex_digit (b / 16) ∷ (hex_digit (b % 16) ∷ [])))

-- what is written for a byte in the word of a text
unfoldable pub byte_text : ℕ → List ℕ
byte_text b = if is_plain b then b ∷ [] else escape b

abbrev pub bytes_text : List ℕ → List ℕ
bytes_text bytes = flat_map byte_text bytes

-- null, the empty text, or what is written for each byte
abbrev pub text_word : Option (List ℕ) → List ℕ
text_word None = codes "\\0"
text_word (Some []) = codes "\\e"
text_word (Some (b ∷ bytes)) = bytes_text (b ∷ bytes)

abbrev pub bytes_word : Option (List ℕ) → List ℕ
bytes_word None = codes "\\0"
bytes_word (Some []) = codes "\\e"
bytes_word (Some (b ∷ bytes)) = encode_lower (b ∷ bytes)

abbrev pub boolean_word : Bool → List ℕ
boolean_word false = codes "0"
boolean_word true = codes "1"

abbrev pub optional_boolean_word : Option Bool → List ℕ
optional_boolean_word None = codes "-"
optional_boolean_word (Some b) = boolean_word b
