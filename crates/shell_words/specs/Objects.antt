-- The members of an object of JSON.
use Rattle.std.specs.Prelude.{ℕ, ℤ, if◌then◌else◌, List, [], ◌∷◌, codes, Option, Some, None}
use Rattle.std.specs.Fmt.{signed_decimal}
use Rattle.std.specs.List.{flat_map}
use Rattle.std.specs.Str.{is_utf8}
use Rattle.json.specs.Token as json
use Rattle.script_words.specs.Words.{bytes_word}

abbrev pub text_members : (name text : List ℕ) → List json.Token
text_members name text = json.key name ∷ (json.string text ∷ [])

abbrev pub number_members : (name : List ℕ) → ℤ → List json.Token
number_members name number = json.key name ∷ (json.number (signed_decimal number) ∷ [])

-- data as a text where they are UTF-8, else in hex under another key, or null
abbrev pub data_members : Option (List ℕ) → List json.Token
data_members None = json.key (codes "data") ∷ (json.null ∷ [])
data_members (Some bytes) =
    if is_utf8 bytes then text_members (codes "data") bytes else text_members (codes "hex") (bytes_word (Some bytes))

-- numbers with their names
abbrev pub field_members : List (List ℕ × ℤ) → List json.Token
field_members fields = flat_map (λ field. number_members field.0 field.1) fields
