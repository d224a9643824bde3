-- The words of a line: names, and values after them.
use Rattle.std.specs.Prelude.{ℕ, ℤ, List, ◌∷◌, ◌++◌, length, codes, Option, Some, None}
use Rattle.std.specs.Fmt.{decimal, signed_decimal}

-- a name and a word, with a space before each
unfoldable pub named : (name word : List ℕ) → List ℕ
named name word = 32 ∷ (name ++ 32 ∷ word)

-- a name, and a number after it
abbrev pub numbered : List ℕ → ℤ → List ℕ
numbered name z = named name (signed_decimal z)

-- how many bytes data are, or null
abbrev pub size_word : Option (List ℕ) → List ℕ
size_word None = codes "\\0"
size_word (Some bytes) = decimal (length bytes) ++ codes " bytes"

-- how many there are, or null
abbrev pub count_word : {X : Type 0} → Option (List X) → List ℕ
count_word None = codes "\\0"
count_word (Some values) = decimal (length values)
