-- A text, cut at the bytes of one value.
use Rattle.std.specs.Prelude.{ℕ, ◌==◌, Bool, not, if◌then◌else◌, List, [], ◌∷◌, ◌++◌, filter, length}

-- a list of pieces, with more bytes before its first
abbrev pub with_front : List ℕ → List (List ℕ) → List (List ℕ)
with_front front [] = front ∷ []
with_front front (piece ∷ pieces) = (front ++ piece) ∷ pieces

-- what stands between the separators
abbrev pub pieces_at : ℕ → List ℕ → List (List ℕ)
pieces_at separator [] = [] ∷ []
pieces_at separator (b ∷ bytes) = if b == separator then [] ∷ pieces_at separator bytes else with_front (b ∷ []) (pieces_at separator bytes)

abbrev pub is_some_word : List ℕ → Bool
is_some_word word = not (length word == 0)

-- the words of a line stand between spaces
abbrev pub words_of : List ℕ → List (List ℕ)
words_of line = filter is_some_word (pieces_at 32 line)
