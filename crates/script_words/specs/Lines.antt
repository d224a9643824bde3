-- The lines that are printed.
use Rattle.std.specs.Prelude.{◌≡◌, ℕ, List, [], ◌∷◌, ◌++◌}

-- a name and a word, with a space between them and a newline after them
unfoldable pub line : List ℕ → List ℕ → List ℕ
line name word = name ++ 32 ∷ (word ++ 10 ∷ [])

-- What is printed of each, in order.
abbrev pub TellsInOrder : {X : Type 0} → (X → List ℕ → Type 0) → List X → List ℕ → Type 0
TellsInOrder Tells [] text = text ≡ []
TellsInOrder Tells (x ∷ xs) text = (first rest : List ℕ) × Tells x first × TellsInOrder Tells xs rest × (text ≡ first ++ rest)
