-- Which writes a store takes, by their tokens.
use Rattle.std.specs.Prelude.{ℤ, Bool, true, not, int_lt, if◌then◌else◌, List, [], ◌∷◌, Option, Some, None}

-- whether a store whose greatest token is this one takes a write with a token
abbrev pub is_taken : (greatest : Option ℤ) → (token : ℤ) → Bool
is_taken None token = true
is_taken (Some greatest) token = not (int_lt token greatest)

-- the greatest token after it
abbrev pub greatest_after : (greatest : Option ℤ) → (token : ℤ) → Option ℤ
greatest_after greatest token = if is_taken greatest token then Some token else greatest

-- the greatest token after writes with these, the first one first
abbrev pub after_all : List ℤ → (greatest : Option ℤ) → Option ℤ
after_all [] greatest = greatest
after_all (token ∷ tokens) greatest = after_all tokens (greatest_after greatest token)
