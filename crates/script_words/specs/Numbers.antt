-- Numbers in decimal, without a zero before other digits.
use Rattle.std.specs.Prelude.{ℕ, ◌+◌, ◌-◌, ◌*◌, ◌==◌, ◌&&◌, Bool, nat_le, if◌then◌else◌, List, [], ◌∷◌, Option, Some, None, option_and_then}

abbrev pub is_digit : ℕ → Bool
is_digit b = nat_le 48 b && nat_le b 57

-- the number with one more digit, if that is not above the limit
abbrev pub with_digit : ℕ → ℕ → ℕ → Option ℕ
with_digit limit number b = if is_digit b && nat_le (10 * number + (b - 48)) limit then Some (10 * number + (b - 48)) else None

-- the number with more digits
abbrev pub digits_onto : ℕ → ℕ → List ℕ → Option ℕ
digits_onto limit number [] = Some number
digits_onto limit number (b ∷ bytes) = option_and_then (λ n. digits_onto limit n bytes) (with_digit limit number b)

-- the number that a word means
abbrev pub natural_of : ℕ → List ℕ → Option ℕ
natural_of limit [] = None
natural_of limit (b ∷ []) = digits_onto limit 0 (b ∷ [])
natural_of limit (b ∷ c ∷ bytes) = if b == 48 then None else digits_onto limit 0 (b ∷ c ∷ bytes)
