-- A random order.
use Rattle.std.specs.Prelude.{Bool, true, false, nat_lt, if◌then◌else◌, ℕ, zero, suc, List, [], ◌∷◌, ◌++◌, swap}
use Rattle.zk_dialler.specs.Chances.{next_state, number_below}

-- the numbers below this one, in order
abbrev pub numbers : ℕ → List ℕ
numbers zero = []
numbers (suc count) = numbers count ++ count ∷ []

-- Each of the first places, this many, from the last of them on, is exchanged with one up to it.
abbrev pub shuffled : (state left : ℕ) → List ℕ → List ℕ
shuffled state zero order = order
shuffled state (suc left) order = shuffled (next_state state) left (swap order left (number_below (suc left) (next_state state)))

abbrev pub is_empty_list : List ℕ → Bool
is_empty_list [] = true
is_empty_list (place ∷ places) = false

-- the turn after the last of this many is the first one's
abbrev pub turn_at : (next count : ℕ) → ℕ
turn_at next count = if nat_lt next count then next else 0
