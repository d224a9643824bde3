-- Random numbers, as a function of the seed.
use Rattle.std.specs.Prelude.{ℕ, zero, suc, ◌+◌, ◌*◌, ◌/◌, ◌%◌, ◌^◌}

-- the state after this one
abbrev pub next_state : ℕ → ℕ
next_state state = (state * 6364136223846793005 % 2 ^ 64 + 1442695040888963407) % 2 ^ 64

-- the number of a state, below this one
abbrev pub number_below : (bound state : ℕ) → ℕ
number_below bound state = state / 8589934592 % bound

-- the state after this many numbers
abbrev pub state_after : (count state : ℕ) → ℕ
state_after zero state = state
state_after (suc count) state = state_after count (next_state state)
