-- Which sessions move when the list of addresses changes, so that in the long run each server has as many sessions as any other.
use Rattle.std.specs.Prelude.{ℕ, zero, suc, ◌-◌, Bool, true, false, not, ◌&&◌, ◌||◌, nat_lt, List, ◌++◌}
use Rattle.std.specs.List.{filter}
use Rattle.zk_dialler.specs.Chances.{next_state, number_below}

-- whether a random number below the whole is below the part: by a chance of part / whole, and never if the whole is nothing
abbrev pub falls_in : (part whole state : ℕ) → Bool
falls_in part zero state = false
falls_in part (suc rest) state = nat_lt (number_below (suc rest) state) part

-- Whether a session moves, when `count` addresses take the place of `before`. If its server is in both lists it moves by a chance of
-- (count - before) / count, so never if the list has not grown. If its server has left the list it moves.
abbrev pub moves_by : (before count : ℕ) → (is_listed : Bool) → (state : ℕ) → Bool
moves_by before count is_listed state = not is_listed || falls_in (count - before) count state

-- Whether a session that moves tries the addresses that were in the list before, which are the first `kept`, ahead of the new ones: by a
-- chance of kept / count times (before - count) / (before - kept), so never if the list has grown.
abbrev pub tries_kept : (before kept count state : ℕ) → Bool
tries_kept before kept count state = falls_in kept count state && falls_in (before - count) (before - kept) (next_state state)

-- whether a place is in the group that is tried first
abbrev pub is_ahead : (kept : ℕ) → (kept_first : Bool) → (place : ℕ) → Bool
is_ahead kept true place = nat_lt place kept
is_ahead kept false place = not (nat_lt place kept)

-- one group before the other, each in the order that it had
abbrev pub grouped : (kept : ℕ) → (kept_first : Bool) → List ℕ → List ℕ
grouped kept kept_first order = filter (is_ahead kept kept_first) order ++ filter (λ place. not (is_ahead kept kept_first place)) order

-- A session that stays has no group ahead.
abbrev pub order_of : (moves kept_first : Bool) → (kept : ℕ) → List ℕ → List ℕ
order_of false kept_first kept order = order
order_of true kept_first kept order = grouped kept kept_first order
