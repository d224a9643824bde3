-- What a line knows of its calls without a look at each.
use Rattle.std.specs.Prelude.{◌≡◌, ◌<◌, ◌≤◌, ◌&&◌, nat_lt, ℕ, Bool, true, false, List, [], ◌∷◌, Option, Some, None, length, get_or}
use Rattle.std.specs.Prelude.{◌+◌, ◌==◌}
use Rattle.std.specs.List.{list_all, count_by}
use Rattle.std.specs.Ordering.{nat_cmp}
use Rattle.std.specs.BTreeMap.{get}
use Rattle.zk_calls.specs.declared.entry.Entry.{Entry}
use Rattle.zk_calls.specs.declared.limits.Limits.{Limits}
use Rattle.zk_calls.specs.Lines.{waits_turn}

-- whether each comes before all that follow it
abbrev pub in_order : {X : Type 0} → (before : X → X → Bool) → List X → Bool
in_order before [] = true
in_order before (x ∷ xs) = list_all (before x) xs && in_order before xs

-- whether the number of a call is below another one's
abbrev pub is_below : {A : Type 0} → (entry other : Entry A) → Bool
is_below entry other = nat_lt entry.ticket other.ticket

-- how many calls have a limit
abbrev pub calls_of : (more : Option ℕ) → ℕ
calls_of None = 0
calls_of (Some more) = more + 1

abbrev pub calls_at : {A : Type 0} → Limits A → (limit : ℕ) → ℕ
calls_at limits limit = calls_of (get nat_cmp limits.more limit)

-- whether a call that waits until then has this limit
abbrev pub is_limit : (limit : ℕ) → (until : Option ℕ) → Bool
is_limit limit None = false
is_limit limit (Some moment) = moment == limit

-- of each limit it is known how many calls have it
abbrev pub AreLimits : {A : Type 0} → Limits A → List (Entry A) → Type 0
AreLimits limits entries = (limit : ℕ) → calls_at limits limit ≡ count_by (λ entry. is_limit limit entry.until) entries

-- the first of them, this many, were handed over
abbrev pub AreHanded : {A : Type 0} → (count : ℕ) → List (Entry A) → Type 0
AreHanded {A} count entries = (count ≤ length entries) × ((k : ℕ) (d : Entry A) → k < count → waits_turn (get_or entries k d) ≡ false)
