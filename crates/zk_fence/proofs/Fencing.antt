-- The greatest token never falls: so a token below one that was taken is refused from then on.
use Rattle.std.proofs.lemmas.Int.{ints}
use Rattle.std.proofs.Common.{◌≡◌, ℤ, ◌≤ℤ◌, Bool, true, false, List, [], ◌∷◌, refl, sym, ap, subst, ◌∙◌, arith}
use Rattle.std.specs.Prelude.{Option, Some, not, int_lt, if◌then◌else◌}
use Rattle.std.specs.Int.Signed.{≤ℤ_refl}
use Rattle.zk_fence.specs.Fences.{after_all, greatest_after, is_taken}
use Rattle.zk_fence.specs.Fenced.{IsFencedFrom, SmallerIsRefused}

-- a store's greatest token, which is not below this one
record IsAbove (later : ℤ) (greatest : Option ℤ) : Type 0 where
  token : ℤ
  is : greatest ≡ Some token
  above : later ≤ℤ token

-- a write moves it nowhere below
above_after : (later greatest token : ℤ) → later ≤ℤ greatest → IsAbove later (greatest_after (Some greatest) token)
above_after later greatest token le = by (int_lt token greatest) refl
  where
    by : (b : Bool) → int_lt token greatest ≡ b → IsAbove later (greatest_after (Some greatest) token)
    by true e = record { token = greatest; is = ap (λ c. if not c then Some token else Some greatest) e; above = le }
    by false e = record { token = token; is = ap (λ c. if not c then Some token else Some greatest) e; above = grind (arith, ints) }

above_all : (later : ℤ) (between : List ℤ) (greatest : Option ℤ) → IsAbove later greatest → IsAbove later (after_all between greatest)
above_all later [] greatest h = h
above_all later (token ∷ tokens) greatest h =
    above_all later tokens (greatest_after greatest token)
    (subst (λ g. IsAbove later (greatest_after g token)) (sym h.is) (above_after later h.token token h.above))

-- a token that was taken is the greatest
taken_is_greatest : (greatest : Option ℤ) (later : ℤ) → is_taken greatest later ≡ true → greatest_after greatest later ≡ Some later
taken_is_greatest greatest later e = ap (λ c. if c then Some later else greatest) e

-- what a store's greatest token says of one that is asked
taken_is_above : (greatest : Option ℤ) (later token : ℤ) → IsAbove later greatest → is_taken greatest token ≡ true → later ≤ℤ token
taken_is_above greatest later token h e =
    let taken : not (int_lt token h.token) ≡ true = ap (λ g. is_taken g token) (sym h.is) ∙ e in
    let above : later ≤ℤ h.token = h.above in
    grind (arith, ints)

stays_above : (greatest : Option ℤ) (later : ℤ) (between : List ℤ)
    → is_taken greatest later ≡ true → IsAbove later (after_all between (greatest_after greatest later))
stays_above greatest later between e =
    above_all later between (greatest_after greatest later)
    (record { token = later; is = taken_is_greatest greatest later e; above = ≤ℤ_refl later })

pub smaller_is_refused : SmallerIsRefused
smaller_is_refused greatest later token between e less = by (is_taken (after_all between (greatest_after greatest later)) token) refl
  where
    by : (b : Bool) → is_taken (after_all between (greatest_after greatest later)) token ≡ b
        → is_taken (after_all between (greatest_after greatest later)) token ≡ false
    by false f = f
    by true f =
        let above : later ≤ℤ token =
        taken_is_above (after_all between (greatest_after greatest later)) later token (stays_above greatest later between e) f in
        absurd (omega (arith, ints))

pub fenced_from : (token later : ℤ) → token ≤ℤ later → IsFencedFrom token later
fenced_from token later le greatest between e f =
    let above : later ≤ℤ token =
    taken_is_above (after_all between (greatest_after greatest later)) later token (stays_above greatest later between e) f in
    grind (arith, ints)
