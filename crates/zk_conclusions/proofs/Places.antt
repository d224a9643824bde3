-- Names that are gone over by their places: what is left behind one, and whether one before passes a test.
use Rattle.std.proofs.Common.{◌≡◌, ℕ, suc, ◌+◌, ◌<◌, Bool, true, false, ◌||◌, List, ◌∷◌, [], length, take, drop, get_or, None, Some}
use Rattle.std.proofs.Common.{slice_get, IsSome}
use Rattle.std.proofs.Common.{refl, sym, ap, subst, ◌∙◌, arith, true≢false}
use Rattle.std.specs.List.{list_any}
use Rattle.std.proofs.Math.Seq.{drop-cons}
use Rattle.std.proofs.lemmas.List.Folds.{list_any_more, list_any_at}
use Rattle.std.proofs.lemmas.Option.{slice_get-get_or, slice_get_within, get_or_from_slice_get}
use Rattle.zk_nodes.specs.Path.{Name}

-- a place that is within the names has one
pub is_there : (names : List Name) (at : ℕ) → at < length names → None ≡ slice_get names at → ⊥
is_there names at within none = absurd (true≢false (sym (subst IsSome (sym (slice_get-get_or names at [] within) ∙ sym none) refl)))

pub rest_at : (names : List Name) (at : ℕ) (name : Name) → Some name ≡ slice_get names at → drop at names ≡ name ∷ drop (at + 1) names
rest_at names at name is =
    let next : suc at ≡ at + 1 = omega arith in
    drop-cons names at [] (slice_get_within names at name (sym is))
    ∙ (λ i. get_or_from_slice_get names at name [] (sym is) i ∷ drop (next i) names)

neither : (a b : Bool) → a ≡ false → b ≡ false → (a || b) ≡ false
neither a b fails none = ap (λ x. x || b) fails ∙ none

-- the name at a place, which fails the test or passes it
pub none_up_to : (test : Name → Bool) (names : List Name) (at : ℕ) (name : Name) → at < length names → name ≡ get_or names at []
    → list_any test (take at names) ≡ false → test name ≡ false → list_any test (take (at + 1) names) ≡ false
none_up_to test names at name within is none fails =
    list_any_more test names at [] within
    ∙ neither (list_any test (take at names)) (test (get_or names at [])) none (ap test (sym is) ∙ fails)

pub one_at : (test : Name → Bool) (names : List Name) (at : ℕ) (name : Name)
    → at < length names → name ≡ get_or names at [] → test name ≡ true → list_any test names ≡ true
one_at test names at name within is passes = list_any_at test names at [] within (ap test (sym is) ∙ passes)

-- the same of a name that was got
pub none_more : (test : Name → Bool) (names : List Name) (at : ℕ) (name : Name) → Some name ≡ slice_get names at
    → list_any test (take at names) ≡ false → test name ≡ false → list_any test (take (at + 1) names) ≡ false
none_more test names at name is =
    none_up_to test names at name (slice_get_within names at name (sym is)) (sym (get_or_from_slice_get names at name [] (sym is)))

pub one_is : (test : Name → Bool) (names : List Name) (at : ℕ) (name : Name)
    → Some name ≡ slice_get names at → test name ≡ true → list_any test names ≡ true
one_is test names at name is =
    one_at test names at name (slice_get_within names at name (sym is)) (sym (get_or_from_slice_get names at name [] (sym is)))
