-- What a caller cites of the lists of a registry.
use Rattle.std.proofs.Common.{◌≡◌, ℕ, Bool, true, false, not, cond, ◌&&◌, ◌||◌, List, [], ◌∷◌, ◌++◌, bytes_eq, refl, sym, ap, ◌∙◌}
use Rattle.std.proofs.Common.{if◌then◌else◌}
use Rattle.std.proofs.lemmas.Slice.Eq.{bytes_eq-Decides}
use Rattle.std.proofs.lemmas.Cmp.{nat_list_eq_equiv}
use Rattle.std.proofs.lemmas.List.Folds.{list_any-append}
use Rattle.zk_watches.specs.Lists.{has, with_path, without}
use Rattle.zk_watches.proofs.SoundLemmas.{has-without_same}

-- what is in a list that a path left: all else that was
pub has-without : (paths : List (List ℕ)) (path other : List ℕ)
    → has (without paths path) other ≡ (not (bytes_eq path other) && has paths other)
has-without paths path other = by (bytes_eq path other) refl
  where
    rest : (xs : List (List ℕ)) → bytes_eq path other ≡ false → has (without xs path) other ≡ has xs other
    rest [] e = refl
    rest (x ∷ xs) e = step (bytes_eq path x) refl (rest xs e)
      where
        differs : (b : Bool) → bytes_eq path x ≡ true → bytes_eq other x ≡ b → b ≡ false
        differs true p q = sym (ap (bytes_eq path) ((bytes_eq-Decides other x).0 q) ∙ p) ∙ e
        differs false p q = refl

        step : (b : Bool) → bytes_eq path x ≡ b → has (without xs path) other ≡ has xs other
            → has (cond (not b) (x ∷ without xs path) (without xs path)) other ≡ (bytes_eq other x || has xs other)
        step true p below = below ∙ sym (ap (λ o. o || has xs other) (differs (bytes_eq other x) p refl))
        step false p below = ap (λ h. bytes_eq other x || h) below

    by : (b : Bool) → bytes_eq path other ≡ b → has (without paths path) other ≡ (not b && has paths other)
    by true e = ap (has (without paths path)) (sym ((bytes_eq-Decides path other).0 e)) ∙ has-without_same paths path
    by false e = rest paths e

-- what is in a list into which a path came: the path, and all that was
pub has-with_path : (paths : List (List ℕ)) (path other : List ℕ)
    → has (with_path paths path) other ≡ (bytes_eq path other || has paths other)
has-with_path paths path other = by (has paths path) refl
  where
    same : (b : Bool) → (b ≡ true → path ≡ other) → has paths path ≡ true → has paths other ≡ (b || has paths other)
    same true is e = sym (ap (has paths) (is refl)) ∙ e
    same false is e = refl

    swap : (a b : Bool) → (a || (b || false)) ≡ (b || a)
    swap true true = refl
    swap true false = refl
    swap false true = refl
    swap false false = refl

    by : (b : Bool) → has paths path ≡ b → has (if b then paths else paths ++ path ∷ []) other ≡ (bytes_eq path other || has paths other)
    by true e = same (bytes_eq path other) (bytes_eq-Decides path other).0 e
    by false e =
        list_any-append (bytes_eq other) paths (path ∷ [])
        ∙ swap (has paths other) (bytes_eq other path)
        ∙ ap (λ b. b || has paths other) (nat_list_eq_equiv.symm other path)
