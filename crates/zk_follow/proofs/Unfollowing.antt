-- One is taken out of a list that does not pass a test: those that do stay.
use Rattle.std.proofs.Common.{◌≡◌, ◌<◌, ℕ, zero, suc, Bool, true, false, cond, List, [], ◌∷◌, length, get_or, refl}
use Rattle.std.proofs.Common.{sym, ap, ◌∙◌, arith}
use Rattle.std.specs.List.{filter, remove}

pub filter_removed : {X : Type 0} (p : X → Bool) (xs : List X) (i : ℕ) (d : X) → i < length xs → p (get_or xs i d) ≡ false
    → filter p (remove xs i) ≡ filter p xs
filter_removed p [] i d within out = absurd (omega arith)
filter_removed p (x ∷ xs) zero d within out = sym (ap (λ b. cond b (x ∷ filter p xs) (filter p xs)) out)
filter_removed p (x ∷ xs) (suc i) d within out =
    ap (λ ys. cond (p x) (x ∷ ys) ys) (filter_removed p xs i d (omega (arith, within)) out)

pub filter_whole : {X : Type 0} (p : X → Bool) (xs : List X) → ((k : ℕ) (d : X) → k < length xs → p (get_or xs k d) ≡ true)
    → filter p xs ≡ xs
filter_whole p [] all = refl
filter_whole p (x ∷ xs) all =
    ap (λ b. cond b (x ∷ filter p xs) (filter p xs)) (all 0 x (omega arith))
    ∙ ap (λ ys. x ∷ ys) (filter_whole p xs (λ k d within. all (suc k) d (omega (arith, within))))
