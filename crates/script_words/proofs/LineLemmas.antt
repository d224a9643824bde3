-- One more that is printed.
use Rattle.std.proofs.Common.{◌≡◌, ◌<◌, ◌+◌, ℕ, List, [], ◌∷◌, ◌++◌, length, get_or, take, map, refl, sym, ap, ◌∙◌, append_assoc}
use Rattle.std.proofs.lemmas.List.{append-nil, map_more}
use Rattle.script_words.specs.Lines.{TellsInOrder}

pub one_more : {X : Type 0} (Tells : X → List ℕ → Type 0) (xs : List X) (x : X) (text told : List ℕ)
    → TellsInOrder Tells xs text → Tells x told
    → TellsInOrder Tells (xs ++ x ∷ []) (text ++ told)
one_more Tells [] x text told none tells = (told, [], tells, refl, ap (λ t. t ++ told) none ∙ sym (append-nil told))
one_more Tells (first ∷ xs) x text told all tells =
    (all.0, all.1 ++ told, all.2, one_more Tells xs x all.1 told all.3 tells, ap (λ t. t ++ told) all.4 ∙ append_assoc all.0 all.1 told)

-- the same of the next of a list, each seen by a view
pub next_told : {X Y : Type 0} (Tells : Y → List ℕ → Type 0) (view : X → Y) (xs : List X) (at : ℕ) (x : X)
    (text after : List ℕ) → at < length xs
    → x ≡ get_or xs at x → TellsInOrder Tells (map view (take at xs)) text → (told : List ℕ) × Tells (view x) told × (after ≡ text ++ told)
    → TellsInOrder Tells (map view (take (at + 1) xs)) after
next_told Tells view xs at x text after within is all told =
    rw (map_more view xs at x within, ← is, told.2) (one_more Tells (map view (take at xs)) (view x) text told.0 all told.1)
