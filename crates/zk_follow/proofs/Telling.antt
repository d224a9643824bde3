-- Each subject is changed in place, and what there is to tell of it is added: those before the place are done, and those after it are as
-- they were.
use Rattle.std.proofs.Common.{◌≡◌, ◌≤◌, ◌<◌, ◌+◌, ◌++◌, ℕ, Bool, List, [], ◌∷◌, length, get_or, drop, map, take, refl, sym, ap, ◌∙◌, arith}
use Rattle.std.specs.Prelude.{◌||◌, All}
use Rattle.std.specs.List.{flat_map, list_any}
use Rattle.std.proofs.lemmas.List.{append-nil, take_more}
use Rattle.std.proofs.lemmas.List.Elements.{All-map}
use Rattle.std.proofs.lemmas.Grind.{common_steps, elements, flat_map-append}
use Rattle.zk_turns.specs.Turns.{Output}
use Rattle.zk_client.specs.declared.output.Output.{Output as Made}
use Rattle.zk_client.specs.Views.{output_view, said}

-- a test of what outputs say is one of the outputs
pub any_said : {A : Type 0} (test : Output → Bool) (made : List (Made A))
    → list_any test (said made) ≡ list_any (λ output. test (output_view output)) made
any_said test [] = refl
any_said test (output ∷ made) = ap (λ (b : Bool). test (output_view output) || b) (any_said test made)

-- what is at the first place that was not changed yet
pub at_seam : {X : Type 0} (f : X → X) (xs ys : List X) (i : ℕ) (d : X)
    → i < length xs → ys ≡ map f (take i xs) ++ drop i xs → get_or ys i d ≡ get_or xs i d
at_seam f xs ys i d within e = ap (λ zs. get_or zs i d) e ∙ seam
  where
    seam : get_or (map f (take i xs) ++ drop i xs) i d ≡ get_or xs i d
    seam = grind (arith, elements)

pub flat_more : {X Y : Type 0} (f : X → List Y) (xs : List X) (i : ℕ) (x : X)
    → i < length xs → x ≡ get_or xs i x → flat_map f (take (i + 1) xs) ≡ flat_map f (take i xs) ++ f x
flat_more f xs i x within is =
    ap (flat_map f) (take_more xs i x within) ∙ flat_map-append f (take i xs) (get_or xs i x ∷ [])
    ∙ ap (λ l. flat_map f (take i xs) ++ l) (append-nil (f (get_or xs i x)) ∙ ap f (sym is))

-- all were changed
pub whole_mapped : {X : Type 0} (f : X → X) (xs : List X) (i : ℕ) → length xs ≤ i → map f (take i xs) ++ drop i xs ≡ map f xs
whole_mapped f xs i past = grind (arith, common_steps)

-- what holds of each holds after a change that keeps it
pub All_changed : {X : Type 0} (P : X → Type 0) (f : X → X) (xs : List X) → ((x : X) → P x → P (f x)) → All P xs → All P (map f xs)
All_changed P f xs keeps all = All-map P f xs (λ k d within. keeps (get_or xs k d) (all k d within))
