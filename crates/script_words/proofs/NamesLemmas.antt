-- The names of a set of texts.
use Rattle.std.proofs.Common.{◌≡◌, ℕ, Bool, ◌||◌, List, [], ◌∷◌, map, refl, sym, ap₂}
use Rattle.std.specs.Prelude.{String, string_bytes, bytes_eq, Result, Ok, Err, OnOk}
use Rattle.std.specs.Cmp.Lexicographic.{slice_cmp}
use Rattle.std.specs.List.{list_any, AllByRecursion}
use Rattle.std.specs.List.Sorted.{IsStrictlySortedBy}
use Rattle.std.specs.Ordering.{is_eq, nat_cmp}
use Rattle.std.specs.declared.cmp.Ordering.{Ordering}
use Rattle.std.specs.declared.cmp.Ordering.TheVariants.{Less}
use Rattle.std.proofs.lemmas.Map.Text.{is_eq-slice_cmp}

-- what follows from two clauses of a call that has not failed
pub both : {T E P Q R : Type 0} (r : Result T E) → (P → Q → R) → OnOk r P → OnOk r Q → OnOk r R
both (Ok x) f p q = f p q
both (Err e) f p q = tt

all_map : {X Y : Type 0} (f : X → Y) (P : Y → Type 0) (xs : List X) → AllByRecursion (λ x. P (f x)) xs → AllByRecursion P (map f xs)
all_map f P [] h = tt
all_map f P (x ∷ xs) h = (h.0, all_map f P xs h.1)

-- what ascends by the order of its values has values that ascend
pub sorted_map : {X Y : Type 0} (f : X → Y) (cmp : Y → Y → Ordering) (xs : List X)
    → IsStrictlySortedBy (λ x y. cmp (f x) (f y)) xs → IsStrictlySortedBy cmp (map f xs)
unfolding IsStrictlySortedBy
sorted_map f cmp [] h = tt
sorted_map f cmp (x ∷ xs) h = (all_map f (λ y. cmp (f x) y ≡ Less) xs h.0, sorted_map f cmp xs h.1)

-- a name is among the texts where the set has it
pub same_names : {Y : Type 0} (keys : List (String Y)) (name : List ℕ)
    → list_any (bytes_eq name) (map string_bytes keys) ≡ list_any (λ k. is_eq (slice_cmp nat_cmp name (string_bytes k))) keys
same_names [] name = refl
same_names (k ∷ keys) name = ap₂ (λ (a b : Bool). a || b) (sym (is_eq-slice_cmp name (string_bytes k))) (same_names keys name)
