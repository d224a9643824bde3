-- Which names a set of texts has: a test of the texts is one of the names. And what a step over names by their index passes.
use Rattle.std.proofs.Common.{◌≡◌, ℕ, zero, suc, ◌+◌, ◌<◌, Bool, ◌||◌, List, [], ◌∷◌, ◌++◌, length, map, take, drop, refl, sym, ap, ap₂}
use Rattle.std.proofs.Common.{◌∙◌, arith}
use Rattle.std.proofs.lemmas.List.{take_more}
use Rattle.std.proofs.lemmas.Option.{slice_get_within, get_or_from_slice_get}
use Rattle.std.proofs.Math.Seq.{drop-cons}
use Rattle.std.specs.Prelude.{string_bytes, bytes_eq, None, Some, slice_get}
use Rattle.std.specs.Cmp.Lexicographic.{slice_cmp}
use Rattle.std.specs.List.{list_any}
use Rattle.std.specs.Ordering.{is_eq, nat_cmp}
use Rattle.std.specs.BTreeSet.{BTreeSet}
use Rattle.std.specs.FinSet as set
use Rattle.std.specs.Prelude.{String}
use Rattle.std.proofs.lemmas.Cmp.{nat_list_cmp_total}
use Rattle.std.proofs.lemmas.Map.Text.{is_eq-slice_cmp}
use Rattle.zk_nodes.specs.Names.{name_cmp}
use Rattle.zk_nodes.specs.inner.Names.{names_of}

same_test : (names : List (List ℕ)) (name : List ℕ)
    → list_any (bytes_eq name) names ≡ list_any (λ other. is_eq (slice_cmp nat_cmp name other)) names
same_test [] name = refl
same_test (other ∷ names) name = ap₂ (λ (a b : Bool). a || b) (sym (is_eq-slice_cmp name other)) (same_test names name)

-- a name is among names where the set of them has it
pub same_listed : (names : List (List ℕ)) (name : List ℕ)
    → list_any (bytes_eq name) names ≡ set.contains (set.from_list {R = name_cmp} names) name
same_listed names name = same_test names name ∙ sym (set.contains-from_list nat_list_cmp_total names name)

-- a name is among the texts of a set where the set of names has it
pub same_members : {Y : Type 0} (names : BTreeSet (String Y)) (name : List ℕ)
    → list_any (bytes_eq name) (map string_bytes names.keys) ≡ set.contains (names_of names) name
same_members names = same_listed (map string_bytes names.keys)

-- a value that stands at an index is the first of those from there on
pub drop_found : {X : Type 0} (xs : List X) (index : ℕ) (x : X) → Some x ≡ slice_get xs index → drop index xs ≡ x ∷ drop (index + 1) xs
drop_found xs index x is =
    let next : suc index ≡ index + 1 = omega arith in
    drop-cons xs index x (slice_get_within xs index x (sym is))
    ∙ (λ i. get_or_from_slice_get xs index x x (sym is) i ∷ drop (next i) xs)

-- and the last of those up to there
pub take_found : {X : Type 0} (xs : List X) (index : ℕ) (x : X)
    → Some x ≡ slice_get xs index → take (index + 1) xs ≡ take index xs ++ x ∷ []
take_found xs index x is =
    take_more xs index x (slice_get_within xs index x (sym is))
    ∙ ap (λ last. take index xs ++ last ∷ []) (get_or_from_slice_get xs index x x (sym is))

-- and a value that is the first of those from an index on stands there
pub first_left : {X : Type 0} (xs : List X) (index : ℕ) (x : X) (rest : List X) → drop index xs ≡ x ∷ rest → slice_get xs index ≡ Some x
first_left [] zero x rest is = absurd (omega (arith, ap length is))
first_left [] (suc index) x rest is = absurd (omega (arith, ap length is))
first_left (y ∷ xs) zero x rest is = ap (λ left. slice_get left 0) is
first_left (y ∷ xs) (suc index) x rest is = first_left xs index x rest is

-- below the number of values there is one
pub one_found : {X : Type 0} (xs : List X) (index : ℕ) → index < length xs → None ≡ slice_get xs index → ⊥
one_found [] index within none = omega (arith, within)
one_found (x ∷ xs) zero within none = cc
one_found (x ∷ xs) (suc index) within none = one_found xs index (omega (arith, within)) none
