-- A set of names and the list that it is made of have the same names: by induction on the list.
use Rattle.std.proofs.Common.{◌≡◌, ◌⊎◌, inl, inr, Bool, true, false, ◌||◌, List, [], ◌∷◌, refl, ap₂, sym, ◌∙◌, subst}
use Rattle.std.proofs.lemmas.Cmp.{nat_list_cmp_total}
use Rattle.std.proofs.lemmas.Map.Text.{is_eq-slice_cmp}
use Rattle.std.specs.Prelude.{bytes_eq}
use Rattle.std.specs.List.{list_any}
use Rattle.std.specs.Cmp.Lexicographic.{slice_cmp}
use Rattle.std.specs.Ordering.{is_eq, nat_cmp}
use Rattle.std.specs.FinSet as set
use Rattle.zk_turns.specs.Meaning.{Among}
use Rattle.zk_turns.proofs.Lists.{same_text, bytes_eq-refl}
use Rattle.zk_nodes.specs.Path.{Name}

same_test : (names : List Name) (name : Name)
    → list_any (bytes_eq name) names ≡ list_any (λ other. is_eq (slice_cmp nat_cmp name other)) names
same_test [] name = refl
same_test (other ∷ names) name = ap₂ (λ (a b : Bool). a || b) (sym (is_eq-slice_cmp name other)) (same_test names name)

-- the list has the name where the set of the list does
pub members : (names : List Name) (name : Name)
    → list_any (bytes_eq name) names ≡ set.contains (set.from_list {R = slice_cmp nat_cmp} names) name
members names name = same_test names name ∙ sym (set.contains-from_list nat_list_cmp_total names name)

or_true : (a b : Bool) → (a || b) ≡ true → (a ≡ true) ⊎ (b ≡ true)
or_true true b e = inl refl
or_true false b e = inr e

or_later : (a b : Bool) → b ≡ true → (a || b) ≡ true
or_later true b e = refl
or_later false b e = e

any_among : (name : Name) (names : List Name) → list_any (bytes_eq name) names ≡ true → Among name names
any_among name [] e = absurd cc
any_among name (one ∷ more) e = elim (or_true (bytes_eq name one) (list_any (bytes_eq name) more) e) [
  | inl same ↦
      inl (same_text name one same)
  | inr there ↦ inr (any_among name more there)
]

among_any : (name : Name) (names : List Name) → Among name names → list_any (bytes_eq name) names ≡ true
among_any name [] there = absurd there
among_any name (one ∷ more) (inl e) = let k : bytes_eq name one ≡ true =
    subst (λ (n : Name). bytes_eq name n ≡ true) e (bytes_eq-refl name) in rw k refl
among_any name (one ∷ more) (inr there) = or_later (bytes_eq name one) (list_any (bytes_eq name) more) (among_any name more there)

-- a name of the set is among those of the list
pub set_among : (names : List Name) (name : Name)
    → set.contains (set.from_list {R = slice_cmp nat_cmp} names) name ≡ true → Among name names
set_among names name e = any_among name names (members names name ∙ e)

pub among_set : (names : List Name) (name : Name)
    → Among name names → set.contains (set.from_list {R = slice_cmp nat_cmp} names) name ≡ true
among_set names name there = sym (members names name) ∙ among_any name names there
