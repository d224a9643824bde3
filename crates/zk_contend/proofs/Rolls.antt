-- What is found by a ticket, once it was changed.
use Rattle.std.proofs.Common.{ℕ, ◌≡◌, ◌∙◌, Bool, true, false, cond, List, [], ◌∷◌, map, Option, Some}
use Rattle.std.proofs.Common.{None, option_map, nat_eq, is_some, length}
use Rattle.std.proofs.Common.{refl, sym, ap, subst}
use Rattle.std.proofs.lemmas.Bool.Decides.{Decides-eqb}
use Rattle.std.specs.Map.{lookup}
use Rattle.std.specs.Map.Calls.{RetainsPairs}
use Rattle.zk_contend.specs.Collections.{IsChanged}

-- ---- one is changed

module _ {X : Type 0} (becomes : (was is : X) → Type 0) (ticket : ℕ) (old new : ℕ → Option X) where
  changed_if : (x y : X) (other : ℕ) → old ticket ≡ Some x → new other ≡ cond (nat_eq ticket other) (Some y) (old other) → becomes x y
      → (is_it : Bool) → nat_eq ticket other ≡ is_it → IsChanged is_it becomes (old other) (new other)
  changed_if x y other at is by false e = is ∙ ap (λ b. cond b (Some y) (old other)) e
  changed_if x y other at is by true e =
      let here : old other ≡ Some x = ap old (sym ((Decides-eqb ticket other).0 e)) ∙ at in
      subst (λ o. IsChanged true becomes o (new other)) (sym here) (y, is ∙ ap (λ b. cond b (Some y) (old other)) e, by)

  pub changed_at : (x y : X) → old ticket ≡ Some x → ((other : ℕ) → new other ≡ cond (nat_eq ticket other) (Some y) (old other))
      → becomes x y → (other : ℕ) → IsChanged (nat_eq ticket other) becomes (old other) (new other)
  changed_at x y at is by other = changed_if x y other at (is other) by (nat_eq ticket other) refl

  unchanged_if : (other : ℕ) → old ticket ≡ None → new other ≡ old other
      → (is_it : Bool) → nat_eq ticket other ≡ is_it → IsChanged is_it becomes (old other) (new other)
  unchanged_if other at is false e = is
  unchanged_if other at is true e =
      let here : old other ≡ None = ap old (sym ((Decides-eqb ticket other).0 e)) ∙ at in
      subst (λ o. IsChanged true becomes o (new other)) (sym here) (is ∙ here)

  pub unchanged_at : old ticket ≡ None → ((other : ℕ) → new other ≡ old other)
      → (other : ℕ) → IsChanged (nat_eq ticket other) becomes (old other) (new other)
  unchanged_at at is other = unchanged_if other at (is other) (nat_eq ticket other) refl

-- ---- each is changed

-- what a map's `retain` leaves, where the closure keeps each and changes its value so
module _ {K X F : Type 0} (T : F → K → X → Bool → X → F → Type 0) (change : X → X) (f : F)
    (says : (k : K) (v : X) (b : Bool) (w : X) (g : F) → T f k v b w g → (b ≡ true) × (w ≡ change v) × (g ≡ f)) where
  pub map-RetainsPairs : (es kept : List (K × X)) → RetainsPairs T f es kept → kept ≡ map (λ e. (e.0, change e.1)) es
  map-RetainsPairs [] kept h = h
  map-RetainsPairs (e ∷ es) kept h =
      let s = says e.0 e.1 h.0 h.1 h.2 h.4 in
      let rest = map-RetainsPairs es h.3 (subst (λ g. RetainsPairs T g es h.3) s.2 h.5) in
      h.6 ∙ (λ j. cond (s.0 j) ((e.0, s.1 j) ∷ rest j) (rest j))

module _ {K X : Type 0} (test : K → Bool) (change : X → X) where
  by_head : (b : Bool) (v : X) (rest more : Option X) → more ≡ option_map change rest
      → cond b (Some (change v)) more ≡ option_map change (cond b (Some v) rest)
  by_head true v rest more same = refl
  by_head false v rest more same = same

  pub lookup-changed : (es : List (K × X)) → lookup test (map (λ e. (e.0, change e.1)) es) ≡ option_map change (lookup test es)
  lookup-changed [] = refl
  lookup-changed (e ∷ es) = by_head (test e.0) e.1 (lookup test es) _ (lookup-changed es)

-- ---- one is found

pub one_there : {X : Type 0} (entries : List (ℕ × X)) → (length entries ≡ 0 → ⊥)
    → (ticket : ℕ) × (is_some (lookup (nat_eq ticket) entries) ≡ true)
one_there [] some = absurd (some refl)
one_there (entry ∷ entries) some = (
  entry.0,
  ap (λ b. is_some (cond b (Some entry.1) (lookup (nat_eq entry.0) entries))) ((Decides-eqb entry.0 entry.0).1 refl),
)
