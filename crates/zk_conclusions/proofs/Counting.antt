-- Where there is a walk of at most so many nodes, no refusal is true: distinct paths that are all among others are no more than these.
use Rattle.std.proofs.Common.{◌≡◌, ◌≤◌, ◌⊎◌, inl, inr, suc, List, [], ◌∷◌, refl, ap, sym, ◌∙◌, subst, length, arith}
use Rattle.zk_turns.specs.Meaning.{Among}
use Rattle.zk_nodes.specs.Path.{Text}
use Rattle.zk_conclusions.specs.Subtrees.{AreDistinct}
use Rattle.zk_conclusions.specs.Lacks.{WalkIsTheOnlyAnswer}

-- the texts without one of them
without : (x : Text) (ys : List Text)
    → Among x ys → (rest : List Text) × (length ys ≡ suc (length rest)) × ((y : Text) → Among y ys → (y ≡ x) ⊎ Among y rest)
without x [] there = absurd there
without x (y ∷ ys) (inl e) = (ys, refl, λ z there. elim there [ inl f ↦ inl (f ∙ sym e) | inr h ↦ inr h ])
without x (y ∷ ys) (inr there) =
    let k = without x ys there in
    (y ∷ k.0, ap suc k.1, λ z t. elim t [ inl f ↦ inr (inl f) | inr h ↦ elim (k.2 z h) [ inl e ↦ inl e | inr g ↦ inr (inr g) ] ])

-- distinct texts that are all among others are no more than these
pub no_more : (xs ys : List Text) → AreDistinct xs → ((x : Text) → Among x xs → Among x ys) → length xs ≤ length ys
no_more [] ys distinct among = omega arith
no_more (x ∷ xs) ys distinct among =
    let k = without x ys (among x (inl refl)) in
    let l : length xs ≤ length k.0 = no_more xs k.0 distinct.1
    (λ y t. elim (k.2 y (among y (inr t))) [ inl e ↦ absurd (distinct.0 (subst (λ (z : Text). Among z xs) e t)) | inr h ↦ h ]) in
    let m : length ys ≡ suc (length k.0) = k.1 in
    omega (arith, l, m)

pub only_answer : WalkIsTheOnlyAnswer
only_answer cache root most has = (
  has.walk.whole,
  λ more. (
      let k = no_more more.paths has.paths more.once (λ x there. (let one = more.each x there in
      subst (λ (t : Text). Among t has.paths) (sym one.is) (has.walk.reached.all one.below one.reached))) in
      let l = more.more in
      let m = has.fits in
      absurd (omega (arith, k, l, m))),
)
