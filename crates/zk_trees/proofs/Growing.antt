-- Steps of a fold over a list, one element after another: what loops over subjects, tickets and roots keep.
use Rattle.std.proofs.Common.{◌≡◌, ◌<◌, ◌+◌, ◌++◌, ◌∙◌, ℕ, List, [], ◌∷◌, length, get_or, map, take, sym, ap, subst}
use Rattle.std.proofs.lemmas.List.{map-append, take_more}
use Rattle.std.proofs.lemmas.Fn.{FoldsTo-push}
use Rattle.std.specs.List.{FoldsTo}

module _ {P X Y : Type 0} (R : P → Y → P → Type 0) (f : X → Y) (xs : List X) (index : ℕ) (x : X) (p q u : P) where
  -- one more, by what it is mapped to
  pub mapped_next : index < length xs → x ≡ get_or xs index x → FoldsTo R p (map f (take index xs)) q → R q (f x) u
      → FoldsTo R p (map f (take (index + 1) xs)) u
  mapped_next within is before next =
      subst (λ (l : List Y). FoldsTo R p l u)
      (sym (ap (λ l. map f l) (take_more xs index x within) ∙ map-append f (take index xs) (get_or xs index x ∷ [])
      ∙ ap (λ y. map f (take index xs) ++ f y ∷ []) (sym is)))
      (FoldsTo-push R p (map f (take index xs)) q (f x) u before next)

module _ {P X : Type 0} (R : P → X → P → Type 0) (xs : List X) (index : ℕ) (x : X) (p q u : P) where
  -- one more
  pub folds_next : index < length xs → x ≡ get_or xs index x → FoldsTo R p (take index xs) q → R q x u → FoldsTo R p (take (index + 1) xs) u
  folds_next within is before next =
      subst (λ (l : List X). FoldsTo R p l u) (sym (take_more xs index x within ∙ ap (λ y. take index xs ++ y ∷ []) (sym is)))
      (FoldsTo-push R p (take index xs) q x u before next)
