-- Steps of a fold over a list, one element after another.
use Rattle.std.proofs.Common.{ℕ, ◌≡◌, ◌<◌, ◌+◌, ◌++◌, ◌∙◌, List, [], ◌∷◌, length, fold, get_or, take, refl, sym, ap, subst}
use Rattle.std.proofs.lemmas.List.{take_more}
use Rattle.std.proofs.lemmas.Fn.{FoldsTo-push}
use Rattle.std.specs.List.{FoldsTo}

module _ {P X : Type 0} (R : P → X → P → Type 0) (xs : List X) (index : ℕ) (x : X) (p q u : P) where
  -- one more
  pub folds_next : index < length xs → x ≡ get_or xs index x → FoldsTo R p (take index xs) q → R q x u → FoldsTo R p (take (index + 1) xs) u
  folds_next within is before next =
      subst (λ (l : List X). FoldsTo R p l u) (sym (take_more xs index x within ∙ ap (λ y. take index xs ++ y ∷ []) (sym is)))
      (FoldsTo-push R p (take index xs) q x u before next)

-- a fold, one more
fold_more : {P X : Type 0} (f : P → X → P) (p : P) (xs : List X) (x : X) → fold f p (xs ++ x ∷ []) ≡ f (fold f p xs) x
fold_more f p [] x = refl
fold_more f p (y ∷ xs) x = fold_more f (f p y) xs x

module _ {P X : Type 0} (f : P → X → P) (p : P) (xs : List X) (index : ℕ) (x : X) (q u : P) where
  pub fold_next : index < length xs → x ≡ get_or xs index x → q ≡ fold f p (take index xs) → u ≡ f q x → u ≡ fold f p (take (index + 1) xs)
  fold_next within is before next =
      next ∙ ap (λ v. f v x) before ∙ sym (fold_more f p (take index xs) x)
      ∙ ap (fold f p) (sym (take_more xs index x within ∙ ap (λ y. take index xs ++ y ∷ []) (sym is)))
