-- A look-up in a map from which the stale answers were taken.
use Rattle.std.proofs.Common.{◌≡◌, ℕ, Bool, true, false, cond, List, [], ◌∷◌, filter, Some, None, String, string_bytes, string_eq, bytes_eq}
use Rattle.std.proofs.Common.{refl, sym, ap, subst, ◌∙◌}
use Rattle.std.specs.List.{IsDistinct, AllByRecursion}
use Rattle.std.specs.Map.{keys_of, lookup}
use Rattle.std.proofs.lemmas.Map.Keys.{IsDistinct-head, IsDistinct-tail}
use Rattle.std.proofs.lemmas.Slice.Eq.{bytes_eq-Decides}
use Rattle.zk_cache.specs.declared.held.Kept.{Kept}
use Rattle.zk_cache.specs.declared.held.Mark.{Mark}
use Rattle.zk_cache.specs.declared.held.Mark.TheVariants.{Good, Stale}
use Rattle.zk_cache.specs.Kept.{is_good, if_good, without_stale}

module _ {A V : Type 0} (path : List ℕ) where
  absent : (es : List (String A × Kept V)) → AllByRecursion (λ k. bytes_eq path (string_bytes k) ≡ false) (keys_of es)
      → lookup (λ k. bytes_eq path (string_bytes k)) (filter (λ e. is_good e.1.mark) es) ≡ None
  absent [] h = refl
  absent (e ∷ es) h = by (is_good e.1.mark) (absent es h.1)
    where
      rest : List (String A × Kept V)
      rest = filter (λ x. is_good x.1.mark) es

      by : (b : Bool) → lookup (λ k. bytes_eq path (string_bytes k)) rest ≡ None
          → lookup (λ k. bytes_eq path (string_bytes k)) (cond b (e ∷ rest) rest) ≡ None
      by true below = ap (λ c. cond c (Some e.1) (lookup (λ k. bytes_eq path (string_bytes k)) rest)) h.0 ∙ below
      by false below = below

  -- the answer at a path is the one that was there, if it was good
  pub lookup-good : (es : List (String A × Kept V)) → IsDistinct string_eq (keys_of es)
      → lookup (λ k. bytes_eq path (string_bytes k)) (filter (λ e. is_good e.1.mark) es)
      ≡ without_stale (lookup (λ k. bytes_eq path (string_bytes k)) es)
  lookup-good [] d = refl
  lookup-good (e ∷ es) d =
      by (bytes_eq path (string_bytes e.0)) e.1.mark refl refl (lookup-good es (IsDistinct-tail string_eq e.0 (keys_of es) d))
    where
      test : String A → Bool
      test k = bytes_eq path (string_bytes k)

      rest : List (String A × Kept V)
      rest = filter (λ x. is_good x.1.mark) es

      by : (b : Bool) (m : Mark) → bytes_eq path (string_bytes e.0) ≡ b → e.1.mark ≡ m
          → lookup (λ k. bytes_eq path (string_bytes k)) rest ≡ without_stale (lookup (λ k. bytes_eq path (string_bytes k)) es)
          → lookup (λ k. bytes_eq path (string_bytes k)) (cond (is_good m) (e ∷ rest) rest)
          ≡ without_stale (cond b (Some e.1) (lookup (λ k. bytes_eq path (string_bytes k)) es))
      by true Good p q below =
          ap (λ c. cond c (Some e.1) (lookup (λ k. bytes_eq path (string_bytes k)) rest)) p
          ∙ ap (λ m. Some (record { answer = e.1.answer; mark = m })) q
          ∙ sym (ap (if_good e.1.answer) q)
      by true Stale p q below =
          let same : path ≡ string_bytes e.0 = (bytes_eq-Decides path (string_bytes e.0)).0 p in
          absent es (subst (λ bs. AllByRecursion (λ k. bytes_eq bs (string_bytes k) ≡ false) (keys_of es)) (sym same)
          (IsDistinct-head string_eq e.0 (keys_of es) d))
          ∙ sym (ap (if_good e.1.answer) q)
      by false Good p q below = ap (λ c. cond c (Some e.1) (lookup (λ k. bytes_eq path (string_bytes k)) rest)) p ∙ below
      by false Stale p q below = below
