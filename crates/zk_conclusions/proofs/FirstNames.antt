-- None of some names stands before another, as a test and as a list says it: name by name.
use Rattle.std.proofs.Common.{◌≡◌, ◌↔◌, inl, inr, Bool, true, false, ◌&&◌, ◌||◌, not, List, [], ◌∷◌, map}
use Rattle.std.proofs.Common.{refl, sym, ap, ◌∙◌, subst}
use Rattle.std.specs.List.{list_any}
use Rattle.zk_nodes.specs.Path.{Name}
use Rattle.zk_conclusions.specs.Numbers.{is_before}
use Rattle.zk_conclusions.specs.Standings.{IsFirstAmong}

or_false : (a b : Bool) → (a || b) ≡ false → (a ≡ false) × (b ≡ false)
or_false false false e = (refl, refl)
or_false false true e = absurd cc
or_false true b e = absurd cc

not_true : (result b : Bool) → result ≡ not b → result ≡ true → b ≡ false
not_true result false e t = refl
not_true result true e t = absurd cc

and_false : (a b : Bool) → (a && b) ≡ false → a ≡ true → b ≡ false
and_false true b e t = e
and_false false b e t = absurd cc

false_and : (a b : Bool) → (a ≡ true → b ≡ false) → (a && b) ≡ false
false_and true b f = f refl
false_and false b f = refl

-- a test of what is made of each
pub any_made : {X Y : Type 0} (p : Y → Bool) (h : X → Y) (xs : List X) → list_any p (map h xs) ≡ list_any (λ x. p (h x)) xs
any_made p h [] = refl
any_made p h (x ∷ xs) = ap (λ b. p (h x) || b) (any_made p h xs)

module _ (test : Name → Bool) (own : Name) where
  none_of : (names : List Name) → list_any (λ name. test name && is_before name own) names ≡ false → IsFirstAmong test names own
  none_of [] e name there rival = absurd there
  none_of (one ∷ more) e name (inl same) rival =
      let k = (or_false (test one && is_before one own) (list_any (λ n. test n && is_before n own) more) e).0 in
      subst (λ (n : Name). is_before n own ≡ false) (sym same)
      (and_false (test one) (is_before one own) k (subst (λ (n : Name). test n ≡ true) same rival))
  none_of (one ∷ more) e name (inr there) rival =
      none_of more (or_false (test one && is_before one own) (list_any (λ n. test n && is_before n own) more) e).1 name there rival

  of_none : (names : List Name) → IsFirstAmong test names own → list_any (λ name. test name && is_before name own) names ≡ false
  of_none [] first = refl
  of_none (one ∷ more) first =
      let k : (test one && is_before one own) ≡ false = false_and (test one) (is_before one own) (first one (inl refl)) in
      rw k (of_none more (λ name there. first name (inr there)))

  pub first_of : (names : List Name) (result : Bool) → result ≡ not (list_any (λ name. test name && is_before name own) names)
      → (result ≡ true) ↔ IsFirstAmong test names own
  first_of names result e = (
    λ t. none_of names (not_true result (list_any (λ name. test name && is_before name own) names) e t),
    λ first. e ∙ ap not (of_none names first),
  )
