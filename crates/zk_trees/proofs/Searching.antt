-- Members whose tickets rise: a search by halves finds a ticket, and they rise on with one more, and without some.
use Rattle.std.proofs.Common.{◌≡◌, ◌<◌, ◌≤◌, ◌-◌, ◌++◌, ◌∷◌, ◌∙◌, ℕ, suc, Bool, true, false, List, [], length, get_or, nat_lt}
use Rattle.std.proofs.Common.{refl, sym, ap, subst, arith}
use Rattle.std.specs.Prelude.{◌==◌, ⊤, nat_le, if◌then◌else◌}
use Rattle.std.specs.List.{filter, All}
use Rattle.std.specs.List.Sorted.{IsPartitionPoint}
use Rattle.std.proofs.lemmas.Bool.Decides.{nat_tests}
use Rattle.std.proofs.lemmas.List.{get_or_default}
use Rattle.std.proofs.lemmas.List.Folds.{list_any_at, list_any_none}
use Rattle.std.proofs.lemmas.List.Kept.{IsNonDecreasingBy-filter}
use Rattle.std.proofs.lemmas.List.Sorted.{IsNonDecreasingBy-drop, IsNonDecreasingBy-push}
use Rattle.zk_trees.specs.Tending.{has_ticket}
use Rattle.zk_trees.specs.declared.member.Member.{Member}
use Rattle.zk_trees.specs.Orders.{AreInOrder, AreRising}

below : (its ticket : ℕ) → nat_lt its ticket ≡ true → (its == ticket) ≡ false
below its ticket less = grind (arith, nat_tests)

beyond : (its at ticket : ℕ) → nat_lt at ticket ≡ false → (at == ticket) ≡ false → at ≤ its → (its == ticket) ≡ false
beyond its at ticket up other more = grind (arith, nat_tests)

module _ {A : Type 0} (ticket : ℕ) (members : List (Member A ⊤)) (rising : AreRising members) (place : ℕ)
    (point : IsPartitionPoint (λ (one : Member A ⊤). nat_lt one.ticket ticket ≡ true)
    (λ (one : Member A ⊤). nat_lt one.ticket ticket ≡ false) members place) where
  is_before : (k : ℕ) (d : Member A ⊤) → k < place → ((get_or members k d).ticket == ticket) ≡ false
  is_before k d less = below (get_or members k d).ticket ticket (point.0 k d (omega arith) less)

  none_there : (x : Member A ⊤) → place < length members → (((get_or members place x).ticket == ticket) ≡ false)
      → All (λ (one : Member A ⊤). (one.ticket == ticket) ≡ false) members
  none_there x within other k d here = by (nat_lt k place) refl
    where
      by : (b : Bool) → nat_lt k place ≡ b → ((get_or members k d).ticket == ticket) ≡ false
      by true e = is_before k d (grind (arith, nat_tests))
      by false e =
          let at_most : place ≤ k = grind (arith, nat_tests) in
          beyond (get_or members k d).ticket (get_or members place d).ticket ticket (point.1 place d (omega arith) within)
          (ap (λ (one : Member A ⊤). one.ticket == ticket) (get_or_default members place d x within) ∙ other)
          (rising place k d at_most here)

  pub found_there : (x : Member A ⊤) → place < length members → ((get_or members place x).ticket == ticket) ≡ has_ticket ticket members
  found_there x within = by ((get_or members place x).ticket == ticket) refl
    where
      by : (b : Bool) → ((get_or members place x).ticket == ticket) ≡ b
          → ((get_or members place x).ticket == ticket) ≡ has_ticket ticket members
      by true e = e ∙ sym (list_any_at (λ (one : Member A ⊤). one.ticket == ticket) members place x within e)
      by false e = e ∙ sym (list_any_none (λ (one : Member A ⊤). one.ticket == ticket) members (none_there x within e))

  pub none_beyond : length members ≤ place → nat_lt place (length members) ≡ has_ticket ticket members
  none_beyond past = not_below ∙ sym (list_any_none (λ (one : Member A ⊤). one.ticket == ticket) members
      (λ k d here. is_before k d (omega (arith, past, here))))
    where
      not_below : nat_lt place (length members) ≡ false
      not_below = grind (arith, nat_tests, past)

-- with one more
pub rises_on : {A : Type 0} (members : List (Member A ⊤)) (one x : Member A ⊤) → 2 ≤ length members → AreInOrder members
    → nat_le (get_or members (length members - 1) x).ticket one.ticket ≡ true → AreInOrder (members ++ one ∷ [])
rises_on [] one x some order last = absurd (omega (arith, some))
rises_on {A} (first ∷ rest) one x some order last = IsNonDecreasingBy-push (λ (m : Member A ⊤). m.ticket) rest one order up
  where
    up : (d : Member A ⊤) → 0 < length rest → (get_or rest (length rest - 1) d).ticket ≤ one.ticket
    up d filled =
        let place : length (first ∷ rest) - 1 ≡ suc (length rest - 1) = omega (arith, filled) in
        let same : get_or (first ∷ rest) (length (first ∷ rest) - 1) x ≡ get_or rest (length rest - 1) d =
        ap (λ k. get_or (first ∷ rest) k x) place ∙ get_or_default rest (length rest - 1) x d (omega (arith, filled)) in
        let low : (get_or (first ∷ rest) (length (first ∷ rest) - 1) x).ticket ≤ one.ticket = grind (arith, nat_tests, last) in
        subst (λ (m : Member A ⊤). m.ticket ≤ one.ticket) same low

-- without some
pub order_kept : {A : Type 0} (stays : Member A ⊤ → Bool) (members : List (Member A ⊤))
    → AreInOrder members → AreInOrder (filter stays members)
order_kept stays [] order = order
order_kept {A} stays (first ∷ rest) order = by (stays first) refl
  where
    kept : AreRising (filter stays rest)
    kept = IsNonDecreasingBy-filter (λ (m : Member A ⊤). m.ticket) stays rest order

    by : (b : Bool) → stays first ≡ b → AreInOrder (filter stays (first ∷ rest))
    by true e = subst AreInOrder (sym (ap (λ (b : Bool). if b then first ∷ filter stays rest else filter stays rest) e)) kept
    by false e = subst AreInOrder (sym (ap (λ (b : Bool). if b then first ∷ filter stays rest else filter stays rest) e))
        (IsNonDecreasingBy-drop (λ (m : Member A ⊤). m.ticket) 1 (filter stays rest) kept)
