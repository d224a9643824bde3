-- The first of two moments: before it nothing is due of either, at it something is of one of them.
use Rattle.std.proofs.Common.{◌≡◌, ◌≤◌, ◌<◌, ◌^◌, ℕ, Bool, true, false, Option, Some, None, refl, sym, subst, ◌∙◌, arith}
use Rattle.std.proofs.Math.Nat.{min_comm, min-eq_left}
use Rattle.std.specs.Prelude.{nat_le, min, IfSome}
use Rattle.std.proofs.lemmas.Bool.Decides.{nat_tests}
use Rattle.zk_follow.specs.Following.{first_of}

below_first : (moment a b : ℕ) → moment < min a b → moment < a
below_first moment a b below = omega (arith, below)

below_second : (moment a b : ℕ) → moment < min a b → moment < b
below_second moment a b below = omega (arith, below)

pub quiet_before : (P Q : ℕ → Type 0) (one other first : Option ℕ) → first ≡ first_of one other
    → IfSome one (λ a. (moment : ℕ) → moment < 2 ^ 64 → moment < a → P moment) → (one ≡ None → (moment : ℕ) → moment < 2 ^ 64 → P moment)
    → IfSome other (λ b. (moment : ℕ) → moment < b → Q moment) → (other ≡ None → (moment : ℕ) → Q moment)
    → IfSome first (λ f. (moment : ℕ) → moment < 2 ^ 64 → moment < f → P moment × Q moment)
quiet_before P Q one other first is before never rests always =
    subst (λ o. IfSome o (λ f. (moment : ℕ) → moment < 2 ^ 64 → moment < f → P moment × Q moment)) (sym is)
    (by one other before never rests always)
  where
    by : (one other : Option ℕ) → IfSome one (λ a. (moment : ℕ) → moment < 2 ^ 64 → moment < a → P moment)
        → (one ≡ None → (moment : ℕ) → moment < 2 ^ 64 → P moment)
        → IfSome other (λ b. (moment : ℕ) → moment < b → Q moment) → (other ≡ None → (moment : ℕ) → Q moment)
        → IfSome (first_of one other) (λ f. (moment : ℕ) → moment < 2 ^ 64 → moment < f → P moment × Q moment)
    by None None before never rests always = tt
    by None (Some b) before never rests always = λ moment fits below. (never refl moment fits, rests moment below)
    by (Some a) None before never rests always = λ moment fits below. (before moment fits below, always refl moment)
    by (Some a) (Some b) before never rests always =
        λ moment fits below. (before moment fits (below_first moment a b below), rests moment (below_second moment a b below))

pub due_first : (P : ℕ → Type 0) (q : ℕ → Bool) (one other first : Option ℕ) → first ≡ first_of one other
    → IfSome one (λ a. ¬ (P a)) → IfSome other (λ b. q b ≡ false) → IfSome first (λ f. ¬ (P f × (q f ≡ true)))
due_first P q one other first is loud awake = subst (λ o. IfSome o (λ f. ¬ (P f × (q f ≡ true)))) (sym is) (by one other loud awake)
  where
    not_rest : (b : ℕ) → q b ≡ false → q b ≡ true → ⊥
    not_rest b is so = let f : false ≡ true = sym is ∙ so in cc

    by : (one other : Option ℕ) → IfSome one (λ a. ¬ (P a)) → IfSome other (λ b. q b ≡ false)
        → IfSome (first_of one other) (λ f. ¬ (P f × (q f ≡ true)))
    by None None loud awake = tt
    by None (Some b) loud awake = λ both. not_rest b awake both.1
    by (Some a) None loud awake = λ both. loud both.0
    by (Some a) (Some b) loud awake = λ both. which (nat_le a b) refl both
      where
        which : (low : Bool) → nat_le a b ≡ low → P (min a b) × (q (min a b) ≡ true) → ⊥
        which true e both = let low : a ≤ b = grind (arith, nat_tests) in loud (subst P (min-eq_left low) both.0)
        which false e both =
            let low : b ≤ a = grind (arith, nat_tests) in
            not_rest b awake (subst (λ m. q m ≡ true) (min_comm a b ∙ min-eq_left low) both.1)

pub quiet_ever : (P Q : ℕ → Type 0) (one other first : Option ℕ) → first ≡ first_of one other
    → (one ≡ None → (moment : ℕ) → moment < 2 ^ 64 → P moment) → (other ≡ None → (moment : ℕ) → Q moment)
    → first ≡ None → (moment : ℕ) → moment < 2 ^ 64 → P moment × Q moment
quiet_ever P Q one other first is never always none moment fits = by one other (sym is ∙ none) never always
  where
    by : (one other : Option ℕ) → first_of one other ≡ None → (one ≡ None → (moment : ℕ) → moment < 2 ^ 64 → P moment)
        → (other ≡ None → (moment : ℕ) → Q moment) → P moment × Q moment
    by None None none never always = (never refl moment fits, always refl moment)
    by None (Some b) none never always = absurd cc
    by (Some a) None none never always = absurd cc
    by (Some a) (Some b) none never always = absurd cc
