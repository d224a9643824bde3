-- The sooner of two moments: what is due at neither before it is due at none.
use Rattle.std.proofs.Common.{◌≡◌, ◌<◌, ◌≤◌, ◌^◌, ◌∙◌, Bool, true, false, ℕ, Option, None, Some, ap, arith, refl, subst, sym, true≢false}
use Rattle.std.proofs.Math.Nat.{min_comm, min-eq_left}
use Rattle.std.proofs.lemmas.Bool.{le-leb, lt-leb}
use Rattle.std.proofs.lemmas.Bool.Decides.{nat_tests}
use Rattle.std.specs.Prelude.{IfSome, min, nat_le}
use Rattle.zk_dialler.specs.Dialling.{has_come}
use Rattle.zk_contend.specs.Collections.{sooner}

comes_late : (moment first : ℕ) → moment < first → nat_le first moment ≡ false
comes_late moment first under = lt-leb first moment under

has_come_itself : (moment : ℕ) → nat_le moment moment ≡ true
has_come_itself moment = le-leb moment moment (omega arith)

below_first : (moment a b : ℕ) → moment < min a b → moment < a
below_first moment a b below = omega (arith, below)

below_second : (moment a b : ℕ) → moment < min a b → moment < b
below_second moment a b below = omega (arith, below)

module _ (Quiet : ℕ → Type 0) where
  abbrev Before : Option ℕ → Type 0
  Before first = IfSome first (λ first. (moment : ℕ) → moment < 2 ^ 64 → moment < first → Quiet moment)

  abbrev Never : Option ℕ → Type 0
  Never first = first ≡ None → (moment : ℕ) → moment < 2 ^ 64 → Quiet moment

  abbrev Due : Option ℕ → Type 0
  Due first = IfSome first (λ first. ¬ (Quiet first))

  pub sooner_before : (first other : Option ℕ) → Before first → Never first
      → IfSome (sooner first other) (λ all. (moment : ℕ) → moment < 2 ^ 64 → moment < all → Quiet moment × (has_come moment other ≡ false))
  sooner_before None None before never = tt
  sooner_before None (Some other) before never = λ moment low under. (never refl moment low, comes_late moment other under)
  sooner_before (Some first) None before never = λ moment low under. (before moment low under, refl)
  sooner_before (Some first) (Some other) before never = λ moment low under.
      (before moment low (below_first moment first other under), comes_late moment other (below_second moment first other under))

  pub sooner_due : (first other : Option ℕ) → Due first
      → IfSome (sooner first other) (λ all. ¬ (Quiet all × (has_come all other ≡ false)))
  sooner_due None None due = tt
  sooner_due None (Some other) due = λ both. true≢false (sym (has_come_itself other) ∙ both.1)
  sooner_due (Some first) None due = λ both. due both.0
  sooner_due (Some first) (Some other) due = by (nat_le first other) refl
    where
      by : (b : Bool) → nat_le first other ≡ b → ¬ (Quiet (min first other) × (nat_le other (min first other) ≡ false))
      by true e = λ both. let low : first ≤ other = grind (arith, nat_tests) in due (subst Quiet (min-eq_left low) both.0)
      by false e = λ both. let low : other ≤ first = grind (arith, nat_tests) in
          true≢false (sym (has_come_itself other)
          ∙ subst (λ m. nat_le other m ≡ false) (min_comm first other ∙ min-eq_left low) both.1)

  pub sooner_never : (first other : Option ℕ) → Never first → sooner first other ≡ None
      → (moment : ℕ) → moment < 2 ^ 64 → Quiet moment × (has_come moment other ≡ false)
  sooner_never None None never none = λ moment low. (never refl moment low, refl)
  sooner_never None (Some other) never none = absurd cc
  sooner_never (Some first) None never none = absurd cc
  sooner_never (Some first) (Some other) never none = absurd cc

pub sooner_none : (first other : Option ℕ) → first ≡ None → other ≡ None → sooner first other ≡ None
sooner_none first other none no_other = ap (λ (f : Option ℕ). sooner f other) none ∙ no_other
