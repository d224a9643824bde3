-- When trees are due: by the order of moments.
use Rattle.std.proofs.Common.{◌≡◌, ◌<◌, ◌||◌, ℕ, Bool, true, false, not, refl, ap, ◌∙◌, arith}
use Rattle.std.proofs.lemmas.Bool.Decides.{nat_tests}
use Rattle.std.specs.Prelude.{nat_lt}

or_true : (b : Bool) → (b || true) ≡ true
or_true true = refl
or_true false = refl

pub before : (is_behind : Bool) (moment due : ℕ) → moment < due → (not is_behind || nat_lt moment due) ≡ true
before is_behind moment due below =
    let less : nat_lt moment due ≡ true = grind (arith, nat_tests) in
    ap (λ b. not is_behind || b) less ∙ or_true (not is_behind)

pub at_due : (is_behind : Bool) (due : ℕ) → is_behind ≡ true → (not is_behind || nat_lt due due) ≡ false
at_due is_behind due is =
    let less : nat_lt due due ≡ false = grind (arith, nat_tests) in
    ap (λ b. not b || nat_lt due due) is ∙ less

pub always : (is_behind : Bool) (moment due : ℕ) → is_behind ≡ false → (not is_behind || nat_lt moment due) ≡ true
always is_behind moment due is = ap (λ b. not b || nat_lt moment due) is
