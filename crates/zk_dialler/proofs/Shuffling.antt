-- A shuffle goes on with one place fewer.
use Rattle.std.proofs.Common.{◌≡◌, ◌<◌, ◌+◌, ◌-◌, ℕ, zero, suc, List, [], ◌∷◌, ◌++◌, length, take, length-append, refl, ap, ◌∙◌, arith}
use Rattle.std.proofs.Math.Seq.{take-append_seam}
use Rattle.std.specs.Prelude.{swap}
use Rattle.zk_dialler.specs.Chances.{next_state, number_below, state_after}
use Rattle.zk_dialler.specs.Orders.{numbers, shuffled}

pub shuffled_step : (state left : ℕ) (order : List ℕ) → 0 < left
    → shuffled (next_state state) (left - 1) (swap order (left - 1) (number_below left (next_state state))) ≡ shuffled state left order
shuffled_step state zero order some = absurd (omega arith)
shuffled_step state (suc left) order some =
    let one_less : suc left - 1 ≡ left = omega arith in
    ap (λ place. shuffled (next_state state) place (swap order place (number_below (suc left) (next_state state)))) one_less

pub numbers_step : (count : ℕ) → numbers (count + 1) ≡ numbers count ++ count ∷ []
numbers_step count = let more : count + 1 ≡ suc count = omega arith in ap numbers more

pub length_numbers : (count : ℕ) → length (numbers count) ≡ count
length_numbers zero = refl
length_numbers (suc count) = let before = length_numbers count in omega (arith, length-append (numbers count) (count ∷ []))

-- one place is exchanged, and the rest of the order is made as before
pub goes_on : (state left : ℕ) (order : List ℕ) (next place : ℕ) (swapped : List ℕ)
    → 0 < left → next ≡ next_state state → place ≡ number_below left next
    → swapped ≡ swap order (left - 1) place → shuffled next (left - 1) swapped ≡ shuffled state left order
goes_on state left order next place swapped some by_state by_number by_swap =
    ap (shuffled next (left - 1)) (by_swap ∙ ap (swap order (left - 1)) by_number)
    ∙ ap (λ at. shuffled at (left - 1) (swap order (left - 1) (number_below left at))) by_state
    ∙ shuffled_step state left order some

-- the chance goes on by one number
pub one_number : (state left next : ℕ) → 0 < left → next ≡ next_state state → state_after (left - 1) next ≡ state_after left state
one_number state zero next some e = absurd (omega arith)
one_number state (suc left) next some e = let one_less : suc left - 1 ≡ left = omega arith in
    ap (λ n. state_after n next) one_less ∙ ap (state_after left) e

-- the slice of all places is written back
pub whole_order : (state count size : ℕ) (before after rest : List ℕ)
    → size ≡ length after → after ≡ shuffled state (length before) before → before ≡ numbers count
    → take size (after ++ rest) ≡ shuffled state count (numbers count)
whole_order state count size before after rest fits exact first =
    ap (λ n. take n (after ++ rest)) fits ∙ take-append_seam after rest ∙ exact ∙ ap (λ order. shuffled state (length order) order) first
    ∙ ap (λ n. shuffled state n (numbers count)) (length_numbers count)
