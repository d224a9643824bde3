-- A number below the greatest that is the same: nothing of that kind was said, as each saying raises such a number.
use Rattle.std.proofs.Common.{◌≡◌, ℕ, ◌-◌, ◌^◌, ◌<◌, ◌≤◌, Bool, true, false, ◌||◌, cond, List, [], ◌∷◌, refl, sym, ap, ◌∙◌, arith}
use Rattle.zk_turns.specs.Turns.{Item, Turned, Forgets, Halts, Output}
use Rattle.std.specs.List.{list_any}
use Rattle.zk_client.specs.declared.output.Output.{Output as Made}
use Rattle.zk_client.specs.Views.{output_view, said}
use Rattle.zk_conclusions.specs.Revisions.{has_change, raised, noted, number_after, AreQuiet, SameNumberIsUnchanged}
use Rattle.zk_conclusions.proofs.Quiet.{quiet_is_unchanged}

-- what is raised is more, where it was not the last one
pub raised_more : (number other : ℕ) → number < 2 ^ 64 - 1 → number ≤ other → raised other ≡ number → ⊥
raised_more number other lt le e = grind arith

pub raised_least : (number other : ℕ) → number < 2 ^ 64 - 1 → number ≤ other → number ≤ raised other
raised_least number other lt le = grind arith

pub noted_quiet : (outputs : List Output) (number other : ℕ)
    → number < 2 ^ 64 - 1 → number ≤ other → noted outputs other ≡ number → (has_change outputs ≡ false) × (other ≡ number)
noted_quiet outputs number other lt le e = by (has_change outputs) refl
  where
    by : (b : Bool) → has_change outputs ≡ b → (has_change outputs ≡ false) × (other ≡ number)
    by true f = absurd (raised_more number other lt le (sym (ap (λ (c : Bool). cond c (raised other) other) f) ∙ e))
    by false f = (f, sym (ap (λ (c : Bool). cond c (raised other) other) f) ∙ e)

pub noted_least : (outputs : List Output) (number other : ℕ) → number < 2 ^ 64 - 1 → number ≤ other → number ≤ noted outputs other
noted_least outputs number other lt le = by (has_change outputs)
  where
    by : (b : Bool) → number ≤ cond b (raised other) other
    by true = raised_least number other lt le
    by false = le

least : (number : ℕ) (items : List Item) → number < 2 ^ 64 - 1 → number ≤ number_after number items
least number [] lt = grind arith
least number (Turned turn ∷ items) lt = noted_least turn.outputs number (number_after number items) lt (least number items lt)
least number (Forgets ∷ items) lt = least number items lt
least number (Halts ∷ items) lt = raised_least number (number_after number items) lt (least number items lt)

quiet : (number : ℕ) (items : List Item) → number < 2 ^ 64 - 1 → number_after number items ≡ number → AreQuiet items
quiet number [] lt e = tt
quiet number (Turned turn ∷ items) lt e =
    let said = noted_quiet turn.outputs number (number_after number items) lt (least number items lt) e in
    (said.0, quiet number items lt said.1)
quiet number (Forgets ∷ items) lt e = quiet number items lt e
quiet number (Halts ∷ items) lt e = raised_more number (number_after number items) lt (least number items lt) e

pub same_number : SameNumberIsUnchanged
same_number start more items view after number s t lt e = quiet_is_unchanged start more items view after s t (quiet number more lt e)

-- a test of what outputs say is one of the outputs
pub any_said : {A : Type 0} (test : Output → Bool) (made : List (Made A))
    → list_any test (said made) ≡ list_any (λ output. test (output_view output)) made
any_said test [] = refl
any_said test (output ∷ made) = ap (λ (b : Bool). test (output_view output) || b) (any_said test made)
