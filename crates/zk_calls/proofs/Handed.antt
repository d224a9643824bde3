-- How many calls, the first of them, were handed over: one that is added is behind them, the next that is handed over is the first of the
-- others, and where one of them is taken out one less was.
use Rattle.std.proofs.Common.{◌≡◌, ◌<◌, ◌≤◌, ◌+◌, ◌-◌, ◌++◌, ◌≢◌, nat_lt, ℕ, Bool, true, false, List, [], ◌∷◌, length, get_or, set, refl}
use Rattle.std.proofs.Common.{◌∙◌, ap, arith}
use Rattle.std.proofs.Math.ListN.{length-set}
use Rattle.std.specs.List.{remove}
use Rattle.std.proofs.lemmas.Bool.Decides.{nat_tests}
use Rattle.std.proofs.lemmas.Grind.{common_steps}
use Rattle.std.proofs.lemmas.List.{get_or-set_same, get_or-set_other}
use Rattle.std.proofs.lemmas.List.Edits.{get_or-remove_above, get_or-remove_below, length-remove}
use Rattle.zk_calls.specs.declared.entry.Entry.{Entry}
use Rattle.zk_calls.specs.Lines.{waits_turn}
use Rattle.zk_calls.specs.Orders.{AreHanded}

module _ {A : Type 0} (entries : List (Entry A)) where
  pub handed_added : (count : ℕ) (entry : Entry A) → AreHanded count entries → AreHanded count (entries ++ entry ∷ [])
  handed_added count entry are =
      let within : count ≤ length (entries ++ entry ∷ []) = let long : count ≤ length entries = are.0 in grind (arith, common_steps) in (
        within,
        λ k d below.
            let inside : k < length entries = let long : count ≤ length entries = are.0 in omega arith in
            let same : get_or (entries ++ entry ∷ []) k d ≡ get_or entries k d = grind (arith, common_steps) in
            ap waits_turn same ∙ are.1 k d below,
      )

  -- the next one is handed over
  one_handed : (place : ℕ) (entry : Entry A)
      → place < length entries → ((k : ℕ) (d : Entry A) → k < place → waits_turn (get_or entries k d) ≡ false) → waits_turn entry ≡ false
      → (k : ℕ) (d : Entry A) (less : Bool) → nat_lt k place ≡ less → k < place + 1
      → waits_turn (get_or (set entries place entry) k d) ≡ false
  one_handed place entry below none its k d true sooner upto =
      let less : k < place = grind (arith, nat_tests) in
      let other : k ≢ place = omega arith in
      ap waits_turn (get_or-set_other entries place k entry d other) ∙ none k d less
  one_handed place entry below none its k d false later upto =
      let at : k ≡ place = grind (arith, nat_tests) in
      ap (λ n. waits_turn (get_or (set entries place entry) n d)) at ∙ ap waits_turn (get_or-set_same entries place entry d below) ∙ its

  pub handed_next : (place : ℕ) (entry : Entry A)
      → place < length entries → ((k : ℕ) (d : Entry A) → k < place → waits_turn (get_or entries k d) ≡ false) → waits_turn entry ≡ false
      → AreHanded (place + 1) (set entries place entry)
  handed_next place entry below none its =
      let within : place + 1 ≤ length (set entries place entry) = simp length-set (omega arith) in
      (within, λ k d upto. one_handed place entry below none its k d (nat_lt k place) refl upto)

  -- one of them is taken out
  one_gone : (count place : ℕ)
      → place < length entries → place < count → ((k : ℕ) (d : Entry A) → k < count → waits_turn (get_or entries k d) ≡ false)
      → (k : ℕ) (d : Entry A) (less : Bool) → nat_lt k place ≡ less → k < count - 1
      → waits_turn (get_or (remove entries place) k d) ≡ false
  one_gone count place below before are k d true sooner upto =
      let less : k < place = grind (arith, nat_tests) in
      let inside : k < count = omega arith in
      ap waits_turn (get_or-remove_below entries place d k less below) ∙ are k d inside
  one_gone count place below before are k d false later upto =
      let from : place ≤ k = grind (arith, nat_tests) in
      let inside : k + 1 < count = omega arith in
      ap waits_turn (get_or-remove_above entries place d k from below) ∙ are (k + 1) d inside

  pub handed_removed : (count place : ℕ)
      → place < length entries → place < count → AreHanded count entries → AreHanded (count - 1) (remove entries place)
  handed_removed count place below before are =
      let shorter : length (remove entries place) + 1 ≡ length entries = length-remove entries place below in
      let long : count ≤ length entries = are.0 in
      let within : count - 1 ≤ length (remove entries place) = omega arith in
      (within, λ k d upto. one_gone count place below before are.1 k d (nat_lt k place) refl upto)
