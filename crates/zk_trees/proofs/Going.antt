-- Which tickets are those of what is gone, one subject after another: the tickets so far and those of the subjects left are all. If there
-- are none, all stay.
use Rattle.std.proofs.Common.{◌≡◌, ◌<◌, ◌+◌, ◌++◌, ◌∙◌, ℕ, Bool, true, false, List, [], ◌∷◌, length, get_or, drop, sym, ap}
use Rattle.std.proofs.Common.{append_assoc, arith, not, refl}
use Rattle.std.specs.Prelude.{cond, if◌then◌else◌}
use Rattle.std.specs.List.{filter}
use Rattle.std.proofs.lemmas.List.{drop_more}
use Rattle.zk_turns.specs.View.{View}
use Rattle.zk_trees.specs.Trees.{is_gone, stays, tickets_gone}
use Rattle.zk_trees.specs.declared.member.Member.{Member}

first_of : {A N : Type 0} (view : View) (one : Member A N) (rest : List (Member A N)) (b : Bool) → is_gone view one ≡ b
    → tickets_gone view (one ∷ rest) ≡ cond b (one.ticket ∷ tickets_gone view rest) (tickets_gone view rest)
first_of view one rest true is = grind (arith, is)
first_of view one rest false is = grind (arith, is)

module _ {A N : Type 0} (view : View) (members : List (Member A N)) (index : ℕ) (one : Member A N) (within : index < length members)
    (at : one ≡ get_or members index one) where
  split : drop index members ≡ one ∷ drop (index + 1) members
  split = drop_more members index one within ∙ ap (λ w. w ∷ drop (index + 1) members) (sym at)

  -- one that is gone
  pub gone_more : (tickets all : List ℕ) → is_gone view one ≡ true → tickets ++ tickets_gone view (drop index members) ≡ all
      → (tickets ++ one.ticket ∷ []) ++ tickets_gone view (drop (index + 1) members) ≡ all
  gone_more tickets all is whole =
      append_assoc tickets (one.ticket ∷ []) (tickets_gone view (drop (index + 1) members))
      ∙ ap (λ l. tickets ++ l) (sym (ap (tickets_gone view) split ∙ first_of view one (drop (index + 1) members) true is)) ∙ whole

  -- one that stays
  pub gone_less : (tickets all : List ℕ) → is_gone view one ≡ false → tickets ++ tickets_gone view (drop index members) ≡ all
      → tickets ++ tickets_gone view (drop (index + 1) members) ≡ all
  gone_less tickets all is whole =
      ap (λ l. tickets ++ l) (sym (ap (tickets_gone view) split ∙ first_of view one (drop (index + 1) members) false is)) ∙ whole

-- If no ticket is that of one that is gone, all stay.
pub none_gone : {A N : Type 0} (view : View) (members : List (Member A N)) → length (tickets_gone view members) ≡ 0
    → filter (stays view) members ≡ members
none_gone view [] none = refl
none_gone {A} {N} view (one ∷ rest) none = by (is_gone view one) refl (none_gone view rest)
  where
    by : (b : Bool) → is_gone view one ≡ b → (length (tickets_gone view rest) ≡ 0 → filter (stays view) rest ≡ rest)
        → filter (stays view) (one ∷ rest) ≡ one ∷ rest
    by true e rest_stays = let some : length (tickets_gone view (one ∷ rest)) ≡ length (one.ticket ∷ tickets_gone view rest) =
        ap length (first_of view one rest true e) in absurd (omega (arith, none, some))
    by false e rest_stays =
        ap (λ (b : Bool). if not b then one ∷ filter (stays view) rest else filter (stays view) rest) e
        ∙ ap (λ l. one ∷ l) (rest_stays (sym (ap length (first_of view one rest false e)) ∙ none))
