-- Where none is due now, none is before the deadline: that is no later than the end of any pause.
use Rattle.std.proofs.Common.{ℕ, ◌≡◌, ◌≤◌, ◌∙◌, Bool, true, false, ◌||◌, List, [], ◌∷◌, Option, Some, None, IfSome, nat_eq, nat_lt}
use Rattle.std.proofs.Common.{fold, is_some, min, option_map, refl, sym, ap, subst, true≢false, arith}
use Rattle.std.proofs.Math.Nat.{min-le_left, min-le_right}
use Rattle.std.proofs.lemmas.Bool.Decides.{Decides-eqb}
use Rattle.zk_turns.specs.View.{View}
use Rattle.zk_contend.specs.declared.contender.LockContender.{LockContender}
use Rattle.zk_contend.specs.declared.refused.Refused.{Refused}
use Rattle.zk_contend.specs.Collections.{first_until, is_in, one_of, sooner, until_of, NothingBefore}
use Rattle.zk_contend.specs.Dues.{IsAtRest, Rests}
use Rattle.zk_contend.specs.Hearing.{is_paused}
use Rattle.zk_contend.specs.Places.{is_ready}

-- There is one, and it is no later.
abbrev AtMost : Option ℕ → ℕ → Type 0
AtMost None moment = ⊥
AtMost (Some first) moment = first ≤ moment

keeps : (first other : Option ℕ) (moment : ℕ) → AtMost first moment → AtMost (sooner first other) moment
keeps None other moment least = absurd least
keeps (Some first) None moment least = least
keeps (Some first) (Some other) moment least = let less : min first other ≤ first = min-le_left first other in omega (arith, less, least)

takes : (first : Option ℕ) (moment : ℕ) → AtMost (sooner first (Some moment)) moment
takes None moment = omega arith
takes (Some first) moment = min-le_right first moment

module _ {A : Type 0} (one : ℕ → Option (LockContender A)) where
  abbrev step : Option ℕ → ℕ → Option ℕ
  step first ticket = sooner first (until_of (one ticket))

  fold_keeps : (first : Option ℕ) (tickets : List ℕ) (moment : ℕ) → AtMost first moment → AtMost (fold step first tickets) moment
  fold_keeps first [] moment least = least
  fold_keeps first (ticket ∷ tickets) moment least =
      fold_keeps (step first ticket) tickets moment (keeps first (until_of (one ticket)) moment least)

  fold_by : (first : Option ℕ) (other : ℕ) (tickets : List ℕ) (ticket moment : ℕ) → until_of (one ticket) ≡ Some moment
      → (is_it : Bool) → nat_eq ticket other ≡ is_it → (is_it || is_in ticket tickets) ≡ true
      → (is_in ticket tickets ≡ true → AtMost (fold step (step first other) tickets) moment)
      → AtMost (fold step (step first other) tickets) moment
  fold_by first other tickets ticket moment until true e there more =
      let is : until_of (one other) ≡ Some moment = ap (λ t. until_of (one t)) (sym ((Decides-eqb ticket other).0 e)) ∙ until in
      fold_keeps (step first other) tickets moment (subst (λ o. AtMost (sooner first o) moment) (sym is) (takes first moment))
  fold_by first other tickets ticket moment until false e there more = more there

  fold_takes : (first : Option ℕ) (tickets : List ℕ) (ticket moment : ℕ) → is_in ticket tickets ≡ true
      → until_of (one ticket) ≡ Some moment → AtMost (fold step first tickets) moment
  fold_takes first [] ticket moment there until = absurd (true≢false (sym there))
  fold_takes first (other ∷ tickets) ticket moment there until =
      fold_by first other tickets ticket moment until (nat_eq ticket other) refl there
      (λ so. fold_takes (step first other) tickets ticket moment so until)

-- a pause is not over before that
not_over : (first : Option ℕ) (until moment : ℕ) → AtMost first until
    → ((at : ℕ) → first ≡ Some at → nat_lt moment at ≡ true) → nat_lt moment until ≡ true
not_over None until moment least before = absurd least
not_over (Some first) until moment least before =
    let less : nat_lt moment first ≡ true = before first refl in grind (arith, less, least)

-- when a pause is over
abbrev until_in : Option Refused → Option ℕ
until_in refused = option_map (λ r. r.until) refused

module _ {A : Type 0} (view : View) (now moment : ℕ) (first : Option ℕ)
    (before : (at : ℕ) → first ≡ Some at → nat_lt moment at ≡ true) where
  rests_by : (contender : LockContender A) (refused : Option Refused)
      → ((until : ℕ) → until_in refused ≡ Some until → AtMost first until)
      → (is_some contender.asked ≡ false → is_paused now refused ≡ false → is_ready view ≡ true → Rests view contender)
      → is_some contender.asked ≡ false → is_paused moment refused ≡ false → is_ready view ≡ true → Rests view contender
  rests_by contender None least rests nothing pause ready = rests nothing refl ready
  rests_by contender (Some refused) least rests nothing pause ready =
      absurd (true≢false (sym (not_over first refused.until moment (least refused.until refl) before) ∙ pause))

  rests_at : (one : Option (LockContender A)) → ((until : ℕ) → until_of one ≡ Some until → AtMost first until)
      → IfSome one (IsAtRest view now) → IfSome one (IsAtRest view moment)
  rests_at None least rests = tt
  rests_at (Some contender) least rests = rests_by contender contender.refused least rests

pub nothing_before : (A : Type 0) → NothingBefore A
nothing_before A view contenders now moment rests before =
    λ ticket there.
    rests_at view now moment (first_until contenders) before (one_of contenders ticket)
    (λ until is. fold_takes (one_of contenders) None contenders.stirred.awake.items ticket until there is)
    (rests ticket there)
