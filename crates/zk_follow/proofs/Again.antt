-- When the first of all subjects is read again: those that are due have no such moment.
use Rattle.std.proofs.Common.{◌≡◌, ◌<◌, ◌≤◌, ◌+◌, ◌∙◌, ◌||◌, ℕ, zero, suc, Bool, true, false, List, [], ◌∷◌, Option, Some, None}
use Rattle.std.proofs.Common.{fold, get_or, length, take, refl, sym, ap, arith}
use Rattle.std.specs.Prelude.{◌==◌, nat_lt}
use Rattle.std.proofs.lemmas.List.Folds.{list_any_more}
use Rattle.std.proofs.lemmas.Bool.Decides.{Decides-eqb, nat_tests}
use Rattle.zk_turns.specs.View.{View}
use Rattle.zk_follow.specs.declared.progress.Progress.{Progress}
use Rattle.zk_follow.specs.declared.progress.Progress.TheVariants.{Due, Reading, Refused}
use Rattle.zk_follow.specs.declared.subject.Subject.{Subject}
use Rattle.zk_follow.specs.Following.{again_at, first_again, first_of, is_among, is_due, AreStillBut}
use Rattle.zk_follow.specs.inner.Resting.{AreDueBut}
use Rattle.zk_follow.proofs.Still.{still_due}

-- ---- the first of moments

assoc : (a b c : Option ℕ) → first_of (first_of a b) c ≡ first_of a (first_of b c)
assoc None b c = refl
assoc (Some a) None c = refl
assoc (Some a) (Some b) None = refl
assoc (Some a) (Some b) (Some c) = ap Some (omega arith)

swap : (a b c : Option ℕ) → first_of (first_of a b) c ≡ first_of (first_of a c) b
swap None None None = refl
swap None None (Some c) = refl
swap None (Some b) None = refl
swap None (Some b) (Some c) = ap Some (omega arith)
swap (Some a) None None = refl
swap (Some a) None (Some c) = refl
swap (Some a) (Some b) None = refl
swap (Some a) (Some b) (Some c) = ap Some (omega arith)

twice : (a b : Option ℕ) → first_of (first_of a b) b ≡ first_of a b
twice None None = refl
twice None (Some b) = ap Some (omega arith)
twice (Some a) None = refl
twice (Some a) (Some b) = ap Some (omega arith)

own : (a b : Option ℕ) → first_of b (first_of a b) ≡ first_of a b
own None None = refl
own None (Some b) = ap Some (omega arith)
own (Some a) None = refl
own (Some a) (Some b) = ap Some (omega arith)

none_after : (a : Option ℕ) → first_of a None ≡ a
none_after None = refl
none_after (Some a) = refl

again_due : (progress : Progress) → is_due progress ≡ true → again_at progress ≡ None
again_due Due e = refl
again_due Reading e = absurd cc
again_due (Refused why until) e = absurd cc

-- ---- the first of all

module _ {A : Type 0} where
  abbrev its : Subject A → Option ℕ
  its subject = again_at subject.progress

  abbrev over : Option ℕ → List (Subject A) → Option ℕ
  over start subjects = fold (λ first subject. first_of first (again_at subject.progress)) start subjects

  absorbs : (first start : Option ℕ) (subjects : List (Subject A)) → first_of first start ≡ first
      → ((k : ℕ) (d : Subject A) → k < length subjects → first_of first (its (get_or subjects k d)) ≡ first)
      → first_of first (over start subjects) ≡ first
  absorbs first start [] e all = e
  absorbs first start (subject ∷ subjects) e all =
      absorbs first (first_of start (its subject)) subjects
      (sym (assoc first start (its subject)) ∙ ap (λ m. first_of m (its subject)) e ∙ all 0 subject (omega arith))
      (λ k d within. all (suc k) d (omega (arith, within)))

  stays : (first start : Option ℕ) (subjects : List (Subject A)) → first_of first start ≡ start
      → first_of first (over start subjects) ≡ over start subjects
  stays first start [] e = e
  stays first start (subject ∷ subjects) e =
      stays first (first_of start (its subject)) subjects
      (sym (assoc first start (its subject)) ∙ ap (λ m. first_of m (its subject)) e)

  -- none of them is before it
  none_before : (start : Option ℕ) (subjects : List (Subject A)) (k : ℕ) (d : Subject A) → k < length subjects
      → first_of (its (get_or subjects k d)) (over start subjects) ≡ over start subjects
  none_before start [] k d within = absurd (omega (arith, within))
  none_before start (subject ∷ subjects) zero d within =
      stays (its subject) (first_of start (its subject)) subjects (own start (its subject))
  none_before start (subject ∷ subjects) (suc k) d within =
      none_before (first_of start (its subject)) subjects k d (omega (arith, within))

  one_of : (all : List (Subject A)) (place : ℕ) → place < length all → Subject A
  one_of [] place within = absurd (omega (arith, within))
  one_of (subject ∷ all) place within = subject

  -- ---- one place after the other

  abbrev pub IsFirstOf : (first : Option ℕ) → List (Subject A) → (places : List ℕ) → Type 0
  IsFirstOf first subjects places =
      (k : ℕ) (d : Subject A) → k < length subjects → is_among k places ≡ true → first_of first (its (get_or subjects k d)) ≡ first

  module _ (subjects : List (Subject A)) (places : List ℕ) (index : ℕ) (within : index < length places) (first new : Option ℕ)
      (there : get_or places index 0 < length subjects
      → (d : Subject A) → new ≡ first_of first (its (get_or subjects (get_or places index 0) d)))
      (beyond : length subjects ≤ get_or places index 0 → new ≡ first) where
    abbrev place : ℕ
    place = get_or places index 0

    by : (k : ℕ) (d : Subject A) → k < length subjects → first_of first (its (get_or subjects k d)) ≡ first
        → first_of new (its (get_or subjects k d)) ≡ new
    by k d fits e = way (nat_lt place (length subjects)) refl
      where
        way : (b : Bool) → nat_lt place (length subjects) ≡ b → first_of new (its (get_or subjects k d)) ≡ new
        way true f =
            let is = there (grind (arith, nat_tests)) d in
            let its_place = its (get_or subjects place d) in
            let its_k = its (get_or subjects k d) in
            ap (λ n. first_of n its_k) is ∙ swap first its_place its_k ∙ ap (λ n. first_of n its_place) e ∙ sym is
        way false f = let is = beyond (grind (arith, nat_tests)) in ap (λ n. first_of n (its (get_or subjects k d))) is ∙ e ∙ sym is

    pub first_more : IsFirstOf first subjects (take index places) → IsFirstOf new subjects (take (index + 1) places)
    first_more had k d fits among =
        way (is_among k (take index places)) (k == place) refl refl (sym more ∙ among)
      where
        more : is_among k (take (index + 1) places) ≡ (is_among k (take index places) || k == place)
        more = list_any_more (λ one. k == one) places index 0 within

        way : (a b : Bool) → is_among k (take index places) ≡ a → (k == place) ≡ b → (a || b) ≡ true
            → first_of new (its (get_or subjects k d)) ≡ new
        way true b e f g = by k d fits (had k d fits e)
        way false true e f g =
            let at : k ≡ place = (Decides-eqb k place).0 f in
            let is = there (omega (arith, fits, at)) d in
            let same : its (get_or subjects k d) ≡ its (get_or subjects place d) = ap (λ n. its (get_or subjects n d)) at in
            ap (λ m. first_of new m) same ∙ ap (λ n. first_of n (its (get_or subjects place d))) is
            ∙ twice first (its (get_or subjects place d)) ∙ sym is
        way false false e f g = absurd cc

    pub above_more : first_of first (first_again subjects) ≡ first_again subjects
        → first_of new (first_again subjects) ≡ first_again subjects
    above_more e = way (nat_lt place (length subjects)) refl
      where
        way : (b : Bool) → nat_lt place (length subjects) ≡ b → first_of new (first_again subjects) ≡ first_again subjects
        way true f =
            let fits : place < length subjects = grind (arith, nat_tests) in
            let d = one_of subjects place fits in
            let its_place = its (get_or subjects place d) in
            ap (λ n. first_of n (first_again subjects)) (there fits d) ∙ assoc first its_place (first_again subjects)
            ∙ ap (λ m. first_of first m) (none_before None subjects place d fits) ∙ e
        way false f = ap (λ n. first_of n (first_again subjects)) (beyond (grind (arith, nat_tests))) ∙ e

  -- it is the first of all
  pub first_of_all : (subjects : List (Subject A)) (places : List ℕ) (first : Option ℕ) → AreDueBut subjects places
      → IsFirstOf first subjects places → first_of first (first_again subjects) ≡ first_again subjects → first ≡ first_again subjects
  first_of_all subjects places first due had above = sym (absorbs first None subjects (none_after first) all) ∙ above
    where
      all : (k : ℕ) (d : Subject A) → k < length subjects → first_of first (its (get_or subjects k d)) ≡ first
      all k d within = way (is_among k places) refl
        where
          way : (b : Bool) → is_among k places ≡ b → first_of first (its (get_or subjects k d)) ≡ first
          way true e = had k d within e
          way false e =
              ap (λ m. first_of first m) (again_due (get_or subjects k d).progress (due k d within e)) ∙ none_after first

  -- who is still is due
  pub due_but : (view : View) (count : ℕ) (subjects : List (Subject A)) (awake : List ℕ) → length subjects ≤ count
      → AreStillBut view count subjects awake → AreDueBut subjects awake
  due_but view count subjects awake all still k d within away =
      still_due view (get_or subjects k d) (still k d (omega (arith, within, all)) away)
