-- The first of several moments is the first at which one of them has come: two at a time, and so of five.
use Rattle.std.proofs.Common.{◌≡◌, ◌<◌, ◌^◌, ℕ, Bool, true, false, ◌||◌, Option, Some, None, refl, sym, ap, subst, ◌∙◌, arith}
use Rattle.std.specs.Prelude.{nat_le, min, IfSome}
use Rattle.std.proofs.lemmas.Bool.Decides.{nat_tests}
use Rattle.zk_dialler.specs.Dialling.{has_come}
use Rattle.zk_follow.specs.Following.{first_of}

or_false : (b : Bool) → b ≡ (b || false)
or_false true = refl
or_false false = refl

-- one of two has come where the first of them has
one_came : (now : ℕ) (moment other : Option ℕ) → has_come now (first_of moment other) ≡ (has_come now moment || has_come now other)
one_came now None other = refl
one_came now (Some moment) None = or_false (nat_le moment now)
one_came now (Some moment) (Some other) = by (nat_le moment now) (nat_le other now) refl refl
  where
    by : (a b : Bool) → nat_le moment now ≡ a → nat_le other now ≡ b
        → nat_le (min moment other) now ≡ (nat_le moment now || nat_le other now)
    by true b e f = let g : nat_le (min moment other) now ≡ true = grind (arith, nat_tests) in g ∙ ap (λ x. x || nat_le other now) (sym e)
    by false true e f = let g : nat_le (min moment other) now ≡ true = grind (arith, nat_tests) in
        g ∙ sym (ap (λ x. x || nat_le other now) e ∙ f)
    by false false e f = let g : nat_le (min moment other) now ≡ false = grind (arith, nat_tests) in
        g ∙ sym (ap (λ x. x || nat_le other now) e ∙ f)

first_false : (a b : Bool) → (a || b) ≡ false → a ≡ false
first_false true b e = e
first_false false b e = refl

second_false : (a b : Bool) → (a || b) ≡ false → b ≡ false
second_false true b e = absurd (let f : true ≡ false = e in cc)
second_false false b e = e

not_yet : (now first : ℕ) → now < first → nat_le first now ≡ false
not_yet now first before = grind (arith, nat_tests)

at_itself : (moment : ℕ) → nat_le moment moment ≡ true
at_itself moment = grind (arith, nat_tests)

-- of five moments
module _ (first : ℕ) (due attempt again limit answer : Option ℕ)
    (is : Some first ≡ first_of (first_of (first_of (first_of due attempt) again) limit) answer) where
  abbrev two : Option ℕ
  two = first_of due attempt

  abbrev three : Option ℕ
  three = first_of two again

  abbrev four : Option ℕ
  four = first_of three limit

  pub none_came : (now : ℕ) → now < first
      → (has_come now due ≡ false) × ((has_come now attempt ≡ false)
      × ((has_come now again ≡ false) × ((has_come now limit ≡ false) × (has_come now answer ≡ false))))
  none_came now before =
      let of_five : (has_come now four || has_come now answer) ≡ false =
      sym (one_came now four answer) ∙ ap (has_come now) (sym is) ∙ not_yet now first before in
      let all : (has_come now three || has_come now limit) ≡ false =
      sym (one_came now three limit) ∙ first_false (has_come now four) (has_come now answer) of_five in
      let of_three : (has_come now two || has_come now again) ≡ false =
      sym (one_came now two again) ∙ first_false (has_come now three) (has_come now limit) all in
      let of_two : (has_come now due || has_come now attempt) ≡ false =
      sym (one_came now due attempt) ∙ first_false (has_come now two) (has_come now again) of_three in (
        first_false (has_come now due) (has_come now attempt) of_two,
        (
          second_false (has_come now due) (has_come now attempt) of_two,
          (
            second_false (has_come now two) (has_come now again) of_three,
            (second_false (has_come now three) (has_come now limit) all, second_false (has_come now four) (has_come now answer) of_five),
          ),
        ),
      )

  came : (moment other : Option ℕ) → has_come first other ≡ false → has_come first moment ≡ has_come first (first_of moment other)
  came moment other not_other =
      or_false (has_come first moment) ∙ ap (λ b. has_come first moment || b) (sym not_other) ∙ sym (one_came first moment other)

  -- where the others have not come, the first is the one that is due
  pub is_first : (has_come first attempt ≡ false) → (has_come first again ≡ false) → (has_come first limit ≡ false)
      → (has_come first answer ≡ false) → due ≡ Some first
  is_first attempt_not again_not limit_not answer_not = by due refl
    where
      due_came : has_come first due ≡ true
      due_came = came due attempt attempt_not ∙ came two again again_not ∙ came three limit limit_not ∙ came four answer answer_not
          ∙ ap (has_come first) (sym is) ∙ at_itself first

      by : (d : Option ℕ) → due ≡ d → due ≡ Some first
      by None e = absurd (let f : false ≡ true = ap (has_come first) (sym e) ∙ due_came in cc)
      by (Some moment) e =
          let past : nat_le moment first ≡ true = ap (has_come first) (sym e) ∙ due_came in
          let not_before : moment < first → ⊥ = λ before.
          let none : has_come moment due ≡ false = (none_came moment before).0 in
          let some : has_come moment due ≡ true = ap (has_come moment) e ∙ at_itself moment in
          let f : true ≡ false = sym some ∙ none in cc in
          e ∙ ap Some (same moment past not_before)
        where
          same : (moment : ℕ) → nat_le moment first ≡ true → (moment < first → ⊥) → moment ≡ first
          same moment past not_before = grind (arith, nat_tests)

-- what is known of a moment at which nothing is due
pub quiet_by : (P : ℕ → Type 0) (due : Option ℕ) → IfSome due (λ first. (moment : ℕ) → moment < first → P moment)
    → (due ≡ None → (moment : ℕ) → moment < 2 ^ 64 → P moment)
    → (moment : ℕ) → moment < 2 ^ 64 → has_come moment due ≡ false → P moment
quiet_by P None before never moment fits not_come = never refl moment fits
quiet_by P (Some first) before never moment fits not_come = let early : moment < first = grind (arith, nat_tests) in before moment early

pub loud_by : (P : ℕ → Type 0) (due : Option ℕ) (first : ℕ) → due ≡ Some first → IfSome due (λ first. ¬ (P first)) → ¬ (P first)
loud_by P due first is loud = subst (λ d. IfSome d (λ first. ¬ (P first))) is loud

neither : (moment other : Option ℕ) → None ≡ first_of moment other → (moment ≡ None) × (other ≡ None)
neither None None is = (refl, refl)
neither None (Some b) is = absurd cc
neither (Some a) None is = absurd cc
neither (Some a) (Some b) is = absurd cc

pub none_left : (due attempt again limit answer : Option ℕ)
    → None ≡ first_of (first_of (first_of (first_of due attempt) again) limit) answer
    → (due ≡ None) × ((attempt ≡ None) × ((again ≡ None) × ((limit ≡ None) × (answer ≡ None))))
none_left due attempt again limit answer is =
    let fourth = neither (first_of (first_of (first_of due attempt) again) limit) answer is in
    let last = neither (first_of (first_of due attempt) again) limit (sym fourth.0) in
    let third = neither (first_of due attempt) again (sym last.0) in
    let two = neither due attempt (sym third.0) in (two.0, (two.1, (third.1, (last.1, fourth.1))))

pub if_some : (moment : Option ℕ) (P : ℕ → Type 0) → ((first : ℕ) → moment ≡ Some first → P first) → IfSome moment P
if_some None P to = tt
if_some (Some first) P to = to first refl
