-- Places in order are gone over one after the other: between two of them there is none.
use Rattle.std.proofs.Common.{◌≡◌, ◌≢◌, ◌≤◌, ◌<◌, ◌+◌, ◌++◌, ◌∙◌, ℕ, zero, suc, Bool, true, false, List, [], ◌∷◌, length, get_or, set}
use Rattle.std.proofs.Common.{drop, map, take, refl, sym, ap, subst, arith, append_assoc, inl, inr, ◌-◌, ◌||◌, ◌⊎◌}
use Rattle.std.specs.Prelude.{◌==◌, nat_lt, All}
use Rattle.std.specs.List.{flat_map}
use Rattle.std.proofs.lemmas.List.{append-nil, get_or_default, get_or-set_other, get_or-set_same, length-set, set-get_or}
use Rattle.std.proofs.lemmas.List.Edits.{map_over_more}
use Rattle.std.proofs.lemmas.List.Folds.{list_any_at, list_any_more, list_any_none}
use Rattle.std.proofs.lemmas.Bool.Decides.{Decides-eqb, nat_tests}
use Rattle.zk_turns.specs.Turns.{Output}
use Rattle.zk_turns.specs.View.{View}
use Rattle.zk_follow.specs.declared.subject.Subject.{Subject}
use Rattle.zk_follow.specs.Following.{is_among, news_in, told_of, IsCounted, IsFollowed, IsVisited}
use Rattle.zk_follow.specs.inner.Following.{AreSeen, Asks}
use Rattle.zk_follow.specs.inner.Places.{AreSameBut, IsAscending}
use Rattle.zk_follow.specs.inner.Resting.{AreTold}
use Rattle.zk_follow.proofs.Asking.{others_counted, others_followed}
use Rattle.zk_follow.proofs.Visiting.{same_after, SameFrom}
use Rattle.zk_follow.proofs.Still.{still_news, still_told}
use Rattle.zk_follow.proofs.Telling.{at_seam, flat_more}
use Rattle.std.proofs.lemmas.Grind.{get_or_default_zero}

-- ---- between places

-- where the part begins that comes after so many places
abbrev pub start_of : List ℕ → ℕ → ℕ
start_of places zero = 0
start_of places (suc count) = get_or places count 0 + 1

pub start_next : (places : List ℕ) (count : ℕ) → start_of places (count + 1) ≡ get_or places count 0 + 1
start_next places count = let e : count + 1 ≡ suc count = omega arith in ap (start_of places) e

module _ (places : List ℕ) (ascend : IsAscending places) where
  pub start_low : (count : ℕ) → count < length places → start_of places count ≤ get_or places count 0
  start_low zero within = omega arith
  start_low (suc count) within =
      let less : get_or places count 0 < get_or places (suc count) 0 = ascend count (suc count) (omega arith) within in
      omega (arith, less)

  low : (count j : ℕ) → j < count → count ≤ length places → get_or places j 0 < start_of places count
  low zero j less within = absurd (omega (arith, less))
  low (suc count) j less within = by (nat_lt j count) refl
    where
      by : (b : Bool) → nat_lt j count ≡ b → get_or places j 0 < get_or places count 0 + 1
      by true e =
          let before : j < count = grind (arith, nat_tests) in
          let rises : get_or places j 0 < get_or places count 0 = ascend j count before (omega (arith, within)) in
          omega (arith, rises)
      by false e =
          let is : j ≡ count = grind (arith, nat_tests) in
          let same : get_or places j 0 ≡ get_or places count 0 = ap (λ n. get_or places n 0) is in
          omega (arith, same)

  pub high : (count j : ℕ) → count ≤ j → j < length places → get_or places count 0 ≤ get_or places j 0
  high count j le within = by (nat_lt count j) refl
    where
      by : (b : Bool) → nat_lt count j ≡ b → get_or places count 0 ≤ get_or places j 0
      by true e =
          let before : count < j = grind (arith, nat_tests) in
          let rises : get_or places count 0 < get_or places j 0 = ascend count j before within in
          omega (arith, rises)
      by false e =
          let is : count ≡ j = grind (arith, nat_tests) in
          let same : get_or places count 0 ≡ get_or places j 0 = ap (λ n. get_or places n 0) is in
          omega (arith, same)

  -- what is after those before a place, and before that place, is none of them
  pub between : (count k : ℕ) → count ≤ length places → start_of places count ≤ k → (count < length places → k < get_or places count 0)
      → is_among k places ≡ false
  between count k fits after before = list_any_none (λ its. k == its) places none
    where
      differs : (its : ℕ) → k ≢ its → (k == its) ≡ false
      differs its other = by (k == its) refl
        where
          by : (b : Bool) → (k == its) ≡ b → b ≡ false
          by true e = absurd (other ((Decides-eqb k its).0 e))
          by false e = refl

      none : All (λ its. (k == its) ≡ false) places
      none j d within = by (nat_lt j count) refl
        where
          is : get_or places j d ≡ get_or places j 0
          is = get_or_default_zero places j d within

          by : (b : Bool) → nat_lt j count ≡ b → (k == get_or places j d) ≡ false
          by true e =
              let earlier : j < count = grind (arith, nat_tests) in
              let less = low count j earlier fits in
              differs (get_or places j d) (λ same. omega (arith, less, is, same, after))
          by false e =
              let later : count ≤ j = grind (arith, nat_tests) in
              let more = high count j later within in
              let has : count < length places = omega (arith, later, within) in
              let under = before has in
              differs (get_or places j d) (λ same. omega (arith, more, is, same, under))

-- ---- a walk, step by step

pub walk : (P : ℕ → Type 0) (from count : ℕ) → ((k : ℕ) → from ≤ k → k < from + count → P k → P (k + 1)) → P from → P (from + count)
walk P from zero step p = let e : from ≡ from + 0 = omega arith in subst P e p
walk P from (suc count) step p =
    let e : (from + count) + 1 ≡ from + suc count = omega arith in
    subst P e (step (from + count) (omega arith) (omega arith) (walk P from count (λ k low below. step k low (omega (arith, below))) p))

pub walk_to : (P : ℕ → Type 0) (from to : ℕ) → from ≤ to → ((k : ℕ) → from ≤ k → k < to → P k → P (k + 1)) → P from → P to
walk_to P from to le step p =
    let e : from + (to - from) ≡ to = omega (arith, le) in
    subst P e (walk P from (to - from) (λ k low below. step k low (omega (arith, below, e))) p)

-- ---- telling

-- Those before a place are changed and what there is of them is added.
pub record Told {X Y : Type 0} (f : X → X) (g : X → List Y) (first now : List X) (old more : List Y) (place : ℕ) : Type 0 where
  pub subjects : now ≡ map f (take place first) ++ drop place first
  pub all : more ≡ old ++ flat_map g (take place first)

-- Of whom there is nothing, and who does not change, is as before.
pub pass : {X Y : Type 0} (f : X → X) (g : X → List Y) (first now : List X) (old all : List Y) (from to : ℕ)
    → from ≤ to → to ≤ length first
    → ((k : ℕ) (d : X) → from ≤ k → k < to → (f (get_or first k d) ≡ get_or first k d) × (g (get_or first k d) ≡ []))
    → Told f g first now old all from → Told f g first now old all to
pass f g [] now old all from to le fits none told = let e : from ≡ to = omega (arith, le, fits) in subst (Told f g [] now old all) e told
pass {X} f g (d ∷ more) now old all from to le fits none told = walk_to (Told f g (d ∷ more) now old all) from to le step told
  where
    step : (k : ℕ) → from ≤ k → k < to → Told f g (d ∷ more) now old all k → Told f g (d ∷ more) now old all (k + 1)
    step k low below told =
        let item : X = get_or (d ∷ more) k d in
        let within : k < length (d ∷ more) = omega (arith, fits, below) in
        let nothing = none k d low below in
        let its : item ≡ get_or (d ∷ more) k item = get_or_default (d ∷ more) k d item within in
        let here : item ≡ get_or now k item = its ∙ sym (at_seam f (d ∷ more) now k item within told.subjects) in
        record {
          subjects = sym (set-get_or now k item) ∙ ap (set now k) (sym here ∙ sym nothing.0)
              ∙ map_over_more f (d ∷ more) now k item within told.subjects here;
          all = told.all ∙ ap (λ news. old ++ news) (sym (flat_more g (d ∷ more) k item within its
              ∙ ap (λ news. flat_map g (take k (d ∷ more)) ++ news) nothing.1
              ∙ append-nil (flat_map g (take k (d ∷ more)))));
        }

-- ---- one visit more

-- of another place than this one
not_at : (places : List ℕ) (index k : ℕ) → index < length places → is_among k places ≡ false → k ≢ get_or places index 0
not_at places index k within none same =
    let f : true ≡ false =
    sym (list_any_at (λ its. k == its) places index 0 within ((Decides-eqb k (get_or places index 0)).1 same)) ∙ none in
    cc

pub same_more : {X : Type 0} (places : List ℕ) (index : ℕ) (first all : List X) (new : X) → index < length places
    → AreSameBut places first all → AreSameBut places first (set all (get_or places index 0) new)
same_more places index first all new within same k d none =
    get_or-set_other all (get_or places index 0) k new d (not_at places index k within none) ∙ same k d none

-- from the place on that is visited next, where it is so from the one before on
pub same_at : {X : Type 0} (places : List ℕ) (index : ℕ) (subjects first : List X) → IsAscending places → index < length places
    → SameFrom (start_of places index) subjects first → SameFrom (get_or places index 0) subjects first
same_at places index subjects first ascend within same k d le =
    let low = start_low places ascend index within in
    same k d (omega (arith, low, le))

pub same_next : {X : Type 0} (places : List ℕ) (index : ℕ) (subjects first : List X) (new : X) → IsAscending places → index < length places
    → SameFrom (start_of places index) subjects first
    → SameFrom (start_of places (index + 1)) (set subjects (get_or places index 0) new) first
same_next places index subjects first new ascend within same =
    subst (λ n. SameFrom n (set subjects (get_or places index 0) new) first) (sym (start_next places index))
    (same_after subjects first (get_or places index 0) new (same_at places index subjects first ascend within same))

-- who is among the places up to this one, and is not this one, is among those before it
among_earlier : (k : ℕ) (places : List ℕ) (index : ℕ) → index < length places → (k == get_or places index 0) ≡ false
    → is_among k (take (index + 1) places) ≡ true → is_among k (take index places) ≡ true
among_earlier k places index within other e =
    by (is_among k (take index places)) (sym (ap (λ b. is_among k (take index places) || b) other) ∙ sym more ∙ e)
  where
    more : is_among k (take (index + 1) places) ≡ (is_among k (take index places) || k == get_or places index 0)
    more = list_any_more (λ its. k == its) places index 0 within

    by : (a : Bool) → (a || false) ≡ true → a ≡ true
    by true e = refl
    by false e = absurd cc

module _ {A : Type 0} (subjects : List (Subject A)) (place : ℕ) (new : Subject A) (fits : place < length subjects) where
  -- what holds of the new one, and of the others, holds of each
  by_place : (P : Subject A → Type 0) (k : ℕ) (d : Subject A) → P new → ((k == place) ≡ false → P (get_or subjects k d))
      → P (get_or (set subjects place new) k d)
  by_place P k d here there = by (k == place) refl
    where
      by : (same : Bool) → (k == place) ≡ same → P (get_or (set subjects place new) k d)
      by true e =
          let is : k ≡ place = (Decides-eqb k place).0 e in
          subst P (sym (ap (λ n. get_or (set subjects place new) n d) is ∙ get_or-set_same subjects place new d fits)) here
      by false e =
          let other : k ≢ place = λ is. let t : (k == place) ≡ true = (Decides-eqb k place).1 is in cc in
          subst P (sym (get_or-set_other subjects place k new d other)) (there e)

  pub counted_more : (view after : View) → Asks view after → IsCounted after new → All (IsCounted view) subjects
      → All (IsCounted after) (set subjects place new)
  counted_more view after asks counted before k d within =
      by_place (IsCounted after) k d counted
      (λ other. others_counted view after asks (get_or subjects k d)
      (before k d (omega (arith, within, length-set subjects place new))))

  pub followed_more : (now : ℕ) (old view after : View) (reads_before reads more : ℕ) (first : List (Subject A)) (places : List ℕ)
      (index : ℕ) → index < length places → place ≡ get_or places index 0 → reads ≤ more → Asks view after
      → IsFollowed now after more new
      → ((k : ℕ) (d : Subject A) → k < length first
      → (is_among k (take index places) ≡ true) ⊎ IsFollowed now old reads_before (get_or first k d)
      → IsFollowed now view reads (get_or subjects k d))
      → (k : ℕ) (d : Subject A) → k < length first
      → (is_among k (take (index + 1) places) ≡ true) ⊎ IsFollowed now old reads_before (get_or first k d)
      → IsFollowed now after more (get_or (set subjects place new) k d)
  followed_more now old view after reads_before reads more first places index within at le asks followed before k d inside cases =
      by_place (IsFollowed now after more) k d followed
      (λ other. others_followed view after asks now reads more le (get_or subjects k d)
      (before k d inside (elim cases [
        | inl among ↦ inl (among_earlier k places index within (sym (ap (λ n. k == n) at) ∙ other) among)
        | inr was ↦ inr was
      ])))

  pub seen_more : (now : ℕ) (first : List (Subject A)) (element : Subject A) → place < length first
      → element ≡ get_or subjects place element → SameFrom place subjects first → IsVisited now element new
      → AreSeen now first subjects → AreSeen now first (set subjects place new)
  seen_more now first element within is same visited before k d inside = by (k == place) refl
    where
      here : (d : Subject A) → element ≡ get_or first place d
      here d = is ∙ same place element (omega arith) ∙ get_or_default first place element d within

      by : (equal : Bool) → (k == place) ≡ equal → IsVisited now (get_or first k d) (get_or (set subjects place new) k d)
      by true e =
          let at : k ≡ place = (Decides-eqb k place).0 e in
          subst (λ n. IsVisited now (get_or first n d) (get_or (set subjects place new) n d)) (sym at)
          (subst (IsVisited now (get_or first place d)) (sym (get_or-set_same subjects place new d fits))
          (subst (λ subject. IsVisited now subject new) (here d) visited))
      by false e =
          let other : k ≢ place = λ equal. let t : (k == place) ≡ true = (Decides-eqb k place).1 equal in cc in
          subst (IsVisited now (get_or first k d)) (sym (get_or-set_other subjects place k new d other)) (before k d inside)

-- ---- one more is changed, and what there is of it is added

module _ {X Y : Type 0} (f : X → X) (g : X → List Y) (first subjects : List X) (old all : List Y) (places : List ℕ) (index : ℕ)
    (ascend : IsAscending places) (below : All (λ at. at < length first) places)
    (still : (k : ℕ) (d : X) → k < length first → is_among k places ≡ false
    → (f (get_or first k d) ≡ get_or first k d) × (g (get_or first k d) ≡ [])) where
  abbrev T : List X → List Y → ℕ → Type 0
  T now more place = Told f g first now old more place

  -- those between are as they were, and there is nothing of them
  pass_to : (to : ℕ) → start_of places index ≤ to → to ≤ length first
      → ((k : ℕ) → start_of places index ≤ k → k < to → is_among k places ≡ false)
      → T subjects all (start_of places index) → T subjects all to
  pass_to to le fits none =
      pass f g first subjects old all (start_of places index) to le fits
      (λ k d low high. still k d (omega (arith, high, fits)) (none k low high))

  pub told_more : index < length places → (more : List Y) (item new : X) → length subjects ≡ length first
      → item ≡ get_or subjects (get_or places index 0) item → new ≡ f item → more ≡ all ++ g item
      → T subjects all (start_of places index) → T (set subjects (get_or places index 0) new) more (start_of places (index + 1))
  told_more within more item new size is its added before =
      let place : ℕ = get_or places index 0 in
      let fits : place < length first = below index 0 within in
      let here = pass_to place (start_low places ascend index within) (omega (arith, fits))
      (λ k low high. between places ascend index k (omega (arith, within)) low (λ has. high)) before in
      let was : item ≡ get_or first place item = is ∙ at_seam f first subjects place item fits here.subjects in
      subst (T (set subjects place new) more) (sym (start_next places index)) (record {
        subjects = ap (set subjects place) its ∙ map_over_more f first subjects place item fits here.subjects is;
        all = added ∙ ap (λ news. news ++ g item) here.all ∙ append_assoc old (flat_map g (take place first)) (g item)
            ∙ ap (λ news. old ++ news) (sym (flat_more g first place item fits was));
      })

  pub told_end : index ≡ length places → T subjects all (start_of places index) → T subjects all (length first)
  told_end end before =
      pass_to (length first) (start_within index end) (omega arith)
      (λ k low high. between places ascend index k (omega (arith, end)) low (λ has. absurd (omega (arith, has, end)))) before
    where
      start_within : (count : ℕ) → count ≡ length places → start_of places count ≤ length first
      start_within zero e = omega arith
      start_within (suc count) e = let fits = below count 0 (omega (arith, e)) in omega (arith, fits)

-- of those that are still there is nothing to tell
pub still_told_each : {A : Type 0} (view : View) (outputs : List Output) (first : List (Subject A)) (places : List ℕ)
    → AreTold view outputs first places → (k : ℕ) (d : Subject A) → k < length first → is_among k places ≡ false
    → (told_of view (get_or first k d) ≡ get_or first k d) × (news_in view outputs (get_or first k d) ≡ [])
still_told_each view outputs first places told k d within none =
    let its = told k d within none in
    (still_told view (get_or first k d) its.0, still_news view (get_or first k d) outputs its.1 its.0)
