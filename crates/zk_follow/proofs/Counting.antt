-- How many subjects count as being read: those at places in order are gone over, a visit changes the count by the read that it asks, and
-- for each that counts so a read is on its way.
use Rattle.std.proofs.Common.{◌≡◌, ◌≤◌, ◌<◌, ◌+◌, ◌∙◌, ℕ, zero, suc, Bool, true, false, cond, List, [], ◌∷◌, length, get_or, map, set, take}
use Rattle.std.proofs.Common.{refl, sym, ap, subst, arith, inl, inr, ◌⊎◌}
use Rattle.std.specs.Prelude.{All}
use Rattle.std.specs.List.{count_by, list_any}
use Rattle.std.proofs.lemmas.List.{take_all}
use Rattle.std.proofs.lemmas.List.Sums.{count_by_more_no, count_by_more_yes, sum_by-cons, sum_by-set}
use Rattle.zk_turns.specs.View.{View}
use Rattle.zk_follow.specs.declared.progress.Progress.{Progress}
use Rattle.zk_follow.specs.declared.progress.Progress.TheVariants.{Due, Reading, Refused}
use Rattle.zk_follow.specs.declared.reads.TheConstants.{MOST_READS}
use Rattle.zk_follow.specs.declared.subject.Subject.{Subject}
use Rattle.zk_follow.specs.Following.{how_many_reading, is_among, is_due, is_reading, is_read_by, reads_of, rested_progress, IsCounted}
use Rattle.zk_follow.specs.inner.Places.{IsAscending}
use Rattle.zk_follow.specs.inner.Resting.{AreDueBut}
use Rattle.zk_follow.proofs.Skipping.{between, start_low, start_next, start_of, walk_to}

-- ---- one subject

due_not : (progress : Progress) → is_due progress ≡ true → is_reading progress ≡ false
due_not Due e = refl
due_not Reading e = absurd cc
due_not (Refused why until) e = absurd cc

reading_is : (progress : Progress) → is_reading progress ≡ true → progress ≡ Reading
reading_is Due e = absurd cc
reading_is Reading e = refl
reading_is (Refused why until) e = absurd cc

pub rested_reading : (progress : Progress) → is_reading (rested_progress progress) ≡ is_reading progress
rested_reading Due = refl
rested_reading Reading = refl
rested_reading (Refused why until) = refl

-- with one that may be read now
pub one_more : (b : Bool) (reads after : ℕ) → reads < MOST_READS → after ≡ reads + cond b 1 0 → after ≤ MOST_READS
one_more true reads after room is = omega (arith, room, is)
one_more false reads after room is = omega (arith, room, is)

-- the count is as it was, or there was room for what was asked
pub room_more : {X : Type 0} (before reads after : ℕ) → (reads ≡ before) ⊎ (reads ≤ MOST_READS)
    → (X × (after ≡ reads)) ⊎ (after ≤ MOST_READS) → (after ≡ before) ⊎ (after ≤ MOST_READS)
room_more before reads after was (inr few) = inr few
room_more before reads after (inl same) (inl kept) = inl (kept.1 ∙ same)
room_more before reads after (inr room) (inl kept) = inr (subst (λ n. n ≤ MOST_READS) (sym kept.1) room)

pub no_fewer : (b : Bool) (reads after : ℕ) → after ≡ reads + cond b 1 0 → reads ≤ after
no_fewer true reads after is = omega (arith, is)
no_fewer false reads after is = omega (arith, is)

pub count_due : (was b : Bool) (reads after : ℕ) → was ≡ false → after ≡ reads + cond b 1 0
    → after + cond was 1 0 ≡ reads + cond b 1 0
count_due true b reads after due is = absurd cc
count_due false true reads after due is = omega (arith, is)
count_due false false reads after due is = omega (arith, is)

-- ---- another subject at a place

set_sum : (after was reads is all changed : ℕ) → after + was ≡ reads + is → changed + was ≡ all + is → reads ≡ all → after ≡ changed
set_sum after was reads is all changed visit list before = omega (arith, visit, list, before)

pub count_set : {A : Type 0} (subjects : List (Subject A)) (place : ℕ) (element new : Subject A) (reads after : ℕ)
    → place < length subjects → element ≡ get_or subjects place element → reads ≡ how_many_reading subjects
    → after + cond (is_reading element.progress) 1 0 ≡ reads + cond (is_reading new.progress) 1 0
    → after ≡ how_many_reading (set subjects place new)
count_set {A} subjects place element new reads after within is before visit =
    set_sum after (count element) reads (count new) (how_many_reading subjects) (how_many_reading (set subjects place new)) visit
    (ap (λ (s : Subject A). how_many_reading (set subjects place new) + count s) is ∙ sum_by-set count subjects place new element within)
    before
  where
    count : Subject A → ℕ
    count subject = cond (is_reading subject.progress) 1 0

-- ---- those at places in order

count_one : {A : Type 0} (subjects : List (Subject A)) (k : ℕ) (d : Subject A) → k < length subjects
    → how_many_reading (take (k + 1) subjects)
    ≡ how_many_reading (take k subjects) + cond (is_reading (get_or subjects k d).progress) 1 0
count_one {A} subjects k d within = by (is_reading (get_or subjects k d).progress) refl
  where
    by : (b : Bool) → is_reading (get_or subjects k d).progress ≡ b
        → how_many_reading (take (k + 1) subjects) ≡ how_many_reading (take k subjects) + cond b 1 0
    by true e = count_by_more_yes (λ (s : Subject A). is_reading s.progress) subjects k d within e
    by false e =
        let same : how_many_reading (take (k + 1) subjects) ≡ how_many_reading (take k subjects) =
        count_by_more_no (λ (s : Subject A). is_reading s.progress) subjects k d within e in
        omega (arith, same)

-- Where none of those between is being read, the count is the same.
count_pass : {A : Type 0} (subjects : List (Subject A)) (places : List ℕ) → AreDueBut subjects places → (reads from to : ℕ)
    → from ≤ to → to ≤ length subjects → ((k : ℕ) → from ≤ k → k < to → is_among k places ≡ false)
    → reads ≡ how_many_reading (take from subjects) → reads ≡ how_many_reading (take to subjects)
count_pass {A} [] places due reads from to le fits none count =
    let e : from ≡ to = omega (arith, le, fits) in subst (λ n. reads ≡ how_many_reading {A = A} (take n [])) e count
count_pass {A} (d ∷ more) places due reads from to le fits none count =
    walk_to (λ k. reads ≡ how_many_reading (take k (d ∷ more))) from to le step count
  where
    step : (k : ℕ) → from ≤ k → k < to → reads ≡ how_many_reading (take k (d ∷ more)) → reads ≡ how_many_reading (take (k + 1) (d ∷ more))
    step k low below count =
        let within : k < length (d ∷ more) = omega (arith, fits, below) in
        let asleep = due_not (get_or (d ∷ more) k d).progress (due k d within (none k low below)) in
        count ∙ sym (count_by_more_no (λ (s : Subject A). is_reading s.progress) (d ∷ more) k d within asleep)

module _ {A : Type 0} (subjects : List (Subject A)) (places : List ℕ) (index : ℕ) (ascend : IsAscending places)
    (below : All (λ at. at < length subjects) places) (due : AreDueBut subjects places) where
  pub count_more : index < length places → (item : Subject A) (reads after : ℕ) → item ≡ get_or subjects (get_or places index 0) item
      → after ≡ reads + cond (is_reading item.progress) 1 0 → reads ≡ how_many_reading (take (start_of places index) subjects)
      → after ≡ how_many_reading (take (start_of places (index + 1)) subjects)
  count_more within item reads after is more count =
      let place : ℕ = get_or places index 0 in
      let fits : place < length subjects = below index 0 within in
      let here : reads ≡ how_many_reading (take place subjects) =
      count_pass subjects places due reads (start_of places index) place (start_low places ascend index within) (omega (arith, fits))
      (λ k low high. between places ascend index k (omega (arith, within)) low (λ has. high)) count in
      more ∙ ap (λ n. n + cond (is_reading item.progress) 1 0) here
      ∙ ap (λ (s : Subject A). how_many_reading (take place subjects) + cond (is_reading s.progress) 1 0) is
      ∙ sym (count_one subjects place item fits)
      ∙ ap (λ n. how_many_reading (take n subjects)) (sym (start_next places index))

  pub count_end : index ≡ length places → (reads : ℕ) → reads ≡ how_many_reading (take (start_of places index) subjects)
      → reads ≡ how_many_reading subjects
  count_end end reads count =
      count_pass subjects places due reads (start_of places index) (length subjects) (start_within index end) (omega arith)
      (λ k low high. between places ascend index k (omega (arith, end)) low (λ has. absurd (omega (arith, has, end)))) count
      ∙ ap how_many_reading (take_all (length subjects) subjects (omega arith))
    where
      start_within : (count : ℕ) → count ≡ length places → start_of places count ≤ length subjects
      start_within zero e = omega arith
      start_within (suc count) e = let fits = below count 0 (omega (arith, e)) in omega (arith, fits)

pub few_more : (b : Bool) (reads after index : ℕ) → reads ≤ index → after ≡ reads + cond b 1 0 → after ≤ index + 1
few_more true reads after index few is = omega (arith, few, is)
few_more false reads after index few is = omega (arith, few, is)

-- ---- of a list that is changed

pub count_map : {X Y : Type 0} (p : Y → Bool) (q : X → Bool) (f : X → Y) → ((x : X) → p (f x) ≡ q x) → (xs : List X)
    → count_by p (map f xs) ≡ count_by q xs
count_map p q f same [] = refl
count_map p q f same (x ∷ xs) =
    sum_by-cons (λ y. cond (p y) 1 0) (f x) (map f xs) ∙ ap (λ b. cond b 1 0 + count_by p (map f xs)) (same x)
    ∙ ap (λ n. cond (q x) 1 0 + n) (count_map p q f same xs) ∙ sym (sum_by-cons (λ x. cond (q x) 1 0) x xs)

-- ---- on their way

one_le : (b other : Bool) → (b ≡ true → other ≡ true) → cond b 1 0 ≤ cond other 1 0
one_le true other so = subst (λ (o : Bool). 1 ≤ cond o 1 0) (sym (so refl)) (omega arith)
one_le false other so = omega arith

cons_le : (a b c d x y : ℕ) → x ≡ a + c → y ≡ b + d → a ≤ b → c ≤ d → x ≤ y
cons_le a b c d x y sum other one rest = omega (arith, sum, other, one, rest)

-- for each that counts so a read is
pub on_their_way : {A : Type 0} (view : View) → view.standing.halted ≡ false → (subjects : List (Subject A))
    → All (IsCounted view) subjects → how_many_reading subjects ≤ reads_of view subjects
on_their_way view going [] counted = omega arith
on_their_way {A} view going (subject ∷ more) counted =
    cons_le (cond (is_reading subject.progress) 1 0) (cond (is_read subject) 1 0) (how_many_reading more) (reads_of view more)
    (how_many_reading (subject ∷ more)) (reads_of view (subject ∷ more))
    (sum_by-cons (λ (s : Subject A). cond (is_reading s.progress) 1 0) subject more)
    (sum_by-cons (λ (s : Subject A). cond (is_read s) 1 0) subject more)
    (one_le (is_reading subject.progress) (is_read subject)
    (λ reads. counted 0 subject (omega arith) going (reading_is subject.progress reads)))
    (on_their_way view going more (λ k d within. counted (suc k) d (omega (arith, within))))
  where
    is_read : Subject A → Bool
    is_read subject = list_any (is_read_by subject.ticket subject.side subject.path) view.pending
