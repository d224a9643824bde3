-- Two rounds of visits are one: who is visited in the first is passed over in the second. At the end all are followed: who was not visited
-- rests, or waits where there is no room for it.
use Rattle.std.proofs.Common.{◌≡◌, ◌≢◌, ◌≤◌, ◌<◌, ◌∙◌, ◌++◌, ◌∷◌, ◌||◌, ◌⊎◌, inl, inr, ℕ, Bool, true, false, List, [], length, get_or}
use Rattle.std.proofs.Common.{refl, sym, ap, subst, arith, append_assoc}
use Rattle.std.specs.Prelude.{All, Result, Ok, Err, OnErr, OnOk, nat_lt}
use Rattle.std.proofs.lemmas.List.{get_or_past}
use Rattle.std.proofs.lemmas.Bool.Decides.{nat_tests}
use Rattle.zk_session.specs.declared.states.State.TheVariants.{Connected}
use Rattle.zk_turns.specs.Turns.{Call, Output, Turn}
use Rattle.zk_turns.specs.View.{View}
use Rattle.zk_follow.specs.declared.reads.TheConstants.{MOST_READS}
use Rattle.zk_follow.specs.declared.subject.Subject.{Subject}
use Rattle.zk_follow.specs.Following.{how_many_reading, is_among, is_resting, outputs_in, read_of, reads_of}
use Rattle.zk_follow.specs.Following.{AreFollowed, AreReads, IsBusy, IsCounted, IsFollowed, IsReadOf, IsVisited}
use Rattle.zk_follow.specs.inner.Following.{AreSeen, Reads}
use Rattle.zk_follow.specs.inner.Places.{AreSameBut}
use Rattle.zk_follow.specs.inner.Resting.{AreAtRest}
use Rattle.zk_follow.proofs.Asking.{no_calls, others_followed}
use Rattle.zk_follow.proofs.Counting.{on_their_way}
use Rattle.zk_follow.proofs.Finding.{either_way, unless, visit_keeps}
use Rattle.zk_follow.proofs.Owned.{same_side}
use Rattle.zk_follow.proofs.Resting.{rest_followed}
use Rattle.zk_follow.proofs.Still.{among_both, in_neither}
use Rattle.zk_follow.proofs.Visiting.{chain_on, outputs_on, reads_on}

pub on_ok : {X E P Q : Type 0} (result : Result X E) → (P → Q) → OnOk result P → OnOk result Q
on_ok (Ok x) so p = so p
on_ok (Err e) so p = p

pub or_is : (a b : Bool) → a ≡ false → (a || b) ≡ true → b ≡ true
or_is true b none e = absurd cc
or_is false b none e = e

-- what is in a first list or a second one, and not in two others, is in none
pub in_none : (k : ℕ) (some more new last : List ℕ)
    → ((is_among k some || is_among k more) ≡ true → (is_among k new || is_among k last) ≡ true)
    → is_among k (new ++ last) ≡ false → is_among k (some ++ more) ≡ false
in_none k some more new last kept none =
    among_both k some more ∙ unless (is_among k some || is_among k more) (is_among k new || is_among k last) kept
    (sym (among_both k new last) ∙ none)

-- who is in one list or waits is in that list or of the rest
pub in_either : (k : ℕ) (places waiting rest : List ℕ)
    → (is_among k waiting ≡ true → (is_among k rest || is_among k places) ≡ true)
    → (is_among k places || is_among k waiting) ≡ true → is_among k (places ++ rest) ≡ true
in_either k places waiting rest has e =
    among_both k places rest ∙ by (is_among k places) (is_among k waiting) (is_among k rest) refl refl has e
  where
    by : (a b r : Bool) → is_among k places ≡ a → is_among k waiting ≡ b → (b ≡ true → (r || a) ≡ true) → (a || b) ≡ true → (a || r) ≡ true
    by true b r f g had e = refl
    by false true true f g had e = refl
    by false true false f g had e = had refl
    by false false r f g had e = absurd cc

-- ---- all are followed

pub all_followed : {A : Type 0} (now : ℕ) (view : View) → view.standing.halted ≡ false → (subjects : List (Subject A))
    → All (IsCounted view) subjects → (reads : ℕ) → reads ≡ how_many_reading subjects
    → ((k : ℕ) (d : Subject A) → k < length subjects → IsFollowed now view reads (get_or subjects k d)) → AreFollowed now view subjects
all_followed now view goes_on subjects counted reads count followed k d within =
    let many : how_many_reading subjects ≤ reads_of view subjects = on_their_way view goes_on subjects counted in
    let le : reads ≤ reads_of view subjects = subst (λ n. n ≤ reads_of view subjects) (sym count) many in
    others_followed view view (no_calls view) now reads (reads_of view subjects) le (get_or subjects k d) (followed k d within)

module _ {A : Type 0} (now : ℕ) (old view : View) (before after : ℕ) (first subjects : List (Subject A))
    (some more new last : List ℕ) (rest : AreAtRest old first (some ++ more))
    (kept : (at : ℕ) → at < length first → (is_among at some || is_among at more) ≡ true → (is_among at new || is_among at last) ≡ true)
    (followed : (k : ℕ) (d : Subject A) → k < length first
    → (is_among k new ≡ true) ⊎ IsFollowed now old before (get_or first k d) → IsFollowed now view after (get_or subjects k d)) where
  -- who was visited, or does not wait, is followed
  pub followed_but : (k : ℕ) (d : Subject A) → k < length first → (is_among k last ≡ false) ⊎ (is_among k new ≡ true)
      → IsFollowed now view after (get_or subjects k d)
  followed_but k d within (inr among) = followed k d within (inl among)
  followed_but k d within (inl none) = by (is_among k new) refl
    where
      by : (b : Bool) → is_among k new ≡ b → IsFollowed now view after (get_or subjects k d)
      by true e = followed k d within (inl e)
      by false e =
          let away = in_none k some more new last (kept k within) (among_both k new last ∙ ap (λ b. b || is_among k last) e ∙ none) in
          followed k d within (inr (rest_followed now old (get_or first k d) (rest k d within away) before))

  -- and where there is no room for one that waits, each is
  pub followed_all : IsBusy view after ⊎ ((view.standing.state ≢ Connected) ⊎ (last ≡ [])) → (k : ℕ) (d : Subject A) → k < length first
      → IsFollowed now view after (get_or subjects k d)
  followed_all (inl busy) k d within = inr (inr (inl busy))
  followed_all (inr (inl away)) k d within = inr (inr (inr (inl away)))
  followed_all (inr (inr none)) k d within = followed_but k d within (inl (ap (is_among k) none))

-- who is of the rest was followed, or waits
pub rest_or : {A : Type 0} (now : ℕ) (old view : View) (before after : ℕ) (first subjects : List (Subject A)) (places waiting rest : List ℕ)
    → ((at : ℕ) → at < length first → is_among at waiting ≡ true → (is_among at rest || is_among at places) ≡ true)
    → ((k : ℕ) (d : Subject A) → k < length first → (is_among k waiting ≡ false) ⊎ (is_among k places ≡ true)
    → IsFollowed now old before (get_or first k d))
    → ((k : ℕ) (d : Subject A) → k < length first → (is_among k rest ≡ true) ⊎ IsFollowed now old before (get_or first k d)
    → IsFollowed now view after (get_or subjects k d))
    → (k : ℕ) (d : Subject A) → k < length first → IsFollowed now view after (get_or subjects k d)
rest_or now old view before after first subjects places waiting rest has was followed k d within =
    by (is_among k rest) (is_among k waiting) refl refl
  where
    by : (a b : Bool) → is_among k rest ≡ a → is_among k waiting ≡ b → IsFollowed now view after (get_or subjects k d)
    by true b e f = followed k d within (inl e)
    by false false e f = followed k d within (inr (was k d within (inl f)))
    by false true e f = followed k d within (inr (was k d within (inr (or_is (is_among k rest) (is_among k places) e (has k within f)))))

-- ---- two rounds

-- what was left in both is as it was
pub same_both : {X : Type 0} (first middle last : List X) (some more : List ℕ) → length middle ≡ length first → length last ≡ length middle
    → ((at : ℕ) → at < length first → is_among at some ≡ true → is_among at more ≡ true)
    → AreSameBut some first middle → AreSameBut more middle last → AreSameBut more first last
same_both {X} first middle last some more size equal had one two k d none = by (nat_lt k (length first)) refl
  where
    by : (b : Bool) → nat_lt k (length first) ≡ b → get_or last k d ≡ get_or first k d
    by true e =
        let within : k < length first = grind (arith, nat_tests) in
        two k d none ∙ one k d (unless (is_among k some) (is_among k more) (had k within) none)
    by false e =
        let past : length first ≤ k = grind (arith, nat_tests) in
        get_or_past last k d (omega (arith, past, size, equal)) ∙ sym (get_or_past first k d past)

-- who was visited in the first round is passed over in the second one
pub seen_both : {A : Type 0} (now : ℕ) (first middle last : List (Subject A)) (places : List ℕ) → length middle ≡ length first
    → AreSeen now first middle → AreSameBut places first middle → AreSeen now middle last
    → ((k : ℕ) (d : Subject A) → is_among k places ≡ true → get_or last k d ≡ get_or middle k d) → AreSeen now first last
seen_both {A} now first middle last places size one same two apart k d within = by (is_among k places) refl
  where
    by : (b : Bool) → is_among k places ≡ b → IsVisited now (get_or first k d) (get_or last k d)
    by true e = subst (IsVisited now (get_or first k d)) (sym (apart k d e)) (one k d within)
    by false e =
        subst (λ (s : Subject A). IsVisited now s (get_or last k d)) (same k d e) (two k d (omega (arith, within, size)))

asked_of_seen : {A : Type 0} (now : ℕ) (first middle : List (Subject A)) → length middle ≡ length first → AreSeen now first middle
    → (calls : List Turn) → AreReads middle calls → AreReads first calls
asked_of_seen now first middle size seen [] reads = tt
asked_of_seen {A} now first middle size seen (turn ∷ more) reads = (one reads.0, asked_of_seen now first middle size seen more reads.1)
  where
    one : (k : ℕ) × (d : Subject A) × (is_missing : Bool) × (k < length middle) × IsReadOf (get_or middle k d) is_missing turn
        → (k : ℕ) × (d : Subject A) × (is_missing : Bool) × (k < length first) × IsReadOf (get_or first k d) is_missing turn
    one (k, d, is_missing, within, asked) =
        let fits : k < length first = omega (arith, within, size) in
        let it : Subject A = get_or first k d in
        let its : Subject A = get_or middle k d in
        let visited = seen k d fits in
        let kept = visit_keeps now it its visited in (
          k,
          d,
          is_missing,
          fits,
          (
            asked.0,
            asked.1 ∙ ap (λ t. Call t asked.0) kept.0,
            asked.2 ∙ ap (λ s. read_of s is_missing its.path) (same_side now it its visited)
                ∙ ap (λ p. read_of it.side is_missing p) kept.1,
          ),
        )

room_both : (calls more : List Turn) (reads after : ℕ) → (calls ≡ []) ⊎ (reads ≤ MOST_READS) → (more ≡ []) ⊎ (after ≤ MOST_READS)
    → (after ≡ reads) ⊎ (after ≤ MOST_READS) → (calls ++ more ≡ []) ⊎ (after ≤ MOST_READS)
room_both calls more reads after one two (inr few) = inr few
room_both calls more reads after one (inr few) (inl same) = inr few
room_both calls more reads after (inl none) (inl nothing) (inl same) = inl (ap (λ cs. cs ++ more) none ∙ nothing)
room_both calls more reads after (inr few) (inl nothing) (inl same) = inr (subst (λ n. n ≤ MOST_READS) (sym same) few)

pub reads_both : {A : Type 0} (now : ℕ) (first middle : List (Subject A)) (view between after : View) (given more all : List Output)
    (reads last : ℕ) → length middle ≡ length first → AreSeen now first middle → (last ≡ reads) ⊎ (last ≤ MOST_READS)
    → Reads first view given between more reads → Reads middle between more after all last → Reads first view given after all last
reads_both now first middle view between after given more all reads last size seen few one two = record {
  calls = one.calls ++ two.calls;
  chain = chain_on one.calls two.calls view between after one.chain two.chain;
  reads = reads_on first one.calls two.calls one.reads (asked_of_seen now first middle size seen two.calls two.reads);
  said = two.said ∙ ap (λ g. g ++ outputs_in two.calls) one.said ∙ append_assoc given (outputs_in one.calls) (outputs_in two.calls)
      ∙ ap (λ os. given ++ os) (sym (outputs_on one.calls two.calls));
  room = room_both one.calls two.calls reads last one.room two.room few;
}

-- who was in order before is so still
pub rest_same : {A : Type 0} (view : View) (first middle : List (Subject A)) (places waiting : List ℕ) → length middle ≡ length first
    → AreSameBut places first middle → AreAtRest view first (places ++ waiting) → AreAtRest view middle (places ++ waiting)
rest_same {A} view first middle places waiting size same rest k d within none =
    subst (λ (s : Subject A). is_resting view s ≡ true) (sym (same k d (in_neither k places waiting none).0))
    (rest k d (omega (arith, within, size)) none)

-- what is apart from others is none of them
pub passed_over : {X : Type 0} (first last : List X) (places rest : List ℕ) → AreSameBut rest first last
    → ((at : ℕ) → is_among at rest ≡ true → is_among at places ≡ false) → (k : ℕ) (d : X) → is_among k places ≡ true
    → get_or last k d ≡ get_or first k d
passed_over first last places rest same apart k d among =
    same k d (either_way (is_among k rest) (λ e. absurd (let f : true ≡ false = sym among ∙ apart k e in cc)))

-- who was visited, by a slice of the places
pub visited_at : {A : Type 0} (now : ℕ) (old view : View) (before after : ℕ) (first subjects : List (Subject A)) (slice new : List ℕ)
    → slice ≡ new
    → ((k : ℕ) (d : Subject A) → k < length first → (is_among k slice ≡ true) ⊎ IsFollowed now old before (get_or first k d)
    → IsFollowed now view after (get_or subjects k d))
    → (k : ℕ) (d : Subject A) → k < length first → (is_among k new ≡ true) ⊎ IsFollowed now old before (get_or first k d)
    → IsFollowed now view after (get_or subjects k d)
visited_at now old view before after first subjects slice new is followed k d within (inl among) =
    followed k d within (inl (ap (is_among k) is ∙ among))
visited_at now old view before after first subjects slice new is followed k d within (inr was) = followed k d within (inr was)

-- ---- where memory may have run out in the second round

pub on_err : {X E P Q : Type 0} (result : Result X E) → (P → Q) → OnErr result P → OnErr result Q
on_err (Ok x) so p = p
on_err (Err e) so p = so p

pub both_left : {X E Y : Type 0} (result : Result X E) (first middle last : List Y) (slice some waiting more : List ℕ) → slice ≡ some
    → length middle ≡ length first → length last ≡ length middle → AreSameBut slice first middle
    → OnOk result ((at : ℕ) → at < length middle → (is_among at some || is_among at waiting) ≡ true → is_among at more ≡ true)
    → OnOk result (AreSameBut more middle last) → OnOk result (AreSameBut more first last)
both_left (Ok x) first middle last slice some waiting more is size equal one kept two =
    same_both first middle last slice more size equal
    (λ at fits e. kept at (omega (arith, fits, size))
    (ap (λ b. b || is_among at waiting) (sym (ap (is_among at) is) ∙ e)))
    one two
both_left (Err e) first middle last slice some waiting more is size equal one kept two = tt

pub both_seen : {A X E : Type 0} (result : Result X E) (now : ℕ) (first middle last : List (Subject A)) (slice some : List ℕ) → slice ≡ some
    → length middle ≡ length first → AreSeen now first middle → AreSameBut slice first middle → OnOk result (AreSeen now middle last)
    → OnOk result ((k : ℕ) (d : Subject A) → is_among k some ≡ true → get_or last k d ≡ get_or middle k d)
    → OnOk result (AreSeen now first last)
both_seen (Ok x) now first middle last slice some is size one same two apart =
    seen_both now first middle last slice size one same two (λ k d e. apart k d (sym (ap (is_among k) is) ∙ e))
both_seen (Err e) now first middle last slice some is size one same two apart = tt

pub both_read : {A X E : Type 0} (result : Result X E) (now : ℕ) (first middle last : List (Subject A)) (view between after : View)
    (given more all : List Output) (reads : ℕ) → reads ≡ how_many_reading middle → length middle ≡ length first → AreSeen now first middle
    → OnOk result ((how_many_reading last ≡ reads) ⊎ (how_many_reading last ≤ MOST_READS))
    → Reads first view given between more (how_many_reading middle)
    → OnOk result (Reads middle between more after all (how_many_reading last))
    → OnOk result (Reads first view given after all (how_many_reading last))
both_read (Ok x) now first middle last view between after given more all reads count size seen few one two =
    reads_both now first middle view between after given more all reads (how_many_reading last) size seen few
    (subst (Reads first view given between more) (sym count) one) two
both_read (Err e) now first middle last view between after given more all reads count size seen few one two = tt

pub left_by_both : {X E Y : Type 0} (result : Result X E) (first middle last : List Y) (slice some more : List ℕ) → slice ≡ some
    → length middle ≡ length first → length last ≡ length middle → AreSameBut slice first middle
    → OnOk result ((at : ℕ) → at < length middle → is_among at some ≡ true → is_among at more ≡ true)
    → OnOk result (AreSameBut more middle last) → OnOk result (AreSameBut more first last)
left_by_both (Ok x) first middle last slice some more is size equal one had two =
    same_both first middle last slice more size equal
    (λ at fits e. had at (omega (arith, fits, size)) (sym (ap (is_among at) is) ∙ e)) one two
left_by_both (Err e) first middle last slice some more is size equal one had two = tt
