-- Who is named by outputs is found, and who is not found is quiet as before.
use Rattle.std.proofs.Common.{◌≡◌, ◌≤◌, ◌<◌, ◌+◌, ◌∙◌, ◌++◌, ◌∷◌, ◌||◌, ◌&&◌, ◌⊎◌, inl, inr, ℕ, Bool, true, false, List, [], length}
use Rattle.std.proofs.Common.{cond, get_or, map, take}
use Rattle.std.proofs.Common.{refl, sym, ap, subst, arith}
use Rattle.std.specs.Prelude.{◌==◌, nat_lt}
use Rattle.std.specs.List.{list_any}
use Rattle.std.proofs.lemmas.List.{get_or-map, get_or_append_left, get_or_default, length-append, length-map}
use Rattle.std.proofs.lemmas.List.Folds.{list_any_more}
use Rattle.std.proofs.lemmas.Bool.Decides.{Decides-eqb, nat_tests}
use Rattle.zk_nodes.specs.Path.{Text}
use Rattle.zk_turns.specs.Turns.{Outcome, Replied, Output, Answer, Enters, Report, Turn}
use Rattle.zk_turns.specs.View.{View}
use Rattle.zk_turns.specs.Rule.{RuleAt}
use Rattle.zk_client.specs.declared.output.Output.{Output as Made}
use Rattle.zk_client.specs.Views.{output_view, said}
use Rattle.zk_follow.specs.declared.index.Index.{Index}
use Rattle.zk_follow.specs.declared.progress.Progress.{Progress}
use Rattle.zk_follow.specs.declared.subject.Subject.{Subject}
use Rattle.zk_follow.specs.Following.{is_among, is_quiet, is_report_of, is_reported, is_resting, taken, told_of}
use Rattle.zk_follow.specs.Following.{is_still, was_shown, AreQuietBut, AreStillBut, AreVisited, IsVisited, Visits}
use Rattle.zk_follow.specs.Places.{has_place, key_of, AreFound}
use Rattle.zk_follow.specs.inner.Places.{is_named, AreSameBut, HasEach}
use Rattle.zk_follow.specs.Owning.{AreOwn}
use Rattle.zk_follow.specs.inner.Owning.{asks_to_watch, is_of}
use Rattle.zk_follow.specs.inner.Resting.{is_about, is_about_all, is_beside, is_reply, may_show_any, tells_fields, AreLeft, AreTold}
use Rattle.zk_follow.proofs.Forgetting.{after_forgetting}
use Rattle.zk_follow.proofs.Hearing.{all_same_path, all_same_ticket}
use Rattle.zk_follow.proofs.Owning.{own_input}
use Rattle.zk_follow.proofs.Resting.{quiet_parts, rests_still, unheard_about}
use Rattle.zk_follow.proofs.Still.{all_beside, among_both, quiet_at, still_at, still_forgotten, still_quiet, still_told, still_waits}
use Rattle.zk_follow.proofs.Placing.{among_before, among_last}
use Rattle.zk_follow.proofs.Staying.{or_false}
use Rattle.zk_follow.proofs.Telling.{any_said}

-- ---- words

quiet_by : {A : Type 0} (view : View) (subject : Subject A) → is_resting view subject ≡ true → was_shown subject.told ≡ true
    → is_quiet view subject ≡ true
quiet_by view subject rest shown = ap (λ b. b && was_shown subject.told) rest ∙ shown

pub either_way : (b : Bool) → (b ≡ true → b ≡ false) → b ≡ false
either_way true not_so = not_so refl
either_way false not_so = refl

-- what is false where it would show what is false
pub unless : (a b : Bool) → (a ≡ true → b ≡ true) → b ≡ false → a ≡ false
unless true b so e = sym (so refl) ∙ e
unless false b so e = refl

-- ---- who is named

pub named_first : {A : Type 0} (ticket : ℕ) (path : Text) (outputs : List (Made A)) → list_any (is_named ticket path) (said outputs) ≡ false
    → is_reported path (said outputs) ≡ false
named_first ticket path [] e = refl
named_first ticket path (output ∷ outputs) e =
    let parts = or_false (is_named ticket path (output_view output)) (list_any (is_named ticket path) (said outputs)) e in
    ap (λ b. b || is_reported path (said outputs)) (by (output_view output) parts.0) ∙ named_first ticket path outputs parts.1
  where
    by : (output : Output) → is_named ticket path output ≡ false → is_report_of path output ≡ false
    by (Report at side event) e = e
    by _ e = refl

-- an answer with the fields of a node is a reply
fields_reply : (outcome : Outcome) → tells_fields outcome ≡ true → is_reply outcome ≡ true
fields_reply (Replied zxid result) e = refl
fields_reply _ e = absurd cc

-- where no output is about each, those are named whom one is about, or one is about their path by its ticket
about_named : {A : Type 0} (foreign : Bool) (all : List (Subject A)) (ticket : ℕ) (path : Text) (output : Output)
    → is_about_all foreign output ≡ false → is_named ticket path output ≡ false → is_beside all path output ≡ false
    → is_about foreign all ticket path output ≡ false
about_named foreign all ticket path (Answer its outcome) of_all unnamed beside =
    ap (λ b. b || (tells_fields outcome && (foreign || is_of all its path))) unnamed
    ∙ by (tells_fields outcome) (is_reply outcome) foreign (is_of all its path) (fields_reply outcome) of_all beside
  where
    by : (fields reply is_foreign is_its : Bool) → (fields ≡ true → reply ≡ true) → (is_foreign && fields) ≡ false
        → (reply && is_its) ≡ false → (fields && (is_foreign || is_its)) ≡ false
    by true reply true is_its so e f = e
    by true true false is_its so e f = f
    by true false false is_its so e f = absurd (let t : false ≡ true = so refl in cc)
    by false reply is_foreign is_its so e f = refl
about_named foreign all ticket path (Report at side event) of_all unnamed beside = unnamed
about_named foreign all ticket path (Enters state) of_all unnamed beside = absurd cc
about_named foreign all ticket path _ of_all unnamed beside = refl

pub all_named : {A : Type 0} (foreign : Bool) (all : List (Subject A)) (ticket : ℕ) (path : Text) (outputs : List Output)
    → list_any (is_about_all foreign) outputs ≡ false → list_any (is_about foreign all ticket path) outputs ≡ true
    → (list_any (is_named ticket path) outputs ≡ true) ⊎ (list_any (is_beside all path) outputs ≡ true)
all_named foreign all ticket path [] of_all e = absurd cc
all_named foreign all ticket path (output ∷ outputs) of_all e =
    let parts = or_false (is_about_all foreign output) (list_any (is_about_all foreign) outputs) of_all in
    by (is_named ticket path output) (is_beside all path output) refl refl parts.0 (all_named foreign all ticket path outputs parts.1)
  where
    by : (b c : Bool) → is_named ticket path output ≡ b → is_beside all path output ≡ c → is_about_all foreign output ≡ false
        → (list_any (is_about foreign all ticket path) outputs ≡ true
        → (list_any (is_named ticket path) outputs ≡ true) ⊎ (list_any (is_beside all path) outputs ≡ true))
        → ((b || list_any (is_named ticket path) outputs) ≡ true) ⊎ ((c || list_any (is_beside all path) outputs) ≡ true)
    by true c f g of_all rest = inl refl
    by false true f g of_all rest = inr refl
    by false false f g of_all rest =
        let none = about_named foreign all ticket path output of_all f g in
        rest (sym (ap (λ b. b || list_any (is_about foreign all ticket path) outputs) none) ∙ e)

-- ---- who is left

module _ {A : Type 0} (index : Index A) (subjects : List (Subject A)) (count : index.count ≡ length subjects) where
  within_count : (k : ℕ) → k < length subjects → k < index.count
  within_count k within = omega (arith, within, count)

  module _ (foreign : Bool) (moment : ℕ) (view : View) (turn : Turn) (after : View) (rule : RuleAt moment view turn after)
      (asks : foreign ≡ false → asks_to_watch turn.input ≡ false) (own : foreign ≡ false → AreOwn subjects view.pending)
      (places : List ℕ)
      (about : HasEach (λ s. list_any (is_about foreign subjects s.ticket s.path) turn.outputs) index.count subjects places)
      (beside : HasEach (λ s. list_any (is_beside subjects s.path) turn.outputs) index.count subjects places) where
    silent : (k : ℕ) (d : Subject A) → k < index.count → is_among k places ≡ false
        → list_any (is_about foreign subjects (get_or subjects k d).ticket (get_or subjects k d).path) turn.outputs ≡ false
    silent k d fits none =
        let s : Subject A = get_or subjects k d in
        unless (list_any (is_about foreign subjects s.ticket s.path) turn.outputs) (is_among k places) (about k d fits) none

    -- after a step of the client, who was quiet is so, if no output is about it
    pub quiet_stays : (some all : List ℕ) → AreQuietBut view index.count subjects some
        → ((at : ℕ) → at < index.count → is_among at some ≡ true → is_among at all ≡ true)
        → ((at : ℕ) → is_among at places ≡ true → is_among at all ≡ true)
        → AreQuietBut after index.count subjects all
    quiet_stays some all quiet had more k d fits none =
        quiet_at foreign subjects moment view turn after rule (λ going. own_input subjects turn.input (asks going)) own
        (get_or subjects k d) (silent k d fits (unless (is_among k places) (is_among k all) (more k) none))
        (quiet k d fits (unless (is_among k some) (is_among k all) (had k fits) none))

    -- and who was still is so, if by no output any may have become good; where by one it may have, each was quiet
    pub still_stays : (some : List ℕ)
        → (list_any (may_show_any foreign) turn.outputs ≡ true → AreQuietBut view index.count subjects some)
        → AreStillBut view index.count subjects some
        → ((at : ℕ) → at < index.count → is_among at some ≡ true → is_among at places ≡ true)
        → AreStillBut after index.count subjects places
    still_stays some stirred still had k d fits none = by (list_any (may_show_any foreign) turn.outputs) refl
      where
        s : Subject A
        s = get_or subjects k d

        asleep : is_among k some ≡ false
        asleep = unless (is_among k some) (is_among k places) (had k fits) none

        by : (b : Bool) → list_any (may_show_any foreign) turn.outputs ≡ b → is_still after s ≡ true
        by true e = still_quiet after s
            (quiet_at foreign subjects moment view turn after rule (λ going. own_input subjects turn.input (asks going)) own s
            (silent k d fits none) (stirred e k d fits asleep))
        by false e =
            let none_beside : list_any (is_beside subjects s.path) turn.outputs ≡ false =
            unless (list_any (is_beside subjects s.path) turn.outputs) (is_among k places) (beside k d fits) none in
            still_at foreign subjects moment view turn after rule (λ going. own_input subjects turn.input (asks going)) own s
            (silent k d fits none) (all_beside foreign subjects s.path turn.outputs e none_beside) (still k d fits asleep)

    -- so who is left may wait, and hears nothing
    pub left_by : AreStillBut after index.count subjects places → AreLeft after turn.outputs subjects places
    left_by still k d within none =
        let fits = within_count k within in
        let s : Subject A = get_or subjects k d in (
          still_waits after s (still k d fits none),
          unheard_about foreign subjects s.ticket s.path turn.outputs (silent k d fits none),
        )

  -- where by an output any may have become good, none waits, so that who is not awake was quiet
  pub stirred_quiet : (view : View) (foreign : Bool) (slice outputs : List (Made A)) → slice ≡ outputs → (awake waiting more : List ℕ)
      → (list_any (may_show_any foreign) (said slice) ≡ true → (at : ℕ) → at < length subjects
      → (is_among at awake || is_among at waiting) ≡ true → is_among at more ≡ true)
      → AreQuietBut view index.count subjects (awake ++ waiting) → list_any (may_show_any foreign) (said outputs) ≡ true
      → AreQuietBut view index.count subjects more
  stirred_quiet view foreign slice outputs is awake waiting more stirred quiet e k d fits none =
      quiet k d fits (unless (is_among k (awake ++ waiting)) (is_among k more)
      (λ f. stirred (ap (λ all. list_any (may_show_any foreign) (said all)) is ∙ e) k (omega (arith, fits, count))
      (sym (among_both k awake waiting) ∙ f)) none)

  -- those are told of among whom is each of whom there is something to tell
  pub told_by : (view : View) (outputs : List (Made A)) (awake places : List ℕ) → AreStillBut view index.count subjects awake
      → ((at : ℕ) → at < index.count → is_among at awake ≡ true → is_among at places ≡ true)
      → HasEach (λ s. list_any (is_named s.ticket s.path) (said outputs)) index.count subjects places
      → AreTold view (said outputs) subjects places
  told_by view outputs awake places quiet had named k d within none =
      let s : Subject A = get_or subjects k d in
      let fits = within_count k within in
      let unnamed : list_any (is_named s.ticket s.path) (said outputs) ≡ false =
      unless (list_any (is_named s.ticket s.path) (said outputs)) (is_among k places) (named k d fits) none in
      let asleep : is_among k awake ≡ false = unless (is_among k awake) (is_among k places) (had k fits) none in
      (quiet k d fits asleep, named_first s.ticket s.path outputs unnamed)

-- ---- the index of subjects that have changed

-- with the same tickets and the same paths it is found
pub found_still : {A : Type 0} (index : Index A) (old new : List (Subject A)) → length new ≡ length old
    → ((k : ℕ) (d : Subject A) → k < length old
    → ((get_or new k d).ticket ≡ (get_or old k d).ticket) × ((get_or new k d).path ≡ (get_or old k d).path))
    → AreFound index old → AreFound index new
found_still index old new size same found = (
  omega (arith, found.0, size),
  λ k d fits.
      let within : k < length old = omega (arith, fits, found.0) in
      let its = found.1 k d fits in
      let equal = same k d within in (
        ap (λ ticket. has_place index.keys ticket k) equal.0 ∙ its.0,
        ap (λ path. has_place index.keys (key_of path) k) equal.1 ∙ its.1,
      ),
)

module _ {A : Type 0} (now : ℕ) where
  pub visit_keeps : (subject new : Subject A) → IsVisited now subject new → (new.ticket ≡ subject.ticket) × (new.path ≡ subject.path)
  visit_keeps subject new visited = by visited.3
    where
      by : Visits now visited.0 subject visited.1 visited.2 new → (new.ticket ≡ subject.ticket) × (new.path ≡ subject.path)
      by (inl kept) = elim kept.2 [
        | inl same ↦ (ap (λ (s : Subject A). s.ticket) same, ap (λ (s : Subject A). s.path) same)
        | inr rests ↦ (ap (λ (s : Subject A). s.ticket) rests, ap (λ (s : Subject A). s.path) rests)
      ]
      by (inr asked) = (
        ap (λ (s : Subject A). s.ticket) asked.4 ∙ all_same_ticket now asked.0.outputs (record subject { progress = Progress.Reading }),
        ap (λ (s : Subject A). s.path) asked.4 ∙ all_same_path now asked.0.outputs (record subject { progress = Progress.Reading }),
      )

  pub found_visited : (index : Index A) (outputs : List Output) (old new : List (Subject A)) → length new ≡ length old
      → AreVisited now outputs old new → AreFound index old → AreFound index new
  found_visited index outputs old new size visited found = found_still index old new size
      (λ k d within.
      let s : Subject A = get_or old k d in
      let kept = visit_keeps (taken now outputs s) (get_or new k d) (visited k d within) in
      (kept.0 ∙ all_same_ticket now outputs s, kept.1 ∙ all_same_path now outputs s))
      found

-- being told of changes neither
pub found_told : {A : Type 0} (view : View) (index : Index A) (subjects : List (Subject A))
    → AreFound index subjects → AreFound index (map (told_of view) subjects)
found_told {A} view index subjects found = found_still index subjects (map (told_of view) subjects) (length-map subjects (told_of view))
    (λ k d within.
    let is = get_or-map (told_of view) subjects k d d within in
    (ap (λ (s : Subject A). s.ticket) is, ap (λ (s : Subject A). s.path) is))
    found

-- ---- of each that is not among some

-- after visits of others, and reads, what holds of those that were left holds
pub after_visits : {A : Type 0} (test also : Subject A → Bool) → ((s : Subject A) → test s ≡ true → also s ≡ true) → (count : ℕ)
    (old new : List (Subject A)) (some visited more : List ℕ)
    → ((at : ℕ) → at < count → is_among at some ≡ true → is_among at more ≡ true)
    → ((at : ℕ) → is_among at visited ≡ true → is_among at more ≡ true) → AreSameBut visited old new
    → ((k : ℕ) (d : Subject A) → k < count → is_among k some ≡ false → test (get_or old k d) ≡ true)
    → (k : ℕ) (d : Subject A) → k < count → is_among k more ≡ false → also (get_or new k d) ≡ true
after_visits {A} test also so count old new some visited more had within same holds k d fits none =
    subst (λ (s : Subject A). also s ≡ true)
    (sym (same k d (unless (is_among k visited) (is_among k more) (within k) none)))
    (so (get_or old k d) (holds k d fits (unless (is_among k some) (is_among k more) (had k fits) none)))

-- of fewer that are awake, and more that are not
pub awake_also : {A : Type 0} (test : Subject A → Bool) (count : ℕ) (subjects : List (Subject A)) (some more : List ℕ)
    → ((at : ℕ) → at < count → is_among at some ≡ true → is_among at more ≡ true)
    → ((k : ℕ) (d : Subject A) → k < count → is_among k some ≡ false → test (get_or subjects k d) ≡ true)
    → (k : ℕ) (d : Subject A) → k < count → is_among k more ≡ false → test (get_or subjects k d) ≡ true
awake_also test count subjects some more had holds k d fits none =
    holds k d fits (unless (is_among k some) (is_among k more) (had k fits) none)

-- ---- quiet ones

pub still_forgot : {A : Type 0} (view : View) (count : ℕ) (subjects : List (Subject A)) (awake : List ℕ)
    → AreStillBut view count subjects awake → AreStillBut (after_forgetting view) count subjects awake
still_forgot view count subjects awake still k d fits none = still_forgotten view (get_or subjects k d) (still k d fits none)

-- stale answers are forgotten
pub quiet_still : {A : Type 0} (view : View) (count : ℕ) (subjects : List (Subject A)) (awake : List ℕ)
    → AreQuietBut view count subjects awake → AreQuietBut (after_forgetting view) count subjects awake
quiet_still {A} view count subjects awake quiet k d fits none =
    let s : Subject A = get_or subjects k d in
    let was = quiet_parts view s (quiet k d fits none) in
    quiet_by (after_forgetting view) s (rests_still view s was.0) was.1

-- They were told of: those that were not had nothing to be told, and are as they were.
pub told_but : {A : Type 0} (test : Subject A → Bool) (view : View) (outputs : List Output) (count : ℕ) (subjects new : List (Subject A))
    (places some awake : List ℕ) → count ≡ length subjects → new ≡ map (told_of view) subjects → AreTold view outputs subjects places
    → ((at : ℕ) → at < count → is_among at some ≡ true → (is_among at awake || is_among at places) ≡ true)
    → ((k : ℕ) (d : Subject A) → k < count → is_among k some ≡ false → test (get_or subjects k d) ≡ true)
    → ((k : ℕ) (d : Subject A) → k < length new → is_among k places ≡ true → is_among k awake ≡ false → test (get_or new k d) ≡ true)
    → (k : ℕ) (d : Subject A) → k < count → is_among k awake ≡ false → test (get_or new k d) ≡ true
told_but {A} test view outputs count subjects new places some awake size mapped told had holds each k d fits none =
    by (is_among k places) refl
  where
    within : k < length subjects
    within = omega (arith, fits, size)

    same_size : length new ≡ length subjects
    same_size = ap length mapped ∙ length-map subjects (told_of view)

    by : (b : Bool) → is_among k places ≡ b → test (get_or new k d) ≡ true
    by true e = each k d (omega (arith, within, same_size)) e none
    by false e =
        let s : Subject A = get_or subjects k d in
        let is : get_or new k d ≡ s =
        ap (λ all. get_or all k d) mapped ∙ get_or-map (told_of view) subjects k d d within ∙ still_told view s (told k d within e).0 in
        let neither : (is_among k awake || is_among k places) ≡ false = ap (λ b. b || is_among k places) none ∙ e in
        ap test is ∙ holds k d fits (unless (is_among k some) (is_among k awake || is_among k places) (had k fits) neither)

-- those that are new are awake
pub awake_new : {A : Type 0} (test : Subject A → Bool) (known count : ℕ) (subjects : List (Subject A)) (old new : List ℕ)
    → ((at : ℕ) → is_among at old ≡ true → is_among at new ≡ true)
    → ((at : ℕ) → known ≤ at → at < count → is_among at new ≡ true)
    → ((k : ℕ) (d : Subject A) → k < known → is_among k old ≡ false → test (get_or subjects k d) ≡ true)
    → (k : ℕ) (d : Subject A) → k < count → is_among k new ≡ false → test (get_or subjects k d) ≡ true
awake_new test known count subjects old new had woken holds k d fits none = by (nat_lt k known) refl
  where
    by : (b : Bool) → nat_lt k known ≡ b → test (get_or subjects k d) ≡ true
    by true e =
        let below : k < known = grind (arith, nat_tests) in
        holds k d below (unless (is_among k old) (is_among k new) (had k) none)
    by false e =
        let above : known ≤ k = grind (arith, nat_tests) in
        absurd (let f : true ≡ false = sym (woken k above fits) ∙ none in cc)

-- ---- the index is made

pub found_more : {A : Type 0} (old new : Index A) (subjects : List (Subject A)) (subject : Subject A) → AreFound old subjects
    → old.count < length subjects → subject ≡ get_or subjects old.count subject → new.count ≡ old.count + 1
    → has_place new.keys subject.ticket old.count ≡ true → has_place new.keys (key_of subject.path) old.count ≡ true
    → ((key at : ℕ) → has_place old.keys key at ≡ true → has_place new.keys key at ≡ true) → AreFound new subjects
found_more {A} old new subjects subject found within is size ticket path kept = (omega (arith, size, within), each)
  where
    each : (k : ℕ) (d : Subject A) → k < new.count
        → (has_place new.keys (get_or subjects k d).ticket k ≡ true) × (has_place new.keys (key_of (get_or subjects k d).path) k ≡ true)
    each k d fits = by (nat_lt k old.count) refl
      where
        by : (b : Bool) → nat_lt k old.count ≡ b
            → (has_place new.keys (get_or subjects k d).ticket k ≡ true) × (has_place new.keys (key_of (get_or subjects k d).path) k ≡ true)
        by true e =
            let below : k < old.count = grind (arith, nat_tests) in
            let its = found.1 k d below in
            (kept (get_or subjects k d).ticket k its.0, kept (key_of (get_or subjects k d).path) k its.1)
        by false e =
            let last : k ≡ old.count = let above : old.count ≤ k = grind (arith, nat_tests) in omega (arith, above, fits, size) in
            let here : get_or subjects k d ≡ subject =
            ap (λ n. get_or subjects n d) last ∙ get_or_default subjects old.count d subject within ∙ sym is in (
              ap (λ (s : Subject A). has_place new.keys s.ticket k) here ∙ ap (has_place new.keys subject.ticket) last ∙ ticket,
              ap (λ (s : Subject A). has_place new.keys (key_of s.path) k) here ∙ ap (has_place new.keys (key_of subject.path)) last ∙ path,
            )

-- one more place is gone over
pub awake_more : {A : Type 0} (test : Subject A → Bool) (subjects : List (Subject A)) (places : List ℕ) (index : ℕ)
    (old new : ℕ → Bool) (subject : Subject A) → index < length places → subject ≡ get_or subjects (get_or places index 0) subject
    → ((at : ℕ) → old at ≡ true → new at ≡ true)
    → (new (get_or places index 0) ≡ false → test subject ≡ true)
    → ((k : ℕ) (d : Subject A) → k < length subjects → is_among k (take index places) ≡ true → old k ≡ false
    → test (get_or subjects k d) ≡ true)
    → (k : ℕ) (d : Subject A) → k < length subjects → is_among k (take (index + 1) places) ≡ true → new k ≡ false
    → test (get_or subjects k d) ≡ true
awake_more {A} test subjects places index old new subject within is had here before k d fits among none =
    by (is_among k (take index places)) (k == get_or places index 0) refl refl (sym more ∙ among)
  where
    more : is_among k (take (index + 1) places) ≡ (is_among k (take index places) || k == get_or places index 0)
    more = list_any_more (λ its. k == its) places index 0 within

    by : (a b : Bool) → is_among k (take index places) ≡ a → (k == get_or places index 0) ≡ b → (a || b) ≡ true
        → test (get_or subjects k d) ≡ true
    by true b e f g = before k d fits e (unless (old k) (new k) (had k) none)
    by false true e f g =
        let at : k ≡ get_or places index 0 = (Decides-eqb k (get_or places index 0)).0 f in
        let s : get_or subjects k d ≡ subject =
        get_or_default subjects k d subject fits ∙ ap (λ n. get_or subjects n subject) at ∙ sym is in
        ap test s ∙ here (sym (ap new at) ∙ none)
    by false false e f g = absurd cc

-- ---- an index of no subject

pub none_found : {A : Type 0} (index : Index A) (subjects : List (Subject A)) → index.count ≡ 0 → AreFound index subjects
none_found index subjects none = (omega (arith, none), λ k d fits. absurd (omega (arith, fits, none)))

pub none_but : {A : Type 0} (test : Subject A → Bool) (count : ℕ) (subjects : List (Subject A)) (awake : List ℕ) → count ≡ 0
    → (k : ℕ) (d : Subject A) → k < count → is_among k awake ≡ false → test (get_or subjects k d) ≡ true
none_but test count subjects awake none k d fits away = absurd (omega (arith, fits, none))

-- a subject that comes last is not in the index
found_after : {A : Type 0} (index : Index A) (subjects : List (Subject A)) (last : Subject A)
    → AreFound index subjects → AreFound index (subjects ++ last ∷ [])
found_after index subjects last found = (
  omega (arith, found.0, length-append subjects (last ∷ [])),
  λ k d fits.
      let its = found.1 k d fits in
      let same = get_or_append_left subjects (last ∷ []) d k (omega (arith, fits, found.0)) in (
        ap (λ (s : Subject _). has_place index.keys s.ticket k) same ∙ its.0,
        ap (λ (s : Subject _). has_place index.keys (key_of s.path) k) same ∙ its.1,
      ),
)

but_after : {A : Type 0} (test : Subject A → Bool) (count : ℕ) (subjects : List (Subject A)) (last : Subject A) (awake : List ℕ)
    → count ≤ length subjects
    → ((k : ℕ) (d : Subject A) → k < count → is_among k awake ≡ false → test (get_or subjects k d) ≡ true)
    → (k : ℕ) (d : Subject A) → k < count → is_among k awake ≡ false → test (get_or (subjects ++ last ∷ []) k d) ≡ true
but_after test count subjects last awake within holds k d fits none =
    ap test (get_or_append_left subjects (last ∷ []) d k (omega (arith, fits, within))) ∙ holds k d fits none

-- it comes there where there is room
pub found_pushed : {A : Type 0} (pushed : Bool) (index : Index A) (old new : List (Subject A)) (last : Subject A)
    → new ≡ cond pushed (old ++ last ∷ []) old → AreFound index old → AreFound index new
found_pushed true index old new last is found = subst (AreFound index) (sym is) (found_after index old last found)
found_pushed false index old new last is found = subst (AreFound index) (sym is) found

pub but_pushed : {A : Type 0} (test : Subject A → Bool) (pushed : Bool) (count : ℕ) (old new : List (Subject A)) (last : Subject A)
    (awake : List ℕ) → new ≡ cond pushed (old ++ last ∷ []) old → count ≤ length old
    → ((k : ℕ) (d : Subject A) → k < count → is_among k awake ≡ false → test (get_or old k d) ≡ true)
    → (k : ℕ) (d : Subject A) → k < count → is_among k awake ≡ false → test (get_or new k d) ≡ true
but_pushed {A} test true count old new last awake is within holds =
    subst (λ (all : List (Subject A)). (k : ℕ) (d : Subject A) → k < count → is_among k awake ≡ false → test (get_or all k d) ≡ true)
    (sym is) (but_after test count old last awake within holds)
but_pushed {A} test false count old new last awake is within holds =
    subst (λ (all : List (Subject A)). (k : ℕ) (d : Subject A) → k < count → is_among k awake ≡ false → test (get_or all k d) ≡ true)
    (sym is) holds

-- one output more is gone over
pub named_more : {A : Type 0} (test : Output → Bool) (outputs : List (Made A)) (index : ℕ) (item : Made A)
    → index < length outputs → item ≡ get_or outputs index item → list_any test (said (take (index + 1) outputs)) ≡ true
    → (list_any test (said (take index outputs)) ≡ true) ⊎ (test (output_view item) ≡ true)
named_more {A} test outputs index item within is e = by (list_any test (said (take index outputs))) refl (sym more ∙ e)
  where
    more : list_any test (said (take (index + 1) outputs)) ≡ (list_any test (said (take index outputs)) || test (output_view item))
    more =
        any_said test (take (index + 1) outputs) ∙ list_any_more (λ (o : Made A). test (output_view o)) outputs index item within
        ∙ ap (λ b. b || test (output_view (get_or outputs index item))) (sym (any_said test (take index outputs)))
        ∙ ap (λ (o : Made A). list_any test (said (take index outputs)) || test (output_view o)) (sym is)

    by : (b : Bool) → list_any test (said (take index outputs)) ≡ b → (b || test (output_view item)) ≡ true
        → (list_any test (said (take index outputs)) ≡ true) ⊎ (test (output_view item) ≡ true)
    by true f g = inl f
    by false f g = inr g

-- one more is among them
pub woken_more : (at place : ℕ) (places : List ℕ) → (at < place → is_among at places ≡ true) → at < place + 1
    → is_among at (places ++ place ∷ []) ≡ true
woken_more at place places had below = by (nat_lt at place) refl
  where
    by : (b : Bool) → nat_lt at place ≡ b → is_among at (places ++ place ∷ []) ≡ true
    by true e = let before : at < place = grind (arith, nat_tests) in among_before at place places (had before)
    by false e =
        let is : at ≡ place = let above : place ≤ at = grind (arith, nat_tests) in omega (arith, above, below) in
        ap (λ n. is_among n (places ++ place ∷ [])) is ∙ among_last place places
