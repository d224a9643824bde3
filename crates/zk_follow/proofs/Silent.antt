-- A step after which all are quiet, and in which nobody hears anything: none need be visited. So it is if nobody was awake or waited, and
-- no output is about a subject, or the index finds none that one is about.
use Rattle.std.proofs.Common.{◌≡◌, ◌<◌, ◌++◌, ◌∷◌, ◌||◌, ◌∙◌, ℕ, suc, Bool, true, false, List, [], length, get_or, map, refl, sym, ap}
use Rattle.std.proofs.Common.{subst, arith}
use Rattle.std.specs.Prelude.{All}
use Rattle.std.specs.List.{flat_map, list_any}
use Rattle.std.proofs.lemmas.List.{append-nil}
use Rattle.zk_turns.specs.Turns.{Input, Output, Answer, Enters, Report}
use Rattle.zk_turns.specs.View.{View}
use Rattle.zk_turns.specs.Rule.{RuleAt}
use Rattle.zk_client.specs.declared.output.Output.{Output as Made}
use Rattle.zk_client.specs.Views.{said}
use Rattle.zk_follow.specs.declared.index.Index.{Index}
use Rattle.zk_follow.specs.declared.subject.Subject.{Subject}
use Rattle.zk_follow.specs.Following.{how_many_reading, is_among, is_quiet, is_still, news_in, taken, told_of, woken}
use Rattle.zk_follow.specs.Following.{AreQuiet, AreQuietBut, AreStillBut, AreVisited, IsCounted, IsVisited, Steps}
use Rattle.zk_follow.specs.Owning.{AreOwn}
use Rattle.zk_follow.specs.inner.Owning.{asks_to_watch}
use Rattle.zk_follow.specs.inner.Places.{HasEach}
use Rattle.zk_follow.specs.inner.Resting.{is_about, is_about_some, is_beside, is_report, may_show_any, AreLeft}
use Rattle.zk_follow.proofs.Finding.{awake_also, left_by, quiet_stays, still_stays, stirred_quiet, unless}
use Rattle.zk_follow.proofs.Passing.{all_quiet, none_among}
use Rattle.zk_follow.proofs.Resting.{not_visited, quiet_parts, rest_counted_as, unmoved, unreported_where}
use Rattle.zk_follow.proofs.Staying.{or_false}
use Rattle.zk_follow.proofs.Still.{among_all, among_first, among_left, still_news, still_quiet, still_told}
use Rattle.zk_follow.proofs.Visiting.{no_reads, steps}

-- ---- words

-- two lists that are empty are so together
pub none_of_both : (some more : List ℕ) → length some ≡ 0 → more ≡ [] → length (some ++ more) ≡ 0
none_of_both some more none nothing =
    ap (λ its. length (some ++ its)) nothing ∙ ap length (append-nil some) ∙ none

-- what none passes, none passes that shows it
none_if : (test other : Output → Bool) → ((output : Output) → test output ≡ true → other output ≡ true) → (outputs : List Output)
    → list_any other outputs ≡ false → list_any test outputs ≡ false
none_if test other so [] e = refl
none_if test other so (output ∷ outputs) e =
    let parts = or_false (other output) (list_any other outputs) e in
    ap (λ b. b || list_any test outputs) (unless (test output) (other output) (so output) parts.0)
    ∙ none_if test other so outputs parts.1

-- ---- after a step of the client

module _ {A : Type 0} (index : Index A) (subjects : List (Subject A)) (count : index.count ≡ length subjects) where
  module _ (view : View) (quiet : AreQuiet view subjects) where
    pub quiet_counted : All (IsCounted view) subjects
    quiet_counted k d below =
        let one : Subject A = get_or subjects k d in
        rest_counted_as 0 view one (quiet_parts view one (quiet k d below)).0

    pub quiet_but : (places : List ℕ) → AreQuietBut view index.count subjects places
    quiet_but places k d fits away = quiet k d (omega (arith, count, fits))

    pub quiet_still : (places : List ℕ) → AreStillBut view index.count subjects places
    quiet_still places k d fits away = still_quiet view (get_or subjects k d) (quiet_but places k d fits away)

  module _ (foreign : Bool) (now : ℕ) (view : View) (input : Input) (slice outputs : List (Made A)) (same : slice ≡ outputs) (after : View)
      (rule : RuleAt now view (record { input = input; outputs = said outputs }) after)
      (asks : foreign ≡ false → asks_to_watch input ≡ false) (own : foreign ≡ false → AreOwn subjects view.pending) where
    module _ (places : List ℕ)
        (about : HasEach (λ s. list_any (is_about foreign subjects s.ticket s.path) (said slice)) index.count subjects places)
        (beside : HasEach (λ s. list_any (is_beside subjects s.path) (said slice)) index.count subjects places) where
      about_said : HasEach (λ s. list_any (is_about foreign subjects s.ticket s.path) (said outputs)) index.count subjects places
      about_said = subst (λ its. HasEach (λ s. list_any (is_about foreign subjects s.ticket s.path) (said its)) index.count subjects places)
          same about

      beside_said : HasEach (λ s. list_any (is_beside subjects s.path) (said outputs)) index.count subjects places
      beside_said = subst (λ its. HasEach (λ s. list_any (is_beside subjects s.path) (said its)) index.count subjects places) same beside

      -- who was awake is among the places, and who is not among them is as it was
      module _ (first_awake first_waiting awake waiting its : List ℕ) (are : its ≡ awake)
          (had : (at : ℕ) → at < index.count → is_among at its ≡ true → is_among at places ≡ true)
          (quiet : AreQuietBut view index.count subjects (first_awake ++ first_waiting)) where
        had_awake : (at : ℕ) → at < index.count → is_among at awake ≡ true → is_among at places ≡ true
        had_awake = subst (λ some. (at : ℕ) → at < index.count → is_among at some ≡ true → is_among at places ≡ true) are had

        pub rests_after : ((at : ℕ) → at < length subjects → (is_among at first_awake || is_among at first_waiting) ≡ true
            → (is_among at awake || is_among at waiting) ≡ true) → AreQuietBut after index.count subjects (places ++ waiting)
        rests_after kept =
            quiet_stays index subjects count foreign now view (record { input = input; outputs = said outputs }) after rule asks own places
            about_said beside_said (awake ++ waiting) (places ++ waiting)
            (awake_also (is_quiet view) index.count subjects (first_awake ++ first_waiting) (awake ++ waiting)
            (λ at fits. among_all at first_awake first_waiting awake waiting (kept at (omega (arith, fits, count)))) quiet)
            (λ at fits. among_first at awake places waiting (had_awake at fits)) (λ at. among_left at places waiting)

        pub stays_after : ((at : ℕ) → at < length subjects → is_among at first_awake ≡ true → is_among at awake ≡ true)
            → (list_any (may_show_any foreign) (said slice) ≡ true → (at : ℕ) → at < length subjects
            → (is_among at first_awake || is_among at first_waiting) ≡ true → is_among at awake ≡ true)
            → AreStillBut view index.count subjects first_awake → AreStillBut after index.count subjects places
        stays_after more stirred still =
            still_stays index subjects count foreign now view (record { input = input; outputs = said outputs }) after rule asks own places
            about_said beside_said awake
            (stirred_quiet index subjects count view foreign slice outputs same first_awake first_waiting awake stirred quiet)
            (awake_also (is_still view) index.count subjects first_awake awake (λ at fits. more at (omega (arith, fits, count))) still)
            had_awake

      pub left_after : AreStillBut after index.count subjects places → AreLeft after (said slice) subjects places
      left_after still =
          subst (λ its. AreLeft after (said its) subjects places) (sym same)
          (left_by index subjects count foreign now view (record { input = input; outputs = said outputs }) after rule asks own places
          about_said beside_said still)

      -- where there is none of those, and none waits, nobody need be visited
      pub none_after : length places ≡ 0 → (all : List ℕ) → length all ≡ 0 → AreQuietBut after index.count subjects all
          → AreQuiet after subjects × AreVisited now (said outputs) subjects subjects
      none_after nobody all none rests = (quiet, visited)
        where
          quiet : AreQuiet after subjects
          quiet = all_quiet after index.count subjects all none count rests

          visited : AreVisited now (said outputs) subjects subjects
          visited k d below =
              let one : Subject A = get_or subjects k d in
              let left = left_by index subjects count foreign now view (record {
                input = input;
                outputs =
                    said outputs;
              }) after rule asks own
              places about_said beside_said (quiet_still after quiet places) k d below (none_among k places nobody) in
              let moved = unmoved now after one (quiet_parts after one (quiet k d below)).0 (said outputs) left.1 in
              let is : taken now (said outputs) one ≡ one = ap (woken now) moved.0 ∙ moved.1 in
              subst (λ (s : Subject A). IsVisited now s one) (sym is) (not_visited now after one)

    -- where no output is about any, and nobody was awake or waited
    module _ (unsaid : list_any is_about_some (said slice) ≡ false) (some : List ℕ) (none : length some ≡ 0)
        (quiet : AreQuietBut view index.count subjects some) where
      about_some : (s : Subject A) (output : Output) → is_about foreign subjects s.ticket s.path output ≡ true → is_about_some output ≡ true
      about_some s (Answer ticket outcome) e = refl
      about_some s (Report at side event) e = refl
      about_some s (Enters state) e = refl
      about_some s _ e = absurd cc

      beside_some : (s : Subject A) (output : Output) → is_beside subjects s.path output ≡ true → is_about_some output ≡ true
      beside_some s (Answer ticket outcome) e = refl
      beside_some s _ e = absurd cc

      about_none : HasEach (λ s. list_any (is_about foreign subjects s.ticket s.path) (said slice)) index.count subjects []
      about_none k d fits e =
          let s : Subject A = get_or subjects k d in
          sym (none_if (is_about foreign subjects s.ticket s.path) is_about_some (about_some s) (said slice) unsaid) ∙ e

      beside_none : HasEach (λ s. list_any (is_beside subjects s.path) (said slice)) index.count subjects []
      beside_none k d fits e =
          let s : Subject A = get_or subjects k d in
          sym (none_if (is_beside subjects s.path) is_about_some (beside_some s) (said slice) unsaid) ∙ e

      pub over_after : AreQuiet after subjects × AreVisited now (said outputs) subjects subjects
      over_after =
          none_after [] about_none beside_none refl some none
          (quiet_stays index subjects count foreign now view (record { input = input; outputs = said outputs }) after rule asks own []
          (about_said [] about_none beside_none) (beside_said [] about_none beside_none) some some quiet (λ at fits e. e)
          (λ at e. let f : false ≡ true = e in absurd cc))

-- who was visited and is as it was: no call was made
pub steps_over : {A : Type 0} (now : ℕ) (view : View) (input : Input) (outputs : List Output) (after : View) (subjects : List (Subject A))
    → RuleAt now view (record { input = input; outputs = outputs }) after → AreVisited now outputs subjects subjects
    → Steps now view input subjects after outputs subjects
steps_over now view input outputs after subjects rule visited =
    steps now view input outputs after subjects after [] outputs subjects rule
    (no_reads subjects after [] (how_many_reading subjects)) visited refl (sym (append-nil outputs))

-- ---- what there is to tell

-- where nothing was reported, there is nothing to tell of those that are still
all_still : {A : Type 0} (view : View) (outputs : List Output) → list_any is_report outputs ≡ false → (subjects : List (Subject A))
    → ((k : ℕ) (d : Subject A) → k < length subjects → is_still view (get_or subjects k d) ≡ true)
    → (map (told_of view) subjects ≡ subjects) × (flat_map (news_in view outputs) subjects ≡ [])
all_still view outputs unreported [] still = (refl, refl)
all_still view outputs unreported (subject ∷ subjects) still =
    let first = still 0 subject (let l : 0 < length (subject ∷ subjects) = omega arith in l) in
    let others = all_still view outputs unreported subjects (λ k d below. still (suc k) d
    (let l : suc k < length (subject ∷ subjects) = omega (arith, below) in l)) in (
      ap (λ one. one ∷ map (told_of view) subjects) (still_told view subject first) ∙ ap (λ all. subject ∷ all) others.0,
      ap (λ news. news ++ flat_map (news_in view outputs) subjects)
          (still_news view subject outputs (unreported_where subject.path outputs unreported) first) ∙ others.1,
    )

pub nothing_new : {A : Type 0} (index : Index A) (subjects : List (Subject A)) → index.count ≡ length subjects → (view : View)
    (outputs : List Output) → list_any is_report outputs ≡ false → (awake : List ℕ) → length awake ≡ 0
    → AreStillBut view index.count subjects awake
    → (map (told_of view) subjects ≡ subjects) × (flat_map (news_in view outputs) subjects ≡ [])
nothing_new index subjects count view outputs unreported awake none still =
    all_still view outputs unreported subjects (λ k d below. still k d (omega (arith, count, below)) (none_among k awake none))
