-- What is still: it is quiet, or it is awaited and was not told as good. So it stays by turns that say nothing of it, and by other reads.
use Rattle.std.proofs.Common.{◌≡◌, ◌∙◌, ◌++◌, ◌&&◌, ◌||◌, ◌⊎◌, inl, inr, ℕ, Bool, true, false, cond, not, List, [], ◌∷◌}
use Rattle.std.proofs.Common.{length, get_or, None, refl, sym, ap, subst, arith}
use Rattle.std.specs.Prelude.{◌==◌}
use Rattle.std.specs.List.{list_any}
use Rattle.std.proofs.lemmas.List.Folds.{list_any-append}
use Rattle.zk_nodes.specs.Path.{Text}
use Rattle.zk_turns.specs.Turns.{Output, Answer, Enters, Turn}
use Rattle.zk_turns.specs.View.{View}
use Rattle.zk_turns.specs.Rule.{RuleAt}
use Rattle.zk_follow.specs.declared.subject.Subject.{Subject}
use Rattle.zk_follow.specs.Following.{is_among, is_awaited, is_due, is_quiet, is_reported, is_resting, is_shown, is_still, is_sure}
use Rattle.zk_follow.specs.Following.{news_about, news_in, news_list, told_after, told_of, was_shown, woken, woken_progress}
use Rattle.zk_follow.specs.inner.Following.{Asks}
use Rattle.zk_follow.specs.inner.Places.{AreSameBut}
use Rattle.zk_follow.specs.Owning.{AreOwn}
use Rattle.zk_follow.specs.inner.Owning.{is_of}
use Rattle.zk_follow.specs.inner.Resting.{is_about, is_beside, is_reply, may_show, may_show_any, may_wait, AreDueBut, AreLeft, AreUnmoved}
use Rattle.zk_follow.proofs.Forgetting.{after_forgetting, shown_still}
use Rattle.zk_follow.proofs.Owning.{IsOwnInput}
use Rattle.zk_follow.proofs.Resting.{all_heard_same, due_is, nothing_told, not_parts, parts_of, quiet_parts, rests_at, rests_on}
use Rattle.zk_follow.proofs.Resting.{rests_still, told_same}
use Rattle.zk_follow.proofs.Staying.{and_parts, or_false}
use Rattle.zk_follow.proofs.Unshown.{unshown_at}

-- ---- words

or_right : (a b : Bool) → b ≡ true → (a || b) ≡ true
or_right true b e = refl
or_right false b e = e

or_split : (a b : Bool) → (a || b) ≡ true → (a ≡ true) ⊎ (b ≡ true)
or_split true b e = inl refl
or_split false b e = inr e

-- of two lists: who is in neither
pub among_both : (k : ℕ) (some more : List ℕ) → is_among k (some ++ more) ≡ (is_among k some || is_among k more)
among_both k some more = list_any-append (λ its. k == its) some more

pub in_neither : (k : ℕ) (some more : List ℕ) → is_among k (some ++ more) ≡ false → (is_among k some ≡ false) × (is_among k more ≡ false)
in_neither k some more e = or_false (is_among k some) (is_among k more) (sym (among_both k some more) ∙ e)

pub among_left : (k : ℕ) (some more : List ℕ) → is_among k some ≡ true → is_among k (some ++ more) ≡ true
among_left k some more e = among_both k some more ∙ ap (λ b. b || is_among k more) e

pub among_right : (k : ℕ) (some more : List ℕ) → is_among k more ≡ true → is_among k (some ++ more) ≡ true
among_right k some more e = among_both k some more ∙ or_right (is_among k some) (is_among k more) e

-- beside the same list
pub among_first : (k : ℕ) (old new more : List ℕ) → (is_among k old ≡ true → is_among k new ≡ true) → is_among k (old ++ more) ≡ true
    → is_among k (new ++ more) ≡ true
among_first k old new more had e = elim (or_split (is_among k old) (is_among k more) (sym (among_both k old more) ∙ e)) [
  | inl first ↦ among_left k new more (had first)
  | inr last ↦ among_right k new more last
]

-- what is said of two lists apart, and together
pub among_all : (k : ℕ) (old more new last : List ℕ)
    → ((is_among k old || is_among k more) ≡ true → (is_among k new || is_among k last) ≡ true)
    → is_among k (old ++ more) ≡ true → is_among k (new ++ last) ≡ true
among_all k old more new last kept e = among_both k new last ∙ kept (sym (among_both k old more) ∙ e)

pub among_or : (k : ℕ) (places awake : List ℕ) → is_among k places ≡ true → (is_among k awake || is_among k places) ≡ true
among_or k places awake e = or_right (is_among k awake) (is_among k places) e

-- who was awake is told of, and who waited waits
pub among_told : (k : ℕ) (old waiting awake last places : List ℕ) → (is_among k old ≡ true → is_among k places ≡ true)
    → (is_among k waiting ≡ true → is_among k last ≡ true) → is_among k (old ++ waiting) ≡ true
    → (is_among k (awake ++ last) || is_among k places) ≡ true
among_told k old waiting awake last places had kept e =
    elim (or_split (is_among k old) (is_among k waiting) (sym (among_both k old waiting) ∙ e)) [
      | inl first ↦ among_or k places (awake ++ last) (had first)
      | inr waits ↦ ap (λ b. b || is_among k places) (among_right k awake last (kept waits))
    ]

-- ---- what is awaited

module _ {A : Type 0} (view : View) (subject : Subject A) where
  pub awaited_parts : is_awaited view subject ≡ true
      → (is_due subject.progress ≡ true) × (is_sure view subject ≡ false)
  awaited_parts e =
      let parts = and_parts (is_due subject.progress) (not (is_sure view subject)) e in
      (parts.0, not_parts (is_sure view subject) parts.1)

  awaited_by : is_due subject.progress ≡ true → is_sure view subject ≡ false → is_awaited view subject ≡ true
  awaited_by due unsure = ap (λ b. b && not (is_sure view subject)) due ∙ ap (λ b. not b) unsure

  -- ---- what is still

  pub still_cases : is_still view subject ≡ true
      → (is_quiet view subject ≡ true) ⊎ ((is_awaited view subject ≡ true) × (was_shown subject.told ≡ false))
  still_cases e = elim (or_split (is_quiet view subject) (is_awaited view subject && not (was_shown subject.told)) e) [
    | inl quiet ↦ inl quiet
    | inr waits ↦
        let parts = and_parts (is_awaited view subject) (not (was_shown subject.told)) waits in
        inr (parts.0, not_parts (was_shown subject.told) parts.1)
  ]

  pub still_quiet : is_quiet view subject ≡ true → is_still view subject ≡ true
  still_quiet quiet = ap (λ b. b || (is_awaited view subject && not (was_shown subject.told))) quiet

  pub still_awaited : is_awaited view subject ≡ true → was_shown subject.told ≡ false → is_still view subject ≡ true
  still_awaited awaited untold =
      or_right (is_quiet view subject) (is_awaited view subject && not (was_shown subject.told))
      (ap (λ b. b && not (was_shown subject.told)) awaited ∙ ap (λ b. not b) untold)

  pub still_due : is_still view subject ≡ true → is_due subject.progress ≡ true
  still_due e = elim (still_cases e) [
    | inl quiet ↦ (parts_of view subject (quiet_parts view subject quiet).0).due
    | inr waits ↦ (awaited_parts waits.0).0
  ]

  -- a visit may leave it
  pub still_waits : is_still view subject ≡ true → may_wait view subject ≡ true
  still_waits e = elim (still_cases e) [
    | inl quiet ↦ ap (λ b. b || is_awaited view subject) (quiet_parts view subject quiet).0
    | inr waits ↦ or_right (is_resting view subject) (is_awaited view subject) waits.0
  ]

  due_waits : may_wait view subject ≡ true → is_due subject.progress ≡ true
  due_waits e = elim (or_split (is_resting view subject) (is_awaited view subject) e) [
    | inl rest ↦ (parts_of view subject rest).due
    | inr waits ↦ (awaited_parts waits).0
  ]

  -- ---- telling

  awaited_news : (outputs : List Output) → is_awaited view subject ≡ true → news_in view outputs subject ≡ []
  awaited_news outputs e =
      let parts = awaited_parts e in
      ap (λ is. news_list subject.ticket (news_about is (is_reported subject.path outputs) subject.progress subject.told)) parts.1
      ∙ ap (λ progress. news_list subject.ticket (news_about false (is_reported subject.path outputs) progress subject.told))
      (due_is subject.progress parts.0)

  awaited_told : is_awaited view subject ≡ true → was_shown subject.told ≡ false → told_of view subject ≡ subject
  awaited_told e untold =
      let parts = awaited_parts e in
      ap (λ is. record subject { told = told_after is subject.progress subject.told }) parts.1
      ∙ ap (λ progress. record subject { told = told_after false progress subject.told }) (due_is subject.progress parts.0)
      ∙ ap (λ was. record subject { told = cond was None subject.told }) untold

  pub still_told : is_still view subject ≡ true → told_of view subject ≡ subject
  still_told e = elim (still_cases e) [
    | inl quiet ↦ let parts = quiet_parts view subject quiet in told_same view subject parts.0 parts.1
    | inr waits ↦ awaited_told waits.0 waits.1
  ]

  pub still_news : (outputs : List Output) → is_reported subject.path outputs ≡ false → is_still view subject ≡ true
      → news_in view outputs subject ≡ []
  still_news outputs unreported e = elim (still_cases e) [
    | inl quiet ↦ let parts = quiet_parts view subject quiet in nothing_told view subject parts.0 parts.1 outputs unreported
    | inr waits ↦ awaited_news outputs waits.0
  ]

-- ---- from view to view

-- what is doubted, or not good, is so still if it is not good still
unsure_if : (is_doubted was is : Bool) → (was ≡ false → is ≡ false) → (not is_doubted && was) ≡ false → (not is_doubted && is) ≡ false
unsure_if true was is still e = refl
unsure_if false was is still e = still e

module _ {A : Type 0} (view after : View) (subject : Subject A) where
  quiet_if : (is_resting view subject ≡ true → is_resting after subject ≡ true) → is_quiet view subject ≡ true
      → is_quiet after subject ≡ true
  quiet_if so e =
      let parts = quiet_parts view subject e in
      ap (λ b. b && was_shown subject.told) (so parts.0) ∙ parts.1

  still_if : (is_resting view subject ≡ true → is_resting after subject ≡ true)
      → (is_shown view.cache subject.side subject.path ≡ false → is_shown after.cache subject.side subject.path ≡ false)
      → is_still view subject ≡ true → is_still after subject ≡ true
  still_if so still e = elim (still_cases view subject e) [
    | inl quiet ↦ still_quiet after subject (quiet_if so quiet)
    | inr waits ↦
        let parts = awaited_parts view subject waits.0 in
        let unsure = unsure_if subject.is_doubted (is_shown view.cache subject.side subject.path)
        (is_shown after.cache subject.side subject.path) still parts.1 in
        still_awaited after subject (awaited_by after subject parts.0 unsure) waits.1
  ]

  pub quiet_on : Asks view after → is_quiet view subject ≡ true → is_quiet after subject ≡ true
  quiet_on asks = quiet_if (rests_on view after asks subject)

  pub still_on : Asks view after → is_still view subject ≡ true → is_still after subject ≡ true
  still_on asks = still_if (rests_on view after asks subject)
      (λ h. ap (λ cache. is_shown cache subject.side subject.path) asks.cache ∙ h)

pub still_forgotten : {A : Type 0} (view : View) (subject : Subject A)
    → is_still view subject ≡ true → is_still (after_forgetting view) subject ≡ true
still_forgotten view subject = still_if view (after_forgetting view) subject (rests_still view subject)
    (λ h. shown_still view.cache subject.side subject.path ∙ h)

-- where by no output any may have become good, and none is a reply beside it, it has not
shown_beside : {A : Type 0} (foreign : Bool) (all : List (Subject A)) (path : Text) (output : Output)
    → may_show_any foreign output ≡ false → is_beside all path output ≡ false → may_show foreign all path output ≡ false
shown_beside foreign all path (Answer its outcome) of_any beside = by (is_reply outcome) foreign (is_of all its path) of_any beside
  where
    by : (reply is_foreign is_its : Bool) → (is_foreign && reply) ≡ false → (reply && is_its) ≡ false
        → (reply && (is_foreign || is_its)) ≡ false
    by true true is_its e f = e
    by true false is_its e f = f
    by false is_foreign is_its e f = refl
shown_beside foreign all path (Enters state) of_any beside = absurd cc
shown_beside foreign all path _ of_any beside = refl

pub all_beside : {A : Type 0} (foreign : Bool) (all : List (Subject A)) (path : Text) (outputs : List Output)
    → list_any (may_show_any foreign) outputs ≡ false → list_any (is_beside all path) outputs ≡ false
    → list_any (may_show foreign all path) outputs ≡ false
all_beside foreign all path [] of_any beside = refl
all_beside foreign all path (output ∷ outputs) of_any beside =
    let first = or_false (may_show_any foreign output) (list_any (may_show_any foreign) outputs) of_any in
    let its = or_false (is_beside all path output) (list_any (is_beside all path) outputs) beside in
    ap (λ b. b || list_any (may_show foreign all path) outputs) (shown_beside foreign all path output first.0 its.0)
    ∙ all_beside foreign all path outputs first.1 its.1

module _ {A : Type 0} (foreign : Bool) (all : List (Subject A)) (moment : ℕ) (view : View) (turn : Turn) (after : View)
    (rule : RuleAt moment view turn after) (asks : foreign ≡ false → IsOwnInput all turn.input)
    (own : foreign ≡ false → AreOwn all view.pending) (subject : Subject A)
    (silent : list_any (is_about foreign all subject.ticket subject.path) turn.outputs ≡ false) where
  pub quiet_at : is_quiet view subject ≡ true → is_quiet after subject ≡ true
  quiet_at = quiet_if view after subject (rests_at foreign all moment view turn after rule asks own subject silent)

  pub still_at : list_any (may_show foreign all subject.path) turn.outputs ≡ false
      → is_still view subject ≡ true → is_still after subject ≡ true
  still_at unshown = still_if view after subject (rests_at foreign all moment view turn after rule asks own subject silent)
      (unshown_at foreign all subject.path subject.side moment view turn after rule asks own unshown)

-- ---- who is left

module _ {A : Type 0} (now : ℕ) (subject : Subject A) where
  woken_due : is_due subject.progress ≡ true → woken now subject ≡ subject
  woken_due e =
      let due = due_is subject.progress e in
      ap (λ progress. record subject { progress = woken_progress now progress }) due
      ∙ ap (λ progress. record subject { progress = progress }) (sym due)

-- Who is left is as it was once it has taken what was said, and is due.
pub left_unmoved : {A : Type 0} (now : ℕ) (view : View) (outputs : List Output) (subjects : List (Subject A)) (places : List ℕ)
    → AreLeft view outputs subjects places → AreUnmoved now outputs subjects places
left_unmoved now view outputs subjects places left k d within none =
    let its = left k d within none in
    let s = get_or subjects k d in
    (all_heard_same now s outputs its.1, woken_due now s (due_waits view s its.0))

pub left_due : {A : Type 0} (view : View) (outputs : List Output) (subjects new : List (Subject A)) (places : List ℕ)
    → length new ≡ length subjects → AreLeft view outputs subjects places → AreSameBut places subjects new → AreDueBut new places
left_due {A} view outputs subjects new places size left same k d within none =
    subst (λ (s : Subject A). is_due s.progress ≡ true) (sym (same k d none))
    (due_waits view (get_or subjects k d) (left k d (omega (arith, within, size)) none).0)
