-- A stale answer was reported once: by the notice that ended it, and by none that came after, since an answer that is stale already is not
-- watched.
use Rattle.std.proofs.Common.{◌≡◌, ◌⊎◌, ◌&&◌, cond, Bool, true, false, List, [], ◌∷◌, ◌++◌, append_assoc, Option, Some, None, inl, inr}
use Rattle.std.proofs.Common.{refl, sym, ap, subst, ◌∙◌, ℕ, ℤ}
use Rattle.std.specs.Prelude.{◌↔◌, bytes_eq, is_some}
use Rattle.std.specs.List.{AllByRecursion}
use Rattle.zk_cache.specs.Kept.{Answer, Names, good, is_marked_good}
use Rattle.zk_cache.specs.declared.held.Kept.{Kept}
use Rattle.zk_cache.specs.declared.held.Mark.{Mark}
use Rattle.zk_cache.specs.declared.held.Mark.TheVariants.{Good, Stale}
use Rattle.zk_conversation.specs.Questions.{Question, Exists, GetData, GetChildren, SetData, Create, Delete, Close, Raw}
use Rattle.zk_conversation.specs.Results.{Result}
use Rattle.zk_laws.proofs.Outputs.{among_split}
use Rattle.zk_laws.specs.Headline.{IsQuietAt, tree_of, IsTrueOf}
use Rattle.zk_laws.specs.Served.{Entry, IsServing, items_in}
use Rattle.zk_laws.specs.Server.{Fits, FitsNames}
use Rattle.zk_laws.proofs.Headlines.{quiet_client}
use Rattle.zk_laws.proofs.Basics.{Among-left, Among-right}
use Rattle.zk_nodes.specs.History.{History, IsHistory, view as to_see}
use Rattle.zk_nodes.specs.Path.{Text, path_of}
use Rattle.zk_nodes.specs.declared.side.Side.{Side}
use Rattle.zk_nodes.specs.declared.side.Side.TheVariants.{Data, Child}
use Rattle.zk_records.specs.Events.{concerns}
use Rattle.zk_records.specs.declared.event.Event.{Event}
use Rattle.theory_rules.proofs.Looking_back.{nodes, children}
use Rattle.theory_rules.specs.Rules.{IsStaleSince, LeavesStale, as_stale}
use Rattle.zk_turns.proofs.Lists.{same_text}
use Rattle.zk_turns.proofs.Marks.{data_marks, child_marks}
use Rattle.zk_turns.proofs.Reporting.{reports_are}
use Rattle.zk_turns.specs.Meaning.{Among}
use Rattle.zk_turns.specs.Past.{Happening, Began, Lost, Pinged, Forgot, Halted, Came, Ticked, Took, Dropped, Asked, Denied, Past, Accepted}
use Rattle.zk_turns.specs.Past.{Expiry, Pong, Skipped, Replies, Watches_set, Notifies, Word, Says, Ends, Empties, Nothing, Left, if_at}
use Rattle.zk_turns.specs.Past.{reply_word, is_good, kept_data, kept_names, word_data, word_child, word_on, leaves_data, leaves_child}
use Rattle.zk_turns.specs.Reported.{report_on, reports_in, reports_of}
use Rattle.zk_turns.specs.Rule.{Stands}
use Rattle.zk_turns.specs.Sent.{outputs_of}
use Rattle.zk_turns.specs.Taken.{past_of}
use Rattle.zk_turns.specs.Turns.{Output, Report, Start}
use Rattle.zk_turns.specs.View.{View}
use Rattle.theory_rules.specs.Missed.{IsReportedOnce, ChangesAreReported, NamesAreReported}

-- ---- the reports of one happening, and of several

abbrev reports_by : Happening → Past → List Output
reports_by (Took (Notifies event path)) past = report_on Child event path past ++ report_on Data event path past
reports_by _ past = []

one_more : (x : Happening) (past : Past) → reports_of (x ∷ past) ≡ reports_by x past ++ reports_of past
one_more (Took (Notifies event path)) past =
    sym (append_assoc (report_on Child event path past) (report_on Data event path past) (reports_of past))
one_more (Took (Accepted welcome)) past = refl
one_more (Took Expiry) past = refl
one_more (Took Pong) past = refl
one_more (Took Skipped) past = refl
one_more (Took (Replies ticket question zxid result)) past = refl
one_more (Took (Watches_set last zxid)) past = refl
one_more Began past = refl
one_more Lost past = refl
one_more Pinged past = refl
one_more Forgot past = refl
one_more Halted past = refl
one_more (Came byte) past = refl
one_more (Ticked moment) past = refl
one_more (Dropped fault) past = refl
one_more (Asked ticket call) past = refl
one_more (Denied ticket why) past = refl

-- the reports of these happenings, after a past
abbrev reports_since : List Happening → Past → List Output
reports_since [] before = []
reports_since (x ∷ since) before = reports_by x (since ++ before) ++ reports_since since before

since_and_before : (since : List Happening) (before : Past) → reports_of (since ++ before) ≡ reports_since since before ++ reports_of before
since_and_before [] before = refl
since_and_before (x ∷ since) before =
    one_more x (since ++ before) ∙ ap (λ (rest : List Output). reports_by x (since ++ before) ++ rest) (since_and_before since before)
    ∙ sym (append_assoc (reports_by x (since ++ before)) (reports_since since before) (reports_of before))

-- ---- a report is about a side of a path where the answer was good

side_of : Output → Side
side_of (Report path side event) = side
side_of _ = Data

about_side : (path at : Text) (side on : Side) (other event : Event)
    → Report path side other ≡ Report at on event → (side ≡ on) × (path ≡ at)
about_side path at side on other event is =
    (ap (λ (o : Output). elim o [ Report p s e ↦ s | _ ↦ side ]) is, ap (λ (o : Output). elim o [ Report p s e ↦ p | _ ↦ path ]) is)

in_report : (path at : Text) (side on : Side) (other event : Event) (past : Past) (is_told good_there : Bool)
    → good_there ≡ is_good on at past
    → Among (Report path side other) (cond (is_told && good_there) (Report at on event ∷ []) [])
    → (side ≡ on) × (path ≡ at) × (is_good on at past ≡ true)
in_report path at side on other event past true true good among = elim among [
  | inl is ↦ (let a = about_side path at side on other event is in (a.0, a.1, sym good))
  | inr none ↦ absurd none
]
in_report path at side on other event past true false good among = absurd among
in_report path at side on other event past false good_there good among = absurd among

reported_on : (path at : Text) (side on : Side) (other event : Event) (past : Past)
    → Among (Report path side other) (report_on on event at past)
    → (side ≡ on) × (path ≡ at) × (is_good on at past ≡ true)
reported_on path at side on other event past = in_report path at side on other event past (concerns event on) (is_good on at past) refl

good_at : (path at : Text) (side on : Side) (past : Past) → (side ≡ on) × (path ≡ at) × (is_good on at past ≡ true)
    → is_good side path past ≡ true
good_at path at side on past is = ap (λ s. is_good s path past) is.0 ∙ ap (λ p. is_good on p past) is.1 ∙ is.2

reported_by : (path : Text) (side : Side) (other : Event) (x : Happening) (past : Past) → Among (Report path side other) (reports_by x past)
    → is_good side path past ≡ true
reported_by path side other (Took (Notifies event at)) past among =
    elim (among_split (Report path side other) (report_on Child event at past) (report_on Data event at past) among) [
      | inl first ↦ good_at path at side Child past (reported_on path at side Child other event past first)
      | inr second ↦ good_at path at side Data past (reported_on path at side Data other event past second)
    ]
reported_by path side other (Took (Accepted welcome)) past among = absurd among
reported_by path side other (Took Expiry) past among = absurd among
reported_by path side other (Took Pong) past among = absurd among
reported_by path side other (Took Skipped) past among = absurd among
reported_by path side other (Took (Replies ticket question zxid result)) past among = absurd among
reported_by path side other (Took (Watches_set last zxid)) past among = absurd among
reported_by path side other Began past among = absurd among
reported_by path side other Lost past among = absurd among
reported_by path side other Pinged past among = absurd among
reported_by path side other Forgot past among = absurd among
reported_by path side other Halted past among = absurd among
reported_by path side other (Came byte) past among = absurd among
reported_by path side other (Ticked moment) past among = absurd among
reported_by path side other (Dropped fault) past among = absurd among
reported_by path side other (Asked ticket call) past among = absurd among
reported_by path side other (Denied ticket why) past among = absurd among

-- ---- which notice ended it

-- a notice that is about this side of this path
abbrev IsNoticeOf : Side → Text → Happening → Type 0
IsNoticeOf side path x = (event : Event) × (x ≡ Took (Notifies event path)) × (concerns event side ≡ true)

module _ {A : Type 0} where
  not_said : (b : Bool) (says : A) → cond b (Says says) Nothing ≡ Ends → ⊥
  not_said true says is = absurd cc
  not_said false says is = absurd cc

  not_left : (left : Option (Left A)) (path : Text) → if_at left path ≡ Ends → ⊥
  not_left None path is = absurd cc
  not_left (Some left) path is = not_said (bytes_eq left.path path) left.says is

  not_replied : (question : Question) (left : Option (Left A)) (path : Text) → reply_word question left path ≡ Ends → ⊥
  not_replied Close left path is = absurd cc
  not_replied (Exists at watch) left path is = not_left left path is
  not_replied (GetData at watch) left path is = not_left left path is
  not_replied (GetChildren at watch) left path is = not_left left path is
  not_replied (SetData at) left path is = not_left left path is
  not_replied (Create at) left path is = not_left left path is
  not_replied (Delete at) left path is = not_left left path is
  not_replied Raw left path is = not_left left path is

  noticed : (side : Side) (path at : Text) (event : Event) (is_about same : Bool) → is_about ≡ concerns event side → same ≡ bytes_eq at path
      → (let w : Word A = cond (is_about && same) Ends Nothing in w ≡ Ends) → IsNoticeOf side path (Took (Notifies event at))
  noticed side path at event true true about same is = (event, ap (λ p. Took (Notifies event p)) (same_text at path (sym same)), sym about)
  noticed side path at event true false about same is = absurd cc
  noticed side path at event false same about eq is = absurd cc

  ended_by : (side : Side) (leaves : Question → Result → Option (Left A)) (path : Text) (x : Happening)
      → word_on side leaves path x ≡ Ends → IsNoticeOf side path x
  ended_by side leaves path (Took (Notifies event at)) is = noticed side path at event (concerns event side) (bytes_eq at path) refl refl is
  ended_by side leaves path (Took (Replies ticket question zxid result)) is = absurd (not_replied question (leaves question result) path is)
  ended_by side leaves path (Took (Accepted welcome)) is = absurd cc
  ended_by side leaves path (Took Expiry) is = absurd cc
  ended_by side leaves path (Took Pong) is = absurd cc
  ended_by side leaves path (Took Skipped) is = absurd cc
  ended_by side leaves path (Took (Watches_set last zxid)) is = absurd cc
  ended_by side leaves path Began is = absurd cc
  ended_by side leaves path Lost is = absurd cc
  ended_by side leaves path Pinged is = absurd cc
  ended_by side leaves path Forgot is = absurd cc
  ended_by side leaves path Halted is = absurd cc
  ended_by side leaves path (Came byte) is = absurd cc
  ended_by side leaves path (Ticked moment) is = absurd cc
  ended_by side leaves path (Dropped fault) is = absurd cc
  ended_by side leaves path (Asked ticket call) is = absurd cc
  ended_by side leaves path (Denied ticket why) is = absurd cc

-- ---- what one notice reports

-- on its side, and above and beside that on the other one
abbrev Told : Side → Text → Event → Past → Type 0
Told side path event before =
    (above : List Output) × (beside : List Output)
    × (reports_by (Took (Notifies event path)) before ≡ above ++ Report path side event ∷ beside)
    × ((other : Event) → Among (Report path side other) (above ++ beside) → ⊥)

told_on : (side : Side) (path : Text) (event : Event) (before : Past)
    → concerns event side ≡ true → is_good side path before ≡ true → report_on side event path before ≡ Report path side event ∷ []
told_on side path event before about good =
    ap (λ (b : Bool). cond (b && is_good side path before) (Report path side event ∷ []) []) about
    ∙ ap (λ (b : Bool). cond (true && b) (Report path side event ∷ []) []) good

not_both : Data ≡ Child → ⊥
not_both is = absurd cc

one_notice : (side : Side) (path : Text) (event : Event) (before : Past)
    → concerns event side ≡ true → is_good side path before ≡ true → Told side path event before
one_notice Data path event before about good = (
  report_on Child event path before,
  [],
  ap (λ (rest : List Output). report_on Child event path before ++ rest) (told_on Data path event before about good),
  λ other among. elim (among_split (Report path Data other) (report_on Child event path before) [] among) [
    | inl child ↦ not_both (reported_on path path Data Child other event before child).0
    | inr none ↦ absurd none
  ],
)
one_notice Child path event before about good = (
  [],
  report_on Data event path before,
  ap (λ (first : List Output). first ++ report_on Data event path before) (told_on Child path event before about good),
  λ other among. not_both (sym (reported_on path path Child Data other event before among).0),
)

-- ---- reported once

module _ {A : Type 0} (side : Side) (path : Text) (leaves : Question → Result → Option (Left A)) (kept : Past → Option (Kept A))
    (stale_is : (past : Past) (answer : A) → kept past ≡ as_stale answer ↔ IsStaleSince (word_on side leaves path) kept past answer)
    (marks : (past : Past) → is_marked_good (kept past) ≡ is_good side path past) where
  abbrev word : Happening → Word A
  word = word_on side leaves path

  -- while an answer is stale nothing is reported there
  none_since : (since : List Happening) (notice : Happening) (before : Past) (answer : A)
      → word notice ≡ Ends → kept before ≡ good answer → AllByRecursion (LeavesStale word) since
      → (other : Event) → Among (Report path side other) (reports_since since (notice ∷ before)) → ⊥
  none_since [] notice before answer ended was stays other among = absurd among
  none_since (x ∷ since) notice before answer ended was stays other among =
      elim (among_split (Report path side other) (reports_by x (since ++ notice ∷ before)) (reports_since since (notice ∷ before)) among) [
        | inl here ↦ (
            let is = (stale_is (since ++ notice ∷ before) answer).1 (record {
              since = since;
              notice = notice;
              before = before;
              whole = refl;
              ended = ended;
              was_good = was;
              stays = stays.1;
            }) in
            let not_good : is_good side path (since ++ notice ∷ before) ≡ false =
            sym (marks (since ++ notice ∷ before)) ∙ ap is_marked_good is in
            let is_so : true ≡ false = sym (reported_by path side other x (since ++ notice ∷ before) here) ∙ not_good in
            absurd cc
            )
        | inr later ↦ none_since since notice before answer ended was stays.1 other later
      ]

  once : (past : Past) (answer : A) (outputs : List Output)
      → reports_in outputs ≡ reports_of past → IsStaleSince word kept past answer → IsReportedOnce side path word kept past outputs answer
  once past answer outputs all stale =
      let notice = ended_by side leaves path stale.notice stale.ended in
      let good_before : is_good side path stale.before ≡ true = sym (marks stale.before) ∙ ap is_marked_good stale.was_good in
      let told = one_notice side path notice.0 stale.before notice.2 good_before in
      let since = reports_since stale.since (stale.notice ∷ stale.before) in
      record {
        stale = stale;
        event = notice.0;
        notice = notice.1;
        later = since ++ told.0;
        beside = told.1;
        reported = all ∙ ap reports_of stale.whole ∙ since_and_before stale.since (stale.notice ∷ stale.before)
            ∙ ap (λ (rest : List Output). since ++ rest)
            (one_more stale.notice stale.before ∙ ap (λ (x : Happening). reports_by x stale.before ++ reports_of stale.before) notice.1
            ∙ ap (λ (first : List Output). first ++ reports_of stale.before) told.2)
            ∙ sym (append_assoc since (told.0 ++ Report path side notice.0 ∷ told.1) (reports_of stale.before))
            ∙ ap (λ (first : List Output). first ++ reports_of stale.before)
            (sym (append_assoc since told.0 (Report path side notice.0 ∷ told.1)));
        once = λ other among. elim (among_split (Report path side other) (since ++ told.0) told.1 among) [
          | inl first ↦ elim (among_split (Report path side other) since told.0 first) [
            | inl later ↦ none_since stale.since stale.notice stale.before answer stale.ended stale.was_good stale.stays other later
            | inr above ↦ told.3 other (Among-left (Report path side other) told.0 told.1 above)
          ]
          | inr beside ↦ told.3 other (Among-right (Report path side other) told.0 told.1 beside)
        ];
      }

-- ---- where all is quiet

is_stale : {A : Type 0} (kept : Kept A) → kept.mark ≡ Stale → Some kept ≡ as_stale kept.answer
is_stale {A} kept is = ap (λ (m : Mark). Some (record { answer = kept.answer; mark = m })) is

by_mark : {A P : Type 0} (kept : Kept A) → (kept.mark ≡ Good → P) → (kept.mark ≡ Stale → P) → P
by_mark {A} {P} kept if_good if_stale = by kept.mark refl
  where
    by : (mark : Mark) → kept.mark ≡ mark → P
    by Good is = if_good is
    by Stale is = if_stale is

pub changes : ChangesAreReported
changes h start entries view is may s quiet path kept at differs =
    let past = past_of start (items_in entries) in
    by_mark kept (λ good. absurd (differs ((quiet_client h is start entries view may s quiet).nodes path kept at good)))
    (λ stale. once Data path leaves_data (kept_data path) (nodes path) (data_marks path) past kept.answer (outputs_of (items_in entries))
    (reports_are start (items_in entries) view s)
    ((nodes path past kept.answer).0 (sym (ap (λ c. c.nodes path) s.cache) ∙ at ∙ is_stale kept stale)))

pub names : NamesAreReported
names h start entries view is may s quiet path kept at differs =
    let past = past_of start (items_in entries) in
    by_mark kept (λ good. absurd (differs ((quiet_client h is start entries view may s quiet).children path kept at good)))
    (λ stale. once Child path leaves_child (kept_names path) (children path) (child_marks path) past kept.answer
    (outputs_of (items_in entries)) (reports_are start (items_in entries) view s)
    ((children path past kept.answer).0 (sym (ap (λ c. c.children path) s.cache) ∙ at ∙ is_stale kept stale)))
