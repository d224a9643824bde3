-- Marks, lists and reports, by what was good: happening by happening, an answer is marked good exactly as long as nothing has ended it.
use Rattle.zk_watches.specs.Lists.{side_has, has}
use Rattle.std.proofs.Common.{◌≡◌, ℕ, true, false, cond, ◌&&◌, ◌||◌, List, [], ◌∷◌, ◌++◌, Option, Some, None, refl, ap, ◌∙◌}
use Rattle.std.specs.Prelude.{bytes_eq, is_some, if◌then◌else◌}
use Rattle.std.specs.List.{AllByRecursion}
use Rattle.zk_nodes.specs.Path.{Text}
use Rattle.zk_nodes.specs.declared.side.Side.{Side}
use Rattle.zk_nodes.specs.declared.side.Side.TheVariants.{Data, Child}
use Rattle.zk_records.specs.declared.event.Event.{Event}
use Rattle.zk_nodes.specs.declared.data_stat.DataStat.{DataStat}
use Rattle.zk_turns.specs.Turns.{Start, Report}
use Rattle.zk_turns.specs.Past.{Past, Happening, Took, Forgot, Notifies, Word, Says, Ends, Empties, Nothing, word_data, word_child}
use Rattle.zk_turns.specs.Past.{still_said, is_good, in_known, in_missing, listed, lists_of, data_with, good_answer, kept_by, kept_data}
use Rattle.zk_turns.specs.Past.{kept_names}
use Rattle.zk_turns.proofs.Marked.{IsMarked, fields_in, AgreesWith}
use Rattle.zk_cache.specs.Kept.{Answer, Absent, Known, Full, Names, stale, without_stale, is_marked_good}
use Rattle.zk_cache.specs.declared.held.Kept.{Kept}
use Rattle.zk_cache.specs.declared.held.Mark.{Mark}
use Rattle.zk_cache.specs.declared.held.Mark.TheVariants.{Good, Stale}
use Rattle.zk_records.specs.Events.{concerns}
use Rattle.zk_turns.specs.View.{view_at}
use Rattle.zk_turns.specs.Rule.{report}
use Rattle.zk_turns.proofs.Lists.{bytes_eq-refl}
use Rattle.zk_turns.proofs.Registered.{has_known, has_missing, has_parents}
use Rattle.zk_turns.proofs.Words.{notice_word, after_word, is_there, is_absent, with_data, unless_forgot}

-- ---- marks

stale_is_not : {A : Type 0} (kept : Option (Kept A)) → is_marked_good (stale kept) ≡ false
stale_is_not None = refl
stale_is_not (Some kept) = refl

without_stale_same : {A : Type 0} (kept : Option (Kept A)) → is_marked_good (without_stale kept) ≡ is_marked_good kept
without_stale_same None = refl
without_stale_same {A} (Some kept) = by kept.mark
  where
    by : (m : Mark) → is_marked_good (without_stale (Some (record { answer = kept.answer; mark = m })))
        ≡ is_marked_good (Some (record { answer = kept.answer; mark = m }))
    by Good = refl
    by Stale = refl

unless_forgot_same : {A : Type 0} (happening : Happening) (kept : Option (Kept A))
    → is_marked_good (unless_forgot happening kept) ≡ is_marked_good kept
unless_forgot_same Forgot kept = without_stale_same kept
unless_forgot_same _ kept = refl

mark_step : {A : Type 0} (word : Word A) (known : A → A) (happening : Happening) (kept : Option (Kept A)) (before : Option A)
    → is_marked_good kept ≡ is_some before
    → is_marked_good (kept_by word known happening kept) ≡ is_some (after_word word before)
mark_step (Says a) known happening kept before e = refl
mark_step Ends known happening kept before e = stale_is_not kept
mark_step Empties known happening kept before e = refl
mark_step Nothing known happening kept before e = unless_forgot_same happening kept ∙ e

pub data_marks : (path : Text) (past : Past) → is_marked_good (kept_data path past) ≡ is_good Data path past
data_marks path [] = refl
data_marks path (happening ∷ past) =
    mark_step (word_data path happening) (λ answer. good_answer path answer past) happening (kept_data path past)
    (still_said (word_data path) past) (data_marks path past)

pub child_marks : (path : Text) (past : Past) → is_marked_good (kept_names path past) ≡ is_good Child path past
child_marks path [] = refl
child_marks path (happening ∷ past) =
    mark_step (word_child path happening) (λ names. names) happening (kept_names path past)
    (still_said (word_child path) past) (child_marks path past)

-- ---- answers

with_data_fields : (fields : DataStat) (bytes : Option (Option (List ℕ))) → fields_in (with_data fields bytes) ≡ Some fields
with_data_fields fields None = refl
with_data_fields fields (Some bytes) = refl

said_agrees : (path : Text) (answer : Answer) (past : Past) → fields_in (good_answer path answer past) ≡ fields_in answer
said_agrees path Absent past = refl
said_agrees path (Known fields) past = with_data_fields fields (data_with path fields past)
said_agrees path (Full bytes fields) past = refl

none_agrees : (kept : Option (Kept Answer)) → AgreesWith kept None
none_agrees None = tt
none_agrees (Some kept) = tt

unless_forgot_agrees : (happening : Happening) (kept : Option (Kept Answer)) (said : Option Answer)
    → AgreesWith kept said → AgreesWith (unless_forgot happening kept) said
unless_forgot_agrees Forgot None said g = g
unless_forgot_agrees Forgot (Some kept) said g = by kept.mark said g
  where
    by : (m : Mark) (s : Option Answer) → AgreesWith (Some (record { answer = kept.answer; mark = m })) s
        → AgreesWith (without_stale (Some (record { answer = kept.answer; mark = m }))) s
    by Good s g = g
    by Stale None g = tt
    by Stale (Some a) g = tt
unless_forgot_agrees _ kept said g = g

agree_step : (path : Text) (word : Word Answer) (happening : Happening) (past : Past) (said : Option Answer)
    → AgreesWith (kept_data path past) said
    → AgreesWith (kept_by word (λ answer. good_answer path answer past) happening (kept_data path past)) (after_word word said)
agree_step path (Says answer) happening past said g = said_agrees path answer past
agree_step path Ends happening past said g = none_agrees (stale (kept_data path past))
agree_step path Empties happening past said g = tt
agree_step path Nothing happening past said g = unless_forgot_agrees happening (kept_data path past) said g

pub data_agrees : (path : Text) (past : Past) → AgreesWith (kept_data path past) (still_said (word_data path) past)
data_agrees path [] = tt
data_agrees path (happening ∷ past) =
    agree_step path (word_data path happening) happening past (still_said (word_data path) past) (data_agrees path past)

-- ---- watched, and reported

there_or_absent : (answer : Option Answer) → (is_there answer || is_absent answer) ≡ is_some answer
there_or_absent None = refl
there_or_absent (Some Absent) = refl
there_or_absent (Some (Known fields)) = refl
there_or_absent (Some (Full bytes fields)) = refl

pub watched_is : (side : Side) (path : Text) (past : Past) → side_has (lists_of past) side path ≡ is_good side path past
watched_is Data path past =
    ap (λ b. b || has (listed in_missing past) path) (has_known path past)
    ∙ ap (λ b. in_known path past || b) (has_missing path past)
    ∙ there_or_absent (still_said (word_data path) past)
watched_is Child path past = has_parents path past

module _ (start : Start) where
  pub report_is : (event : Event) (path : Text) (side : Side) (past : Past)
      → report (view_at start past) event path side
      ≡ (if concerns event side && is_good side path past then Report path side event ∷ [] else [])
  report_is event path side past = ap (λ b. cond (concerns event side && b) (Report path side event ∷ []) []) (watched_is side path past)

no_longer : (path at : Text) (past : Past) (side : Side) (event : Event)
    → bytes_eq at path ≡ true → concerns event side ≡ true → is_good side path (Took (Notifies event at) ∷ past) ≡ false
no_longer path at past Data event e about =
    ap (λ b. is_some (after_word (notice_word {A = Answer} b at path) (still_said (word_data path) past))) about
    ∙ ap (λ b. is_some (after_word (cond {A = Word Answer} b Ends Nothing) (still_said (word_data path) past))) e
no_longer path at past Child event e about =
    ap (λ b. is_some (after_word (notice_word {A = Names} b at path) (still_said (word_child path) past))) about
    ∙ ap (λ b. is_some (after_word (cond {A = Word Names} b Ends Nothing) (still_said (word_child path) past))) e

pub ended_is : (event : Event) (path : Text) (side : Side) (past : Past)
    → concerns event side ≡ true → is_good side path (Took (Notifies event path) ∷ past) ≡ false
ended_is event path side past about = no_longer path path past side event (bytes_eq-refl path) about

-- ---- in other words

marked_step : {A : Type 0} (word : Happening → Word A) (happening : Happening) (past : Past) (answer : A)
    (said : Word A) → word happening ≡ said
    → (still_said word past ≡ Some answer → IsMarked word past answer) → after_word said (still_said word past) ≡ Some answer
    → IsMarked word (happening ∷ past) answer
marked_step word happening past answer (Says a) e ih is =
    record { since = []; reply = happening; before = past; whole = refl; says = e ∙ (let s : a ≡ answer = cc in ap Says s); quiet = tt }
marked_step word happening past answer Ends e ih is = absurd cc
marked_step word happening past answer Empties e ih is = absurd cc
marked_step word happening past answer Nothing e ih is =
    let m = ih is in
    record {
      since = happening ∷ m.since;
      reply = m.reply;
      before = m.before;
      whole = ap (λ t. happening ∷ t) m.whole;
      says = m.says;
      quiet = (e, m.quiet);
    }

pub marked : {A : Type 0} (word : Happening → Word A) (past : Past) (answer : A)
    → still_said word past ≡ Some answer → IsMarked word past answer
marked word [] answer is = absurd cc
marked word (happening ∷ past) answer is = marked_step word happening past answer (word happening) refl (marked word past answer) is

stands_through : {A : Type 0} (word : Happening → Word A) (since : List Happening) (reply : Happening) (before : Past) (answer : A)
    → word reply ≡ Says answer
    → AllByRecursion (λ happening. word happening ≡ Nothing) since → still_said word (since ++ reply ∷ before) ≡ Some answer
stands_through word [] reply before answer e q = ap (λ w. after_word w (still_said word before)) e
stands_through word (happening ∷ since) reply before answer e q =
    ap (λ w. after_word w (still_said word (since ++ reply ∷ before))) q.0 ∙ stands_through word since reply before answer e q.1

pub stands_marked : {A : Type 0} (word : Happening → Word A) (past : Past) (answer : A)
    → IsMarked word past answer → still_said word past ≡ Some answer
stands_marked word past answer m = ap (still_said word) m.whole ∙ stands_through word m.since m.reply m.before answer m.says m.quiet
