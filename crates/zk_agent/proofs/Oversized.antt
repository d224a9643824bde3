-- What the line hears of an answer that is too long, ahead of all that the client says: the first call that waits is answered, no call is
-- sent back with it, and where no output ends a wait with it none does without it. Of the subject that is refused the progress alone is
-- another one.
use Rattle.std.proofs.Common.{◌≡◌, ◌++◌, ◌+◌, ◌-◌, ◌^◌, append-nil, append_assoc, ℕ, Bool, true, false, cond, List, [], ◌∷◌}
use Rattle.std.proofs.Common.{Option, Some, None, fold, map, refl, sym, ap, subst, ◌∙◌}
use Rattle.std.specs.Prelude.{◌==◌, min}
use Rattle.std.specs.List.{flat_map, list_any}
use Rattle.zk_session.specs.declared.states.State.TheVariants.{Idle}
use Rattle.zk_conversation.specs.Pending.{first_ticket, or_else, ticket_of, Pending, Waiting, Part_waits, Call_waits}
use Rattle.zk_turns.specs.Turns.{Input, Output, Answer, ConnectionLoss, Drop, Enters, Report, Send, TooLarge}
use Rattle.zk_turns.specs.View.{View}
use Rattle.zk_turns.specs.Rule.{loss}
use Rattle.zk_follow.specs.declared.subject.Subject.{Subject}
use Rattle.zk_follow.specs.declared.progress.Progress.{Progress}
use Rattle.zk_follow.specs.declared.progress.Progress.TheVariants.{Refused}
use Rattle.zk_follow.specs.declared.progress.Refusal.TheVariants as refusal
use Rattle.zk_follow.specs.Following.{news_in, told_of, Steps}
use Rattle.zk_follow.specs.Refusing.{pause_by, too_long_for}
use Rattle.zk_follow.proofs.Waiting.{Silent}
use Rattle.zk_calls.specs.declared.entry.Entry.{Entry}
use Rattle.zk_calls.specs.Lines.{is_asked_again}
use Rattle.zk_agent.specs.declared.replies.Heard.{Heard}
use Rattle.zk_agent.specs.Agents.{TakesSo}
use Rattle.zk_agent.specs.Calls.{hears, hears_all, tells, tells_all}
use Rattle.zk_agent.specs.Overlong.{answer_of, found_by, refused_by, too_long_in, with_too_long}
use Rattle.zk_agent.specs.Replies.{heard_in, is_back}
use Rattle.zk_agent.specs.Telling.{news_told, Told}

-- ---- the first that waits

-- what was found stays
stays_found : (ticket : ℕ) (given : List Output)
    → (fold found_by (record { is_over = true; ticket = Some ticket }) given).ticket ≡ Some ticket
stays_found ticket [] = refl
stays_found ticket (Drop fault ∷ given) = stays_found ticket given
stays_found ticket (Answer its outcome ∷ given) = stays_found ticket given
stays_found ticket (Send bytes ∷ given) = stays_found ticket given
stays_found ticket (Report path side event ∷ given) = stays_found ticket given
stays_found ticket (Enters state ∷ given) = stays_found ticket given

pub first_lost : (pending : List Pending)
    → (fold found_by (record { is_over = true; ticket = None }) (flat_map loss pending ++ Enters Idle ∷ [])).ticket ≡ first_ticket pending
first_lost [] = refl
first_lost (pending ∷ more) = by (first_lost more) pending.waiting
  where
    by : (fold found_by (record { is_over = true; ticket = None }) (flat_map loss more ++ Enters Idle ∷ [])).ticket ≡ first_ticket more
        → (waiting : Waiting) → (fold found_by (record { is_over = true; ticket = None })
        (((elim waiting [ Part_waits last ↦ [] | Call_waits ticket question ↦ Answer ticket ConnectionLoss ∷ [] ]) ++ flat_map loss more)
        ++ Enters Idle ∷ [])).ticket
        ≡ or_else (ticket_of waiting) (first_ticket more)
    by rest (Part_waits last) = rest
    by rest (Call_waits ticket question) = stays_found ticket (flat_map loss more ++ Enters Idle ∷ [])

-- ---- what the line hears

-- nothing, or one answer, which is no reply
pub ahead : {A : Type 0} (P : List Output → Type 0) → P [] → ((ticket : ℕ) → P (Answer ticket TooLarge ∷ []))
    → (entries : List (Entry A)) (found : Option ℕ) → P (answer_of entries found)
ahead P none one entries None = none
ahead P none one entries (Some ticket) = by (is_asked_again ticket entries)
  where
    by : (b : Bool) → P (cond b (Answer ticket TooLarge ∷ []) [])
    by true = one ticket
    by false = none

pub silent_without : {A : Type 0} (ticket : ℕ) (line : List (Entry A)) (given : List Output)
    → Silent ticket (with_too_long line given) → Silent ticket given
silent_without ticket line given silent =
    ahead (λ first. Silent ticket (first ++ given) → Silent ticket given) (λ s. s) (λ its s. s.1) line (too_long_in given) silent

pub none_back : {A : Type 0} (line : List (Entry A)) (given : List Output)
    → list_any is_back given ≡ false → list_any is_back (with_too_long line given) ≡ false
none_back line given none =
    ahead (λ first. list_any is_back (first ++ given) ≡ false) none (λ its. none) line (too_long_in given)

module _ {A : Type 0} (line : List (Entry A)) where
  heard_in_two : (given first : List Output) → hears_all (hears_all line first) given ≡ hears_all line (first ++ given)
  heard_in_two given first = fold_in_two first line
    where
      fold_in_two : (outputs : List Output) (entries : List (Entry A))
          → hears_all (hears_all entries outputs) given ≡ hears_all entries (outputs ++ given)
      fold_in_two [] entries = refl
      fold_in_two (output ∷ outputs) entries = fold_in_two outputs (hears entries output)

  told_in_two : (given first : List Output)
      → tells_all line first ++ tells_all (hears_all line first) given ≡ tells_all line (first ++ given)
  told_in_two given first = in_two first line
    where
      in_two : (outputs : List Output) (entries : List (Entry A))
          → tells_all entries outputs ++ tells_all (hears_all entries outputs) given ≡ tells_all entries (outputs ++ given)
      in_two [] entries = refl
      in_two (output ∷ outputs) entries =
          append_assoc (tells entries output) (tells_all (hears entries output) outputs)
          (tells_all (hears_all (hears entries output) outputs) given)
          ∙ ap (λ told. tells entries output ++ told) (in_two outputs (hears entries output))

  module _ (between new : List (Entry A)) (given : List Output) (found : Option ℕ) where
    pub heard_ahead : found ≡ too_long_in given
        → between ≡ hears_all line (answer_of line found) → new ≡ hears_all between given → new ≡ hears_all line (with_too_long line given)
    heard_ahead is first rest =
        rest ∙ ap (λ es. hears_all es given) first ∙ heard_in_two given (answer_of line found)
        ∙ ap (λ o. hears_all line (answer_of line o ++ given)) is

    pub told_ahead : (before now after : List Told) → found ≡ too_long_in given
        → between ≡ hears_all line (answer_of line found) → now ≡ before ++ tells_all line (answer_of line found)
        → after ≡ now ++ tells_all between given → after ≡ before ++ tells_all line (with_too_long line given)
    told_ahead before now after is heard first rest =
        rest ∙ ap (λ told. told ++ tells_all between given) first
        ∙ append_assoc before (tells_all line (answer_of line found)) (tells_all between given)
        ∙ ap (λ es. before ++ (tells_all line (answer_of line found) ++ tells_all es given)) heard
        ∙ ap (λ told. before ++ told) (told_in_two given (answer_of line found))
        ∙ ap (λ o. before ++ tells_all line (answer_of line o ++ given)) is

  -- by whether the call is a read
  module _ (ticket : ℕ) (again : Bool) (is : again ≡ is_asked_again ticket line) where
    abbrev answer_by : Bool → List Output
    answer_by b = cond b (Answer ticket TooLarge ∷ []) []

    answer_is : (b : Bool) → again ≡ b → answer_by b ≡ answer_of line (Some ticket)
    answer_is b e = ap answer_by (sym e ∙ is)

    pub heard_one : (new : List (Entry A)) → again ≡ true → new ≡ hears line (Answer ticket TooLarge)
        → new ≡ hears_all line (answer_of line (Some ticket))
    heard_one new e heard = heard ∙ ap (hears_all line) (answer_is true e)

    pub told_one : (before now : List Told) → again ≡ true → now ≡ before ++ tells line (Answer ticket TooLarge)
        → now ≡ before ++ tells_all line (answer_of line (Some ticket))
    told_one before now e told =
        told ∙ ap (λ all. before ++ all) (sym (append-nil (tells line (Answer ticket TooLarge))))
        ∙ ap (λ outputs. before ++ tells_all line outputs) (answer_is true e)

    pub heard_none : again ≡ false → line ≡ hears_all line (answer_of line (Some ticket))
    heard_none e = ap (hears_all line) (answer_is false e)

    pub told_none : (before : List Told) → again ≡ false → before ≡ before ++ tells_all line (answer_of line (Some ticket))
    told_none before e = sym (append-nil before) ∙ ap (λ outputs. before ++ tells_all line outputs) (answer_is false e)

-- ---- what the agent's client takes, once a subject is refused

pub takes_refused : {A : Type 0} (now : ℕ) (input : Input) (view between after : View) (old stepped reported new : List (Subject A))
    (line new_line : List (Entry A)) (told new_told : List Told) (given : List Output) (found : Option ℕ) (says : Heard)
    → Steps now view input old between given stepped → reported ≡ map (told_of between) stepped
    → new_line ≡ hears_all line (with_too_long line given)
    → new_told ≡ (told ++ tells_all line (with_too_long line given)) ++ map news_told (flat_map (news_in between given) stepped)
    → says ≡ heard_in given → after ≡ between → found ≡ too_long_in given → new ≡ refused_by now found reported
    → TakesSo now input view old line told after new new_line new_told says
takes_refused now input view between after old stepped reported new line new_line told new_told given found says
    steps tells lines all heard same is refused =
    subst (λ v. TakesSo now input view old line told v new new_line new_told says) (sym same) (record {
      given = given;
      stepped = stepped;
      steps = steps;
      subjects = refused ∙ ap (λ o. refused_by now o reported) is ∙ ap (refused_by now (too_long_in given)) tells;
      line = lines;
      told = all;
      heard = heard;
    })

-- ---- what a refusal keeps of a subject

pub refused_same : {A X : Type 0} (f : Subject A → X)
    → ((subject : Subject A) (progress : Progress) → f (record subject { progress = progress }) ≡ f subject)
    → (now ticket : ℕ) (subject : Subject A) → f (too_long_for now ticket subject) ≡ f subject
refused_same f same now ticket subject = by (subject.ticket == ticket)
  where
    progress : Progress
    progress = Refused refusal.TooLarge (min (now + pause_by subject.told) (2 ^ 64 - 1))

    by : (b : Bool) → f (cond b (record subject { progress = progress }) subject) ≡ f subject
    by true = same subject progress
    by false = refl
