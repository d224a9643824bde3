-- The turns of an input that an agent's client hears, what they say, and where they lead.
use Rattle.std.proofs.Common.{◌≡◌, ◌++◌, inl, inr, ℕ, Bool, true, false, cond, List, [], ◌∷◌, refl, sym, ap, subst, ◌∙◌, append_assoc}
use Rattle.std.proofs.lemmas.List.{append-nil, reverse-append}
use Rattle.std.proofs.lemmas.List.Elements.{filter-append}
use Rattle.std.specs.Prelude.{fold, reverse, slice_index_or}
use Rattle.std.specs.List.{AllByRecursion, FoldsTo}
use Rattle.zk_turns.specs.Turns.{Start, Item, Turned, Turn, Input, Now, Output}
use Rattle.zk_turns.specs.Turns as turns
use Rattle.zk_turns.specs.View.{View}
use Rattle.zk_turns.specs.Rule.{Rule, Stands, forgotten}
use Rattle.zk_turns.specs.Meaning.{Among}
use Rattle.zk_turns.specs.Reported.{is_report, reports_in}
use Rattle.zk_turns.specs.Sent.{outputs_of}
use Rattle.zk_turns.proofs.Sending.{onto, onto-append, outputs_onto}
use Rattle.zk_turns.proofs.Stepped.{one_turn}
use Rattle.zk_follow.specs.declared.subject.Subject.{Subject}
use Rattle.zk_follow.specs.Following.{outputs_in, AreReads}
use Rattle.zk_agent.specs.Agents.{Trail, HearsSo}
use Rattle.ffi_c.specs.Pasts.{IsRead, AreHeard, Chapter, with_turns}

-- ---- lists

pub fold_more : {A B : Type 0} (f : B → A → B) (b : B) (first second : List A) → fold f b (first ++ second) ≡ fold f (fold f b first) second
fold_more f b [] second = refl
fold_more f b (x ∷ first) second = fold_more f (f b x) first second

-- the reports among outputs before those that were there, the newest first
abbrev pub back : List Output → List Output → List Output
back before outputs = fold (λ all output. cond (is_report output) (output ∷ all) all) before outputs

pub back_reversed : (outputs : List Output) (before : List Output) → back before outputs ≡ reports_in (reverse outputs) ++ before
back_reversed [] before = refl
back_reversed (output ∷ outputs) before =
    back_reversed outputs (cond (is_report output) (output ∷ before) before) ∙ by (is_report output) refl
    ∙ ap (λ t. reports_in t ++ before) (sym (reverse-append (output ∷ []) outputs))
  where
    by : (b : Bool) → is_report output ≡ b → reports_in (reverse outputs) ++ cond b (output ∷ before) before
        ≡ reports_in (reverse outputs ++ output ∷ []) ++ before
    by true e = sym (append_assoc (reports_in (reverse outputs)) (output ∷ []) before)
        ∙ ap (λ t. t ++ before) (ap (λ t. reports_in (reverse outputs) ++ t) (ap (λ b. cond b (output ∷ []) []) (sym e))
        ∙ sym (filter-append is_report (reverse outputs) (output ∷ [])))
    by false e = ap (λ t. t ++ before) (sym (filter-append is_report (reverse outputs) (output ∷ [])
        ∙ ap (λ t. reports_in (reverse outputs) ++ t) (ap (λ b. cond b (output ∷ []) []) e) ∙ append-nil (reports_in (reverse outputs))))

-- ---- turns

pub forget_stands : (start : Start) (items : List Item) (view : View)
    → Stands start items view → Stands start (turns.Forgets ∷ items) (record view { cache = forgotten view.cache })
forget_stands start items view s = record {
  standing = s.standing;
  saved = s.saved;
  lists = s.lists;
  cache = ap forgotten s.cache;
  going = λ on. ap (λ (v : View). record v { cache = forgotten v.cache }) (s.going on);
  said = s.said;
  asked = s.asked;
}

pub add_turns : (made : List Turn) (start : Start) (items : List Item) (old new : View)
    → FoldsTo Rule old made new → Stands start items old → Stands start (with_turns made items) new
add_turns [] start items old new same stands = subst (Stands start items) same stands
add_turns (turn ∷ made) start items old new chain stands =
    add_turns made start (Turned turn ∷ items) chain.0 new chain.2 (one_turn start items old chain.0 turn stands chain.1)

pub reports_added : (made : List Turn) (items : List Item)
    → reports_in (outputs_of (with_turns made items)) ≡ back (reports_in (outputs_of items)) (outputs_in made)
reports_added [] items = refl
reports_added (turn ∷ made) items =
    reports_added made (Turned turn ∷ items)
    ∙ ap (λ t. back t (outputs_in made)) (filter-append is_report (reverse turn.outputs) (outputs_of items)
    ∙ sym (back_reversed turn.outputs (reports_in (outputs_of items))))
    ∙ sym (fold_more (λ all output. cond (is_report output) (output ∷ all) all) (reports_in (outputs_of items)) turn.outputs
    (outputs_in made))

pub reads_are : {A : Type 0} (subjects : List (Subject A)) (reads : List Turn) → AreReads subjects reads → AllByRecursion IsRead reads
reads_are subjects [] are = tt
reads_are {A} subjects (turn ∷ reads) are =
    let subject : Subject A = slice_index_or subjects are.0.0 are.0.1 in (
      (subject.ticket, are.0.4.0, subject.side, are.0.2, subject.path, are.0.4.1, are.0.4.2),
      reads_are subjects reads are.1,
    )

-- the turns of an input that is heard
abbrev pub heard_turns : {A : Type 0} (now : ℕ) (input : Input) (old new : Trail A) → HearsSo now input old new → List Turn
heard_turns now input old new does =
    record { input = Now now; outputs = does.takes.steps.first } ∷ record { input = input; outputs = does.takes.steps.second }
    ∷ does.takes.steps.calls

pub heard_are : {A : Type 0} (now : ℕ) (input : Input) (old new : Trail A) (does : HearsSo now input old new)
    → AreHeard now input (heard_turns now input old new does)
heard_are now input old new does = record {
  first = does.takes.steps.first;
  second = does.takes.steps.second;
  reads = does.takes.steps.calls;
  are_reads = reads_are old.subjects does.takes.steps.calls does.takes.steps.reads;
  are = refl;
}

pub heard_said : {A : Type 0} (now : ℕ) (input : Input) (old new : Trail A) (does : HearsSo now input old new)
    → outputs_in (heard_turns now input old new does) ≡ does.takes.given
heard_said now input old new does =
    sym (append_assoc does.takes.steps.first does.takes.steps.second (outputs_in does.takes.steps.calls)) ∙ sym does.takes.steps.said

abbrev pub with_more : List Turn → Chapter → Chapter
with_more made chapter = record chapter { items = with_turns made chapter.items }

-- ---- what was said

among_later : (output : Output) (outputs earlier : List Output) → Among output earlier → Among output (onto outputs earlier)
among_later output [] earlier among = among
among_later output (one ∷ outputs) earlier among = among_later output outputs (one ∷ earlier) (inr among)

among_first : (output : Output) (outputs earlier : List Output) → Among output outputs → Among output (onto outputs earlier)
among_first output [] earlier among = absurd among
among_first output (one ∷ outputs) earlier (inl same) = among_later output outputs (one ∷ earlier) (inl same)
among_first output (one ∷ outputs) earlier (inr among) = among_first output outputs (one ∷ earlier) among

said_onto : (made : List Turn) (items : List Item) → outputs_of (with_turns made items) ≡ onto (outputs_in made) (outputs_of items)
said_onto [] items = refl
said_onto (turn ∷ made) items =
    said_onto made (Turned turn ∷ items) ∙ ap (onto (outputs_in made)) (outputs_onto turn items)
    ∙ sym (onto-append turn.outputs (outputs_in made) (outputs_of items))

-- What was said before, and what turns say, is among what was said after them.
pub said_before : (made : List Turn) (items : List Item) (output : Output) → Among output (outputs_of items)
    → Among output (outputs_of (with_turns made items))
said_before made items output among =
    subst (Among output) (sym (said_onto made items)) (among_later output (outputs_in made) (outputs_of items) among)

pub said_then : (made : List Turn) (items : List Item) (output : Output) → Among output (outputs_in made)
    → Among output (outputs_of (with_turns made items))
said_then made items output among =
    subst (Among output) (sym (said_onto made items)) (among_first output (outputs_in made) (outputs_of items) among)
