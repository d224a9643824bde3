-- What a subject has heard leaves its read waiting, where it still counts as one that is being read.
use Rattle.std.proofs.Common.{◌≡◌, ◌++◌, ℕ, Bool, true, false, cond, List, [], ◌∷◌, refl, sym, ap, subst, ◌∙◌}
use Rattle.std.specs.Prelude.{◌==◌, bytes_eq}
use Rattle.zk_conversation.specs.Results.{Result, NoNode, Refused as Refused_by}
use Rattle.zk_turns.specs.Turns.{Outcome, Replied, Output, Answer, Enters, Report, Turn}
use Rattle.zk_turns.specs.View.{View}
use Rattle.zk_turns.specs.Rule.{Rule, RuleAt}
use Rattle.zk_follow.specs.declared.subject.Subject.{Subject}
use Rattle.zk_follow.specs.declared.progress.Progress.{Progress}
use Rattle.zk_follow.specs.declared.progress.Progress.TheVariants.{Due, Reading, Refused}
use Rattle.zk_follow.specs.declared.progress.Refusal.TheVariants.{Code, TooManyWatches, TooLarge, SessionClosed}
use Rattle.zk_follow.specs.Following.{after_code, progress_after, answered, entered, heard, heard_all, read_of, IsBeingRead, IsCounted}
use Rattle.zk_follow.proofs.Reading.{is_found, is_there}
use Rattle.zk_follow.proofs.Waiting.{ends_wait, Silent, keeps_turn}

is_reading : Progress → Bool
is_reading Reading = true
is_reading _ = false

-- with an answer a read waits no more
no_code : (now : ℕ) (was_there : Bool) (result : Result) → after_code now was_there result ≡ Reading → ⊥
unfolding is_reading
no_code now was_there (Refused_by code) e = let f = ap is_reading e in cc
no_code now true NoNode e = let f = ap is_reading e in cc
no_code now false NoNode e = let f = ap is_reading e in cc
no_code now was_there _ e = let f = ap is_reading e in cc

pub no_answer : (now : ℕ) (was_there : Bool) (outcome : Outcome) → progress_after now was_there outcome ≡ Reading → ⊥
unfolding is_reading
no_answer now was_there (Replied zxid result) e = no_code now was_there result e
no_answer now was_there _ e = let f = ap is_reading e in cc

-- nor once the session has entered another state
pub not_entered : (progress : Progress) → entered progress ≡ Reading → ⊥
unfolding is_reading
not_entered Due e = let f = ap is_reading e in cc
not_entered Reading e = let f = ap is_reading e in cc
not_entered (Refused (Code code) until) e = let f = ap is_reading e in cc
not_entered (Refused TooManyWatches until) e = let f = ap is_reading e in cc
not_entered (Refused TooLarge until) e = let f = ap is_reading e in cc
not_entered (Refused SessionClosed until) e = let f = ap is_reading e in cc

module _ {A : Type 0} (now : ℕ) where
  heard_reading : (subject : Subject A) (output : Output)
      → (heard now subject output).progress ≡ Reading → (ends_wait subject.ticket output ≡ false) × (subject.progress ≡ Reading)
  heard_reading subject (Answer ticket outcome) e = by (subject.ticket == ticket) refl e
    where
      by : (b : Bool) → (subject.ticket == ticket) ≡ b → (cond b (answered now outcome subject) subject).progress ≡ Reading
          → ((subject.ticket == ticket) ≡ false) × (subject.progress ≡ Reading)
      by true same e = absurd (no_answer now subject.is_there outcome e)
      by false other e = (other, e)
  heard_reading subject (Report at side event) e = by (bytes_eq at subject.path) e
    where
      by : (b : Bool) → (cond b (record subject { is_there = false }) subject).progress ≡ Reading
          → (false ≡ false) × (subject.progress ≡ Reading)
      by true same = (refl, same)
      by false same = (refl, same)
  heard_reading subject (Enters state) e = absurd (not_entered subject.progress e)
  heard_reading subject _ e = (refl, e)

  same_ticket : (subject : Subject A) (output : Output) → (heard now subject output).ticket ≡ subject.ticket
  same_ticket subject (Answer ticket outcome) = by (subject.ticket == ticket)
    where
      by : (b : Bool) → (cond b (answered now outcome subject) subject).ticket ≡ subject.ticket
      by true = refl
      by false = refl
  same_ticket subject (Report at side event) = by (bytes_eq at subject.path)
    where
      by : (b : Bool) → (cond b (record subject { is_there = false }) subject).ticket ≡ subject.ticket
      by true = refl
      by false = refl
  same_ticket subject _ = refl

  same_side : (subject : Subject A) (output : Output) → (heard now subject output).side ≡ subject.side
  same_side subject (Answer ticket outcome) = by (subject.ticket == ticket)
    where
      by : (b : Bool) → (cond b (answered now outcome subject) subject).side ≡ subject.side
      by true = refl
      by false = refl
  same_side subject (Report at side event) = by (bytes_eq at subject.path)
    where
      by : (b : Bool) → (cond b (record subject { is_there = false }) subject).side ≡ subject.side
      by true = refl
      by false = refl
  same_side subject _ = refl

  same_path : (subject : Subject A) (output : Output) → (heard now subject output).path ≡ subject.path
  same_path subject (Answer ticket outcome) = by (subject.ticket == ticket)
    where
      by : (b : Bool) → (cond b (answered now outcome subject) subject).path ≡ subject.path
      by true = refl
      by false = refl
  same_path subject (Report at side event) = by (bytes_eq at subject.path)
    where
      by : (b : Bool) → (cond b (record subject { is_there = false }) subject).path ≡ subject.path
      by true = refl
      by false = refl
  same_path subject _ = refl

  pub all_same_ticket : (outputs : List Output) (subject : Subject A) → (heard_all now subject outputs).ticket ≡ subject.ticket
  all_same_ticket [] subject = refl
  all_same_ticket (output ∷ outputs) subject = all_same_ticket outputs (heard now subject output) ∙ same_ticket subject output

  pub all_same_side : (outputs : List Output) (subject : Subject A) → (heard_all now subject outputs).side ≡ subject.side
  all_same_side [] subject = refl
  all_same_side (output ∷ outputs) subject = all_same_side outputs (heard now subject output) ∙ same_side subject output

  pub all_same_path : (outputs : List Output) (subject : Subject A) → (heard_all now subject outputs).path ≡ subject.path
  all_same_path [] subject = refl
  all_same_path (output ∷ outputs) subject = all_same_path outputs (heard now subject output) ∙ same_path subject output

  pub all_reading : (outputs : List Output) (subject : Subject A) → (heard_all now subject outputs).progress ≡ Reading
      → Silent subject.ticket outputs × (subject.progress ≡ Reading)
  all_reading [] subject e = (tt, e)
  all_reading (output ∷ outputs) subject e =
      let rest = all_reading outputs (heard now subject output) e in
      let first = heard_reading subject output rest.1 in
      ((first.0, subst (λ ticket. Silent ticket outputs) (same_ticket subject output) rest.0), first.1)

  pub all_heard : (first second : List Output) (subject : Subject A)
      → heard_all now subject (first ++ second) ≡ heard_all now (heard_all now subject first) second
  all_heard [] second subject = refl
  all_heard (output ∷ first) second subject = all_heard first second (heard now subject output)

  -- A subject that counts as one that is being read is, after each turn.
  pub counted_on : (view : View) (turn : Turn) (after : View) → Rule view turn after → (subject : Subject A) → IsCounted view subject
      → IsCounted after (heard_all now subject turn.outputs)
  counted_on view turn after rule subject counted goes_on reads =
      let was = all_reading turn.outputs subject reads in
      let read = is_there subject.ticket subject.side subject.path view.pending (counted rule.goes_on was.1) in
      let waits = keeps_turn subject.ticket (read_of subject.side read.0 subject.path) view turn after rule was.0 read.1 in
      let now_read : IsBeingRead after subject.ticket subject.side subject.path =
      is_found subject.ticket subject.side subject.path read.0 after.pending waits in
      subst (λ path. IsBeingRead after (heard_all now subject turn.outputs).ticket (heard_all now subject turn.outputs).side path)
      (sym (all_same_path turn.outputs subject))
      (subst (λ side. IsBeingRead after (heard_all now subject turn.outputs).ticket side subject.path)
      (sym (all_same_side turn.outputs subject))
      (subst (λ ticket. IsBeingRead after ticket subject.side subject.path) (sym (all_same_ticket turn.outputs subject)) now_read))

  -- The same of two turns in one call.
  pub counted_at : (moment : ℕ) (view : View) (turn : Turn) (after : View) → RuleAt moment view turn after → (subject : Subject A)
      → IsCounted view subject
      → IsCounted after (heard_all now subject turn.outputs)
  counted_at moment view turn after rule subject counted =
      let first = counted_on view _ rule.between rule.tells subject counted in
      let second = counted_on rule.between _ after rule.takes (heard_all now subject rule.first) first in
      subst (λ outputs. IsCounted after (heard_all now subject outputs)) (sym rule.outputs)
      (subst (IsCounted after) (sym (all_heard rule.first rule.second subject)) second)
