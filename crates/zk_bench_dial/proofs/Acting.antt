-- Acts of a bench, one after the other: what it does is put together, and so are the bytes that the stream takes and gives. And what a
-- bench does by one call of it: nothing, the end of the connection, bytes in, bytes out, a request.
use Rattle.std.proofs.Common.{◌≡◌, ◌++◌, ◌∙◌, ℕ, Bool, true, false, List, [], ◌∷◌, inl, inr, ap, append-nil, refl, sym, subst}
use Rattle.std.proofs.Common.{append_assoc, take}
use Rattle.std.specs.List.{FoldsTo}
use Rattle.zk_bench.specs.Served.{ended, is_open, without_output, Served}
use Rattle.theory_drivers.specs.Acts.{given_in, taken_in, Act, Gives, Serves, Takes}
use Rattle.zk_bench_dial.specs.BenchActs.{Answers, BenchDoes, GoesBy, ProcessesNext}

-- ---- one after the other

module _ (Does : Served → Act → Served → Type 0) where
  pub acts_on : (acts more : List Act) (old between new : Served) → FoldsTo Does old acts between → FoldsTo Does between more new
      → FoldsTo Does old (acts ++ more) new
  acts_on [] more old between new same rest = subst (λ (s : Served). FoldsTo Does s more new) (sym same) rest
  acts_on (act ∷ acts) more old between new does rest = (does.0, does.1, acts_on acts more does.0 between new does.2 rest)

pub taken_on : (acts more : List Act) → taken_in (acts ++ more) ≡ taken_in acts ++ taken_in more
taken_on [] more = refl
taken_on (Takes bytes ∷ acts) more =
    ap (λ l. bytes ++ l) (taken_on acts more) ∙ sym (append_assoc bytes (taken_in acts) (taken_in more))
taken_on (Gives bytes ∷ acts) more = taken_on acts more
taken_on (Serves ∷ acts) more = taken_on acts more

pub given_on : (acts more : List Act) → given_in (acts ++ more) ≡ given_in acts ++ given_in more
given_on [] more = refl
given_on (Takes bytes ∷ acts) more = given_on acts more
given_on (Gives bytes ∷ acts) more =
    ap (λ l. bytes ++ l) (given_on acts more) ∙ sym (append_assoc bytes (given_in acts) (given_in more))
given_on (Serves ∷ acts) more = given_on acts more

module _ (Does : Served → Act → Served → Type 0) where
  pub goes_after : (took gave more other : List ℕ) (old between new : Served)
      → GoesBy Does old took gave between → GoesBy Does between more other new → GoesBy Does old (took ++ more) (gave ++ other) new
  goes_after took gave more other old between new first rest = record {
    acts = first.acts ++ rest.acts;
    does = acts_on Does first.acts rest.acts old between new first.does rest.does;
    taken = taken_on first.acts rest.acts ∙ ap (λ l. l ++ taken_in rest.acts) first.taken ∙ ap (λ l. took ++ l) rest.taken;
    given = given_on first.acts rest.acts ∙ ap (λ l. l ++ given_in rest.acts) first.given ∙ ap (λ l. gave ++ l) rest.given;
    history = rest.history ∙ first.history;
  }

  pub goes_still : (before : Served) → GoesBy Does before [] [] before
  goes_still before = record { acts = []; does = refl; taken = refl; given = refl; history = refl }

-- what a bench answers it does
acts_do : (acts : List Act) (old new : Served) → FoldsTo Answers old acts new → FoldsTo BenchDoes old acts new
acts_do [] old new same = same
acts_do (Takes bytes ∷ acts) old new does = (does.0, does.1, acts_do acts does.0 new does.2)
acts_do (Gives bytes ∷ acts) old new does = (does.0, does.1, acts_do acts does.0 new does.2)
acts_do (Serves ∷ acts) old new does = (does.0, inr does.1, acts_do acts does.0 new does.2)

pub goes_too : (took gave : List ℕ) (old new : Served) → GoesBy Answers old took gave new → GoesBy BenchDoes old took gave new
goes_too took gave old new goes = record {
  acts = goes.acts;
  does = acts_do goes.acts old new goes.does;
  taken = goes.taken;
  given = goes.given;
  history = goes.history;
}

-- ---- one call

pub goes_first : (before : Served) → GoesBy Answers before [] [] before
goes_first before = goes_still Answers before

-- and then something more, with no bytes
pub goes_on : (old between new : Served) → GoesBy Answers old [] [] between → GoesBy Answers between [] [] new
    → GoesBy Answers old [] [] new
goes_on old between new first rest = goes_after Answers [] [] [] [] old between new first rest

-- it stays as it was
pub goes_nowhere : (old new : Served) → new ≡ old → GoesBy Answers old [] [] new
goes_nowhere old new same = subst (λ (s : Served). GoesBy Answers old [] [] s) (sym same) (goes_first old)

-- it ends the connection
pub goes_over : (old : Served) → GoesBy Answers old [] [] (ended old)
goes_over old = record {
  acts = Serves ∷ [];
  does = (ended old, inr (inl refl), refl);
  taken = refl;
  given = refl;
  history = refl;
}

-- it processes a request
pub goes_next : (old new : Served) → ProcessesNext old new → new.history ≡ old.history → GoesBy Answers old [] [] new
goes_next old new next same = record {
  acts = Serves ∷ [];
  does = (new, inl next, refl);
  taken = refl;
  given = refl;
  history = same;
}

-- bytes come
taken_same : (old : Served) (bytes : List ℕ) (new : Served) (up : Bool) → is_open old.connection.phase ≡ up
    → Answers old (Takes bytes) new → new.history ≡ old.history
taken_same old bytes new true up does = ap (λ (s : Served). s.history) (does.0 up)
taken_same old bytes new false up does = ap (λ (s : Served). s.history) (does.1 up)

pub goes_taking : (old : Served) (bytes : List ℕ) (new : Served) → Answers old (Takes bytes) new → GoesBy Answers old bytes [] new
goes_taking old bytes new does = record {
  acts = Takes bytes ∷ [];
  does = (new, does, refl);
  taken = append-nil bytes;
  given = refl;
  history = taken_same old bytes new (is_open old.connection.phase) refl does;
}

-- the first bytes that it sent go
pub goes_giving : (old : Served) (bytes : List ℕ) (new : Served) (most : ℕ) → bytes ≡ take most old.connection.output
    → new ≡ without_output old most → GoesBy Answers old [] bytes new
goes_giving old bytes new most first rest = record {
  acts = Gives bytes ∷ [];
  does = (new, (most, first, rest), refl);
  taken = refl;
  given = append-nil bytes;
  history = ap (λ (s : Served). s.history) rest;
}
