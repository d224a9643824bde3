-- What befalls the servers keeps a client served, with what is under way in the driver: act by act, each some entries of the schedule, or
-- none. Where the client or its driver has no connection, only the history goes on.
use Rattle.std.proofs.Common.{◌≡◌, ◌≢◌, ◌<◌, ◌≤◌, ◌+◌, ◌^◌, ◌++◌, ◌∙◌, ◌⊎◌, inl, inr, ℕ, ℤ, Bool, true, false, List, [], ◌∷◌, length, take}
use Rattle.std.proofs.Common.{drop, ap, append-nil, append_assoc, refl, sym, subst, arith}
use Rattle.std.specs.List.{FoldsTo}
use Rattle.zk_frames.specs.Frame.{frame}
use Rattle.zk_turns.specs.View.{View}
use Rattle.zk_laws.specs.Messages.{Request}
use Rattle.theory_serving.specs.GoingOn.{GoesOn}
use Rattle.theory_serving.specs.Steps.{sent_by, Step}
use Rattle.theory_serving.specs.Shown.{more_requests, GoesBy, Open, Phase, Processes, Shown, Takes as TakesMore}
use Rattle.theory_serving.specs.Wires.{is_up, IsFor, StandsFirst, WasServed}
use Rattle.theory_serving.proofs.Fronts.{front_field, front_payload, front_there}
use Rattle.theory_serving.proofs.Views.{answers_session, rests_session, takes_session}
use Rattle.theory_drivers.specs.Acts.{given_in, taken_in, Act, EndsHere, Gives, Happens, ProcessesNext, Serves, Takes, TakesNext}
use Rattle.theory_drivers.proofs.Turned.{more_twice, through, Kept}

abbrev shown_as : Shown → (requests output : List ℕ) → Shown
shown_as shown requests output =
    record { history = shown.history; server = shown.server; phase = shown.phase; requests = requests; output = output }

-- the stream takes the first bytes that are unsent
take_kept : (view : View) (bytes more held : List ℕ) (old : Shown) → Kept view true (bytes ++ more) held old
    → Kept view true more held (record old { requests = more_requests old.phase old.requests bytes })
take_kept view bytes more held old k = record {
  met = k.met;
  was = k.was;
  history = k.history;
  here = λ up there. k.here up there
      ∙ ap (λ requests. shown_as old requests (held ++ old.output)) (sym (more_twice old.phase old.requests bytes more));
  gone = λ up there. cc;
}

-- it gives the first bytes that were sent
give_kept : (view : View) (unsent held bytes rest : List ℕ) (old : Shown)
    → old.output ≡ bytes ++ rest → Kept view true unsent held old → Kept view true unsent (held ++ bytes) (record old { output = rest })
give_kept view unsent held bytes rest old is k = record {
  met = k.met;
  was = k.was;
  history = k.history;
  here = λ up there. k.here up there ∙ ap (shown_as old (more_requests old.phase old.requests unsent))
      (ap (λ output. held ++ output) is ∙ sym (append_assoc held bytes rest));
  gone = λ up there. cc;
}

-- ---- the servers go on

goes_through : (xid : ℤ) (asked : List Request) (steps : List Step) (unsent held : List ℕ) (old new : Shown)
    → GoesBy xid asked steps old new → GoesBy xid asked steps (through old unsent held) (through new unsent held)
goes_through xid asked steps unsent held old new goes = record {
  history = goes.history;
  moves = goes.moves;
  sent = ap (λ output. held ++ output) goes.sent ∙ sym (append_assoc held old.output (sent_by steps));
  there = goes.there;
  ended = goes.ended;
}

open_more : (phase : Phase) (requests unsent : List ℕ) → phase ≡ Open → more_requests phase requests unsent ≡ requests ++ unsent
open_more phase requests unsent up = ap (λ p. more_requests p requests unsent) up

takes_through : (steps : List Step) (unsent held : List ℕ) (old new : Shown)
    → old.phase ≡ Open → TakesMore steps old new → TakesMore steps (through old unsent held) (through new unsent held)
takes_through steps unsent held old new up takes = record {
  goes = goes_through _ _ steps unsent held old new takes.goes;
  requests = λ then_up. open_more new.phase new.requests unsent then_up ∙ ap (λ requests. requests ++ unsent) (takes.requests then_up)
      ∙ sym (open_more old.phase old.requests unsent up);
}

processes_through : (request : Request) (xid : ℤ) (payload : List ℕ) (steps : List Step) (unsent held : List ℕ) (old new : Shown)
    → old.phase ≡ Open → Processes request xid payload steps old new
    → Processes request xid payload steps (through old unsent held) (through new unsent held)
processes_through request xid payload steps unsent held old new up processes = record {
  goes = goes_through xid (request ∷ []) steps unsent held old new processes.goes;
  done = processes.done;
  requests = λ then_up.
      open_more old.phase old.requests unsent up ∙ ap (λ requests. requests ++ unsent) (processes.requests then_up)
      ∙ append_assoc (frame payload) new.requests unsent
      ∙ ap (λ requests. frame payload ++ requests) (sym (open_more new.phase new.requests unsent then_up));
}

-- two frames at one beginning are one
one_front : (first second rest other bytes : List ℕ)
    → bytes ≡ frame first ++ rest → bytes ≡ frame second ++ other → length first < 2 ^ 31 → length second < 2 ^ 31 → first ≡ second
one_front first second rest other bytes is also small too =
    let same : length first ≡ length second = sym (front_field first rest bytes is small) ∙ front_field second other bytes also too in
    sym (front_payload first rest bytes is) ∙ ap (λ n. take n (drop 4 bytes)) same ∙ front_payload second other bytes also

module _ (view : View) (unsent held : List ℕ) (old new : Shown) (k : Kept view true unsent held old) where
  by_met : is_up view ≡ true → WasServed view (through old unsent held)
  by_met up = subst (WasServed view) (k.here up refl) k.was

  then_kept : WasServed view (through new unsent held) → Kept view true unsent held new
  then_kept was = record { met = through new unsent held; was = was; history = refl; here = λ up there. refl; gone = λ up there. cc }

  -- of a client that has no connection the history alone goes on
  none_there : is_up view ≡ false → GoesOn old.history new.history → Kept view true unsent held new
  none_there down goes_on = record {
    met = record k.met { history = new.history };
    was = rests_session view k.met k.was (record k.met { history = new.history })
        (subst (λ h. GoesOn h new.history) (sym k.history) goes_on) (λ up. let e : true ≡ false = sym up ∙ down in cc);
    history = refl;
    here = λ up there. let e : true ≡ false = sym up ∙ down in cc;
    gone = λ up there. cc;
  }

  processes_kept : is_up view ≡ true → ProcessesNext old new → Kept view true unsent held new
  processes_kept up p =
      then_kept (answers_session view (through old unsent held) (by_met up) p.history (through new unsent held) up p.up some does)
    where
      whole : more_requests old.phase old.requests unsent ≡ frame p.payload ++ (p.rest ++ unsent)
      whole = open_more old.phase old.requests unsent p.up ∙ ap (λ requests. requests ++ unsent) p.whole
          ∙ append_assoc (frame p.payload) p.rest unsent

      some : more_requests old.phase old.requests unsent ≢ []
      some none =
          let long : 4 + length p.payload ≤ length (more_requests old.phase old.requests unsent) =
          front_there p.payload (p.rest ++ unsent) (more_requests old.phase old.requests unsent) whole in
          let empty : length (more_requests old.phase old.requests unsent) ≡ 0 = ap length none in
          absurd (omega (arith, long, empty))

      does : (request : Request) (xid : ℤ) (payload rest : List ℕ)
          → StandsFirst request xid payload rest (more_requests old.phase old.requests unsent) → IsFor request old.server.stage
          → (steps : List Step) × Processes request xid payload steps (through old unsent held) (through new unsent held)
      does request xid payload rest stands is =
          let same : p.payload ≡ payload = one_front p.payload payload (p.rest ++ unsent) rest
          (more_requests old.phase old.requests unsent) whole stands.whole p.small stands.small in
          let done = p.does request xid payload p.rest (record {
            whole = p.whole ∙ ap (λ one. frame one ++ p.rest) same;
            small = stands.small;
            read = stands.read;
            fit = stands.fit;
          }) is in
          (done.0, processes_through request xid payload done.0 unsent held old new p.up done.1)

  pub serves_kept : Happens old Serves new → Kept view true unsent held new
  serves_kept happens = by (is_up view) refl happens
    where
      by : (b : Bool) → is_up view ≡ b → TakesNext old new ⊎ (ProcessesNext old new ⊎ EndsHere old new) → Kept view true unsent held new
      by true up (inl takes) = then_kept (takes_session view (through old unsent held) (by_met up) takes.1.0
          (through new unsent held) up takes.0 (takes_through takes.1.0 unsent held old new takes.0 takes.1.1))
      by true up (inr (inl processes)) = processes_kept up processes
      by true up (inr (inr ends)) =
          then_kept (rests_session view (through old unsent held) (by_met up) (through new unsent held) ends.goes_on
          (λ is. (ends.over, ap (λ output. held ++ output) ends.output)))
      by false down (inl takes) = none_there down takes.1.1.goes.history
      by false down (inr (inl processes)) = none_there down processes.goes_on
      by false down (inr (inr ends)) = none_there down ends.goes_on

-- ---- acts, one after the other

pub acts_keep : (view : View) (acts : List Act) (unsent rest held : List ℕ) (old new : Shown)
    → FoldsTo Happens old acts new → unsent ≡ taken_in acts ++ rest → Kept view true unsent held old
    → Kept view true rest (held ++ given_in acts) new
acts_keep view [] unsent rest held old new same is k =
    subst (λ s. Kept view true rest (held ++ []) s) same
    (subst (λ h. Kept view true rest h old) (sym (append-nil held)) (subst (λ u. Kept view true u held old) is k))
acts_keep view (Takes bytes ∷ acts) unsent rest held old new happens is k =
    let taken = take_kept view bytes (taken_in acts ++ rest) held old
    (subst (λ u. Kept view true u held old) (is ∙ append_assoc bytes (taken_in acts) rest) k) in
    acts_keep view acts (taken_in acts ++ rest) rest held happens.0 new happens.2 refl
    (subst (λ s. Kept view true (taken_in acts ++ rest) held s) (sym happens.1) taken)
acts_keep view (Gives bytes ∷ acts) unsent rest held old new happens is k =
    let gave = give_kept view unsent held bytes happens.0.output old happens.1.0 k in
    subst (λ h. Kept view true rest h new) (append_assoc held bytes (given_in acts))
    (acts_keep view acts unsent rest (held ++ bytes) happens.0 new happens.2 is
    (subst (λ s. Kept view true unsent (held ++ bytes) s) (sym happens.1.1) gave))
acts_keep view (Serves ∷ acts) unsent rest held old new happens is k =
    acts_keep view acts unsent rest held happens.0 new happens.2 is (serves_kept view unsent held old happens.0 k happens.1)

-- without a connection the history goes on
pub apart_kept : (view : View) (unsent then_unsent held : List ℕ) (old new : Shown)
    → GoesOn old.history new.history → Kept view false unsent held old → Kept view false then_unsent held new
apart_kept view unsent then_unsent held old new goes_on k = record {
  met = record k.met { history = new.history };
  was = rests_session view k.met k.was (record k.met { history = new.history }) (subst (λ h. GoesOn h new.history) (sym k.history) goes_on)
      (λ up. ((k.gone up refl).0, refl));
  history = refl;
  here = λ up there. cc;
  gone = λ up there. k.gone up refl;
}
