-- A client between a driver and the servers: what it has sent and the stream has not taken counts as come, and what was read and is not
-- handed to it as still on its way. So each turn keeps it served.
use Rattle.std.proofs.Common.{◌≡◌, ◌≤◌, ◌++◌, ◌∙◌, ℕ, Bool, true, false, cond, List, [], ◌∷◌, Some, map, length, ap, append-nil}
use Rattle.std.proofs.Common.{append_assoc, refl, sym, subst}
use Rattle.std.specs.Prelude.{⊤, ◌&&◌, not, max}
use Rattle.std.specs.List.{AllByRecursion}
use Rattle.zk_nodes.specs.History.{History}
use Rattle.zk_session.specs.declared.states.State.{State}
use Rattle.zk_session.specs.declared.states.State.TheVariants.{Idle, Connecting, Connected, Expired, Closed}
use Rattle.zk_conversation.specs.Calls.{Call}
use Rattle.zk_turns.specs.Turns.{Start, Output, Send, Answer, Report, Enters, Drop, Input, Item, Bytes, Cut, Now, Outcome, SessionExpired}
use Rattle.zk_turns.specs.Turns.{SessionClosed, NotConnected, Call as Calling, Opened as Opening, Signal, Opens, Comes, Cuts, Ticks, Calls}
use Rattle.zk_turns.specs.Turns.{Forget, Halt, signals_of}
use Rattle.zk_turns.specs.View.{View, Standing}
use Rattle.zk_turns.specs.Past.{Past, is_open, Happening, Ticked, Denied}
use Rattle.zk_turns.specs.Taken.{caused, happenings, if_open, past_of, past_after, refusal, comes, due}
use Rattle.zk_turns.specs.Rule.{next, says_all, after_all, says_signals, Rule, Stands}
use Rattle.zk_turns.proofs.Stepped.{one_turn}
use Rattle.zk_turns.proofs.Words.{calls}
use Rattle.zk_laws.specs.Served.{is_going}
use Rattle.theory_serving.specs.GoingOn.{GoesOn}
use Rattle.theory_serving.specs.Shown.{Shown, Phase, Apart, Open, Over, connected, with_output, more_requests, sent_in, EndsNothing, Hears}
use Rattle.theory_serving.specs.Wires.{item_of, is_up, WasServed}
use Rattle.theory_serving.proofs.Turning.{NotOpens, KeepsOn, Begins, signals_on, opens_on, cut_over, comes_all}
use Rattle.theory_serving.proofs.Views.{opened_session, received_session, cut_session, told_session, asked_session, rests_session}

-- ---- what is shown, with what is under way in the driver

-- what is unsent has come already, and what is held is still on its way
abbrev pub through : Shown → (unsent held : List ℕ) → Shown
through shown unsent held = record {
  history = shown.history;
  server = shown.server;
  phase = shown.phase;
  requests = more_requests shown.phase shown.requests unsent;
  output = held ++ shown.output;
}

-- The client was served: by the servers that are shown, while its connection is there; else its server has ended the connection.
pub record Kept (view : View) (is_there : Bool) (unsent held : List ℕ) (shown : Shown) : Type 0 where
  pub met : Shown
  pub was : WasServed view met
  pub history : met.history ≡ shown.history
  pub here : is_up view ≡ true → is_there ≡ true → met ≡ through shown unsent held
  pub gone : is_up view ≡ true → is_there ≡ false → (met.phase ≡ Over) × ((rest : List ℕ) × (met.output ≡ held ++ rest))

-- ---- outputs

pub sent_more : (first second : List Output) → sent_in (first ++ second) ≡ sent_in first ++ sent_in second
sent_more [] second = refl
sent_more (Send bytes ∷ first) second =
    ap (λ t. bytes ++ t) (sent_more first second) ∙ sym (append_assoc bytes (sent_in first) (sent_in second))
sent_more (Answer ticket outcome ∷ first) second = sent_more first second
sent_more (Report path side event ∷ first) second = sent_more first second
sent_more (Enters state ∷ first) second = sent_more first second
sent_more (Drop fault ∷ first) second = sent_more first second

pub ends_more : (first second : List Output) → EndsNothing first → EndsNothing second → EndsNothing (first ++ second)
ends_more [] second a b = b
ends_more (output ∷ first) second a b = (a.0, ends_more first second a.1 b)

pub more_twice : (phase : Phase) (bytes first second : List ℕ)
    → more_requests phase (more_requests phase bytes first) second ≡ more_requests phase bytes (first ++ second)
more_twice Apart bytes first second = refl
more_twice Open bytes first second = append_assoc bytes first second
more_twice Over bytes first second = refl

-- what a server has heard then, whatever the outputs end
abbrev pub heard_by : List Output → Shown → Shown
heard_by outputs shown = record shown { requests = more_requests shown.phase shown.requests (sent_in outputs) }

hears_by : (outputs : List Output) (shown : Shown) → Hears outputs shown (heard_by outputs shown)
hears_by outputs shown = record { history = refl; gets = λ ends. refl }

abbrev shown_with : History → Phase → Shown → List ℕ → List ℕ → Shown
shown_with history phase shown requests output =
    record { history = history; server = shown.server; phase = phase; requests = requests; output = output }

through_more : (shown : Shown) (unsent held : List ℕ) (outputs : List Output)
    → heard_by outputs (through shown unsent held) ≡ through shown (unsent ++ sent_in outputs) held
through_more shown unsent held outputs =
    ap (λ requests. shown_with shown.history shown.phase shown requests (held ++ shown.output))
    (more_twice shown.phase shown.requests unsent (sent_in outputs))

-- ---- a client that has a connection after a turn

-- a turn with which none begins
abbrev pub IsWithin : Input → Type 0
IsWithin Opening = ⊥
IsWithin input = ⊤

opens_none : (input : Input) → IsWithin input → AllByRecursion NotOpens (signals_of input)
opens_none Opening within = absurd within
opens_none (Bytes bytes) within = comes_all bytes
opens_none Cut within = (tt, tt)
opens_none (Now moment) within = (tt, tt)
opens_none (Calling ticket asked) within = (tt, tt)

going_up : (start : Start) (items : List Item) (view : View) → Stands start items view → is_going (past_of start items) ≡ is_up view
going_up start items view stands = ap (λ (t : Standing). is_open t.state && not t.halted) (sym stands.standing)

-- had one before it, and nothing was ended
pub record StaysUp (view : View) (outputs : List Output) : Type 0 where
  pub up : is_up view ≡ true
  pub ends : EndsNothing outputs

module _ (view after : View) (met : Shown) (was : WasServed view met) (input : Input) (outputs : List Output)
    (rule : Rule view (record { input = input; outputs = outputs }) after) where
  then_stands : Stands was.start (item_of input outputs ∷ was.items) after
  then_stands = one_turn was.start was.items view after (record { input = input; outputs = outputs }) was.stands rule

  pub stays_up : IsWithin input → is_up after ≡ true → StaysUp view outputs
  stays_up within up =
      let past : Past = past_of was.start was.items in
      let on : KeepsOn was.start past (past_after was.start past (signals_of input)) outputs =
      subst (λ t. KeepsOn was.start past (past_after was.start past (signals_of input)) t) (sym then_stands.said.0)
      (signals_on was.start (signals_of input) past (opens_none input within)) in
      let adds = on (going_up was.start (item_of input outputs ∷ was.items) after then_stands ∙ up) in
      record { up = sym (going_up was.start was.items view was.stands) ∙ adds.going; ends = adds.nothing }

pub cut_down : (view after : View) (met : Shown) (was : WasServed view met) (outputs : List Output)
    → Rule view (record { input = Cut; outputs = outputs }) after → is_up after ≡ true → ⊥
cut_down view after met was outputs rule up =
    cut_over was.start (past_of was.start was.items)
    (going_up was.start (item_of Cut outputs ∷ was.items) after (then_stands view after met was Cut outputs rule) ∙ up)

pub opened_ends : (view after : View) (met : Shown) (was : WasServed view met) (outputs : List Output)
    → Rule view (record { input = Opening; outputs = outputs }) after → is_up after ≡ true
    → EndsNothing outputs
opened_ends view after met was outputs rule up =
    let past : Past = past_of was.start was.items in
    let stands = then_stands view after met was Opening outputs rule in
    (subst (λ t. Begins was.start (past_after was.start past (Opens ∷ [])) t) (sym stands.said.0)
    (opens_on was.start past (going_up was.start (item_of Opening outputs ∷ was.items) after stands ∙ up))).nothing

-- ---- one turn

-- what it is for one that has no connection
pub kept_down : (view : View) (was_there is_there : Bool) (unsent held then_unsent then_held : List ℕ) (old new : Shown)
    → Kept view was_there unsent held old → is_up view ≡ false → new.history ≡ old.history
    → Kept view is_there then_unsent then_held new
kept_down view was_there is_there unsent held then_unsent then_held old new k down same = record {
  met = k.met;
  was = k.was;
  history = k.history ∙ sym same;
  here = λ up there. let e : true ≡ false = sym up ∙ down in cc;
  gone = λ up there. let e : true ≡ false = sym up ∙ down in cc;
}

pub goes_nowhere : (h : History) → GoesOn h h
goes_nowhere h = record { first = refl; more = []; transactions = sym (append-nil h.transactions) }

-- its connection is over, and what was read may still be handed to it
pub let_go : (view : View) (is_there : Bool) (unsent held then_unsent : List ℕ) (shown new : Shown)
    → Kept view is_there unsent held shown → new.history ≡ shown.history → Kept view false then_unsent held new
let_go view is_there unsent held then_unsent shown new k same = record {
  met = record k.met { phase = Over };
  was = rests_session view k.met k.was (record k.met { phase = Over }) (goes_nowhere k.met.history) (λ up. (refl, refl));
  history = k.history ∙ sym same;
  here = λ up there. cc;
  gone = λ up there. (refl, left is_there refl up);
}
  where
    left : (b : Bool) → is_there ≡ b → is_up view ≡ true → (rest : List ℕ) × (k.met.output ≡ held ++ rest)
    left true e up = (shown.output, ap (λ (s : Shown). s.output) (k.here up e))
    left false e up = (k.gone up e).1

module _ (view after : View) (is_there : Bool) (unsent held : List ℕ) (shown : Shown) (k : Kept view is_there unsent held shown) where
  -- a turn that hears no bytes
  goes_kept : (input : Input) (outputs : List Output)
      → Rule view (record { input = input; outputs = outputs }) after → IsWithin input → WasServed after (heard_by outputs k.met)
      → Kept after is_there (unsent ++ sent_in outputs) held shown
  goes_kept input outputs rule within was = record {
    met = heard_by outputs k.met;
    was = was;
    history = k.history;
    here = λ up there. ap (heard_by outputs) (k.here (stays_up view after k.met k.was input outputs rule within up).up there)
        ∙ through_more shown unsent held outputs;
    gone = λ up there. k.gone (stays_up view after k.met k.was input outputs rule within up).up there;
  }

  pub now_kept : (moment : ℕ) (outputs : List Output)
      → Rule view (record { input = Now moment; outputs = outputs }) after → Kept after is_there (unsent ++ sent_in outputs) held shown
  now_kept moment outputs rule =
      goes_kept (Now moment) outputs rule tt
      (told_session view k.met k.was moment outputs after (heard_by outputs k.met) rule (hears_by outputs k.met))

  pub call_kept : (ticket : ℕ) (call : Call) (outputs : List Output)
      → Rule view (record { input = Calling ticket call; outputs = outputs }) after
      → Kept after is_there (unsent ++ sent_in outputs) held shown
  call_kept ticket call outputs rule =
      goes_kept (Calling ticket call) outputs rule tt
      (asked_session view k.met k.was ticket call outputs after (heard_by outputs k.met) rule (hears_by outputs k.met))

  pub cut_kept : (outputs : List Output) (then_unsent then_held : List ℕ)
      → Rule view (record { input = Cut; outputs = outputs }) after → Kept after is_there then_unsent then_held shown
  cut_kept outputs then_unsent then_held rule = record {
    met = k.met;
    was = cut_session view k.met k.was outputs after k.met rule refl;
    history = k.history;
    here = λ up there. absurd (cut_down view after k.met k.was outputs rule up);
    gone = λ up there. absurd (cut_down view after k.met k.was outputs rule up);
  }

  -- all that is held is handed over
  pub bytes_kept : (outputs : List Output)
      → Rule view (record { input = Bytes held; outputs = outputs }) after → Kept after is_there (unsent ++ sent_in outputs) [] shown
  bytes_kept outputs rule = by (is_up view) refl is_there refl
    where
      stays : is_up after ≡ true → is_up view ≡ true
      stays up = (stays_up view after k.met k.was (Bytes held) outputs rule tt up).up

      by : (up : Bool) → is_up view ≡ up → (there : Bool) → is_there ≡ there → Kept after is_there (unsent ++ sent_in outputs) [] shown
      by true up true there =
          let e = k.here up there in
          record {
            met = heard_by outputs (with_output shown.output k.met);
            was = received_session view k.met k.was held shown.output outputs after (heard_by outputs (with_output shown.output k.met)) rule
                (ap (λ (s : Shown). s.output) e) (hears_by outputs (with_output shown.output k.met));
            history = k.history;
            here = λ then_up is. ap (λ (s : Shown). heard_by outputs (with_output shown.output s)) e ∙ through_more shown unsent [] outputs;
            gone = λ then_up is. let f : true ≡ false = sym there ∙ is in cc;
          }
      by true up false there =
          let gone = k.gone up there in
          record {
            met = heard_by outputs (with_output gone.1.0 k.met);
            was = received_session view k.met k.was held gone.1.0 outputs after
                (heard_by outputs (with_output gone.1.0 k.met)) rule gone.1.1 (hears_by outputs (with_output gone.1.0 k.met));
            history = k.history;
            here = λ then_up is. let f : true ≡ false = sym is ∙ there in cc;
            gone = λ then_up is. (gone.0, (gone.1.0, refl));
          }
      by false down there is =
          let bare : Shown = record k.met { output = held } in
          record {
            met = heard_by outputs (with_output [] bare);
            was = received_session view bare (rests_session view k.met k.was bare (goes_nowhere k.met.history)
                (λ up. let f : true ≡ false = sym up ∙ down in cc)) held [] outputs after
                (heard_by outputs (with_output [] bare)) rule (sym (append-nil held)) (hears_by outputs (with_output [] bare));
            history = k.history;
            here = λ then_up has. let f : true ≡ false = sym (stays then_up) ∙ down in cc;
            gone = λ then_up has. let f : true ≡ false = sym (stays then_up) ∙ down in cc;
          }

  -- a connection begins, to a server at a place
  pub opened_kept : (place : ℕ) (before : Shown) (outputs : List Output)
      → shown ≡ connected place before → place ≤ length before.history.transactions
      → Rule view (record { input = Opening; outputs = outputs }) after → Kept after true (sent_in outputs) [] shown
  opened_kept place before outputs is low rule =
      let same : k.met.history ≡ before.history = k.history ∙ ap (λ (s : Shown). s.history) is in
      subst (λ s. Kept after true (sent_in outputs) [] s) (sym is) (record {
        met = heard_by outputs (connected place k.met);
        was = opened_session view k.met k.was place outputs after (heard_by outputs (connected place k.met)) rule
            (subst (λ (h : History). place ≤ length h.transactions) (sym same) low) (hears_by outputs (connected place k.met));
        history = same;
        here = λ up there. ap (λ h. shown_with h Open (connected place k.met) (sent_in outputs) []) same;
        gone = λ up there. cc;
      })

-- ---- a client that has none

-- what happens to it: a moment, and calls that are refused
abbrev IsIdle : Happening → Type 0
IsIdle (Ticked moment) = ⊤
IsIdle (Denied ticket why) = ⊤
IsIdle happening = ⊥

-- Nothing is sent then, and nothing is over.
pub record IsSilent (outputs : List Output) : Type 0 where
  pub sends : sent_in outputs ≡ []
  pub ends : EndsNothing outputs

silent_more : (first second : List Output) → IsSilent first → IsSilent second → IsSilent (first ++ second)
silent_more first second a b = record {
  sends = sent_more first second ∙ ap (λ t. t ++ sent_in second) a.sends ∙ b.sends;
  ends = ends_more first second a.ends b.ends;
}

none_open : (state : State) (more : List Happening) → is_open state ≡ false → if_open state more ≡ []
none_open Idle more shut = refl
none_open Connecting more shut = let e : true ≡ false = shut in cc
none_open Connected more shut = let e : true ≡ false = shut in cc
none_open Expired more shut = refl
none_open Closed more shut = refl

idle_call : (ticket : ℕ) (call : Call) (view : View) (state : State)
    → view.standing.state ≡ state → is_open state ≡ false → AllByRecursion IsIdle (calls ticket call (refusal view call))
idle_call ticket call view state e shut = by state e shut
  where
    denied : (why : Outcome) → refusal view call ≡ Some why → AllByRecursion IsIdle (calls ticket call (refusal view call))
    denied why is = subst (λ o. AllByRecursion IsIdle (calls ticket call o)) (sym is) (tt, tt)

    by : (state : State) → view.standing.state ≡ state → is_open state ≡ false
        → AllByRecursion IsIdle (calls ticket call (refusal view call))
    by Idle is shut = denied NotConnected
        (subst (λ s. refusal (record view { standing = record view.standing { state = s } }) call ≡ Some NotConnected) (sym is) refl)
    by Connecting is shut = let e : true ≡ false = shut in cc
    by Connected is shut = let e : true ≡ false = shut in cc
    by Expired is shut = denied SessionExpired
        (subst (λ s. refusal (record view { standing = record view.standing { state = s } }) call ≡ Some SessionExpired) (sym is) refl)
    by Closed is shut = denied SessionClosed
        (subst (λ s. refusal (record view { standing = record view.standing { state = s } }) call ≡ Some SessionClosed) (sym is) refl)

-- a signal that an input makes, and with which no connection begins
abbrev IsInner : Signal → Type 0
IsInner Opens = ⊥
IsInner Forget = ⊥
IsInner Halt = ⊥
IsInner signal = ⊤

idle_caused : (view : View) (signal : Signal)
    → IsInner signal → is_open view.standing.state ≡ false → AllByRecursion IsIdle (caused view signal)
idle_caused view Opens inner shut = absurd inner
idle_caused view (Comes byte) inner shut = subst (AllByRecursion IsIdle) (sym (none_open view.standing.state (comes view byte) shut)) tt
idle_caused view Cuts inner shut = subst (AllByRecursion IsIdle) (sym (none_open view.standing.state _ shut)) tt
idle_caused view (Ticks moment) inner shut =
    (tt, subst (AllByRecursion IsIdle) (sym (none_open view.standing.state (due view (max moment view.moments.now)) shut)) tt)
idle_caused view (Calls ticket call) inner shut = idle_call ticket call view view.standing.state refl shut
idle_caused view Forget inner shut = absurd inner
idle_caused view Halt inner shut = absurd inner

idle_happenings : (view : View) (signal : Signal)
    → IsInner signal → is_open view.standing.state ≡ false → AllByRecursion IsIdle (happenings view signal)
idle_happenings view Opens inner shut = absurd inner
idle_happenings view Forget inner shut = absurd inner
idle_happenings view Halt inner shut = absurd inner
idle_happenings view (Comes byte) inner shut = by view.standing.halted
  where
    by : (b : Bool) → AllByRecursion IsIdle (cond b [] (caused view (Comes byte)))
    by true = tt
    by false = idle_caused view (Comes byte) inner shut
idle_happenings view Cuts inner shut = by view.standing.halted
  where
    by : (b : Bool) → AllByRecursion IsIdle (cond b [] (caused view Cuts))
    by true = tt
    by false = idle_caused view Cuts inner shut
idle_happenings view (Ticks moment) inner shut = by view.standing.halted
  where
    by : (b : Bool) → AllByRecursion IsIdle (cond b [] (caused view (Ticks moment)))
    by true = tt
    by false = idle_caused view (Ticks moment) inner shut
idle_happenings view (Calls ticket call) inner shut = by view.standing.halted
  where
    by : (b : Bool) → AllByRecursion IsIdle (cond b [] (caused view (Calls ticket call)))
    by true = tt
    by false = idle_caused view (Calls ticket call) inner shut

idle_all : (happened : List Happening) (view : View)
    → AllByRecursion IsIdle happened → IsSilent (says_all view happened) × ((after_all view happened).standing ≡ view.standing)
idle_all [] view idle = (record { sends = refl; ends = tt }, refl)
idle_all (Ticked moment ∷ more) view idle = let rest = idle_all more (next view (Ticked moment)) idle.1 in (rest.0, rest.1)
idle_all (Denied ticket why ∷ more) view idle = let rest = idle_all more view idle.1 in
    (record { sends = rest.0.sends; ends = (refl, rest.0.ends) }, rest.1)
idle_all (_ ∷ more) view idle = absurd idle.0

idle_signals : (signals : List Signal) (view : View)
    → AllByRecursion IsInner signals → is_open view.standing.state ≡ false → IsSilent (says_signals view signals)
idle_signals [] view inner shut = record { sends = refl; ends = tt }
idle_signals (signal ∷ more) view inner shut =
    let first = idle_all (happenings view signal) view (idle_happenings view signal inner.0 shut) in
    let then_view : View = after_all view (happenings view signal) in
    silent_more (says_all view (happenings view signal)) (says_signals then_view more) first.0
    (idle_signals more then_view inner.1 (ap (λ (t : Standing). is_open t.state) first.1 ∙ shut))

inner_bytes : (bytes : List ℕ) → AllByRecursion IsInner (map Comes bytes)
inner_bytes [] = tt
inner_bytes (byte ∷ bytes) = (tt, inner_bytes bytes)

inner_all : (input : Input) → IsWithin input → AllByRecursion IsInner (signals_of input)
inner_all Opening within = absurd within
inner_all (Bytes bytes) within = inner_bytes bytes
inner_all Cut within = (tt, tt)
inner_all (Now moment) within = (tt, tt)
inner_all (Calling ticket asked) within = (tt, tt)

down_shut : (state : State) (halted : Bool) → halted ≡ false → (is_open state && not halted) ≡ false → is_open state ≡ false
down_shut Connecting true goes down = cc
down_shut Connected true goes down = cc
down_shut state false goes down = by (is_open state) down
  where
    by : (b : Bool) → (b && true) ≡ false → b ≡ false
    by true e = e
    by false e = refl
down_shut state true goes down = cc

pub down_silent : (view after : View) (input : Input) (outputs : List Output)
    → Rule view (record { input = input; outputs = outputs }) after → IsWithin input → is_up view ≡ false → IsSilent outputs
down_silent view after input outputs rule within down =
    subst IsSilent (sym rule.outputs) (idle_signals (signals_of input) view (inner_all input within)
    (down_shut view.standing.state view.standing.halted rule.goes_on down))

pub stays_down : (view after : View) (met : Shown) → WasServed view met → (input : Input) (outputs : List Output)
    → Rule view (record { input = input; outputs = outputs }) after → IsWithin input
    → is_up view ≡ false → is_up after ≡ false
stays_down view after met was input outputs rule within down = by (is_up after) refl
  where
    by : (b : Bool) → is_up after ≡ b → b ≡ false
    by true up = let e : true ≡ false = sym (stays_up view after met was input outputs rule within up).up ∙ down in cc
    by false is = refl
