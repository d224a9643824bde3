-- A call that waits for its reply goes on waiting, until it is answered or the state is another one: happening by happening, as a reply
-- takes only what waits first.
use Rattle.std.proofs.Common.{◌≡◌, ℕ, ℤ, pos, negsuc, Bool, true, false, cond, ◌&&◌, List, [], ◌∷◌, ◌++◌, map, drop, Option, Some, None, Ok}
use Rattle.std.proofs.Common.{Err, refl, sym, ap, subst, ◌∙◌, eq-eqb, append_assoc}
use Rattle.std.specs.Prelude.{◌==◌, int_lt, max, Result as Reading}
use Rattle.std.specs.List.{flat_map}
use Rattle.std.specs.Ordering.{int_eq}
use Rattle.zk_conversation.specs.Pending.{Pending, Waiting, Part_waits, Call_waits, call_waits}
use Rattle.zk_conversation.specs.Calls.{Call as Asked_call}
use Rattle.zk_conversation.specs.Questions.{Question, Close}
use Rattle.zk_conversation.specs.Results.{response_timeout, response_session, response_password}
use Rattle.zk_conversation.specs.Arriving.{Arrived, Connected as Welcomed, Replied, Watches_set as Part_set, Notice, Pong as Ponged}
use Rattle.zk_conversation.specs.Arriving.{Skipped as Passed, arriving}
use Rattle.zk_conversation.specs.declared.fault.TalkFault.{TalkFault}
use Rattle.zk_conversation.specs.declared.phase.Phase.{Phase}
use Rattle.zk_session.specs.declared.states.State.{State}
use Rattle.zk_session.specs.declared.states.State.TheVariants.{Idle, Connecting, Connected}
use Rattle.zk_turns.specs.Turns.{Outcome, Behind, WatchesRefused, Signal, Opens, Comes, Cuts, Ticks, Calls, Forget, Halt, Input, Opened}
use Rattle.zk_turns.specs.Turns.{Bytes, Cut, Now, Call, Output, Answer, Enters, Turn, signals_of}
use Rattle.zk_turns.specs.Past.{Happening, Began, Came, Took, Dropped, Forgot, Lost, Asked, Ticked, Halted, Accepted, Expiry, Replies}
use Rattle.zk_turns.specs.Past.{Watches_set}
use Rattle.zk_turns.specs.View.{View}
use Rattle.zk_turns.specs.Taken.{longest_of, phase_of, taken_of, welcome_by, reading, leaves_watch, refusal, caused, happenings, opens}
use Rattle.zk_turns.specs.Taken.{of_cutting, cut}
use Rattle.zk_turns.specs.Taken.{Cutting, Unfinished, Bad, Payload, comes}
use Rattle.zk_turns.specs.Rule.{next, says, loss, losses, after_all, says_all, after_signals, says_signals, Rule}
use Rattle.zk_turns.proofs.Arriving.{First, IsOf, AreOf, of_arriving}
use Rattle.zk_turns.proofs.Cases.{by_cond, by_open, by_due}
use Rattle.zk_turns.proofs.Words.{happening_of, calls}

-- ---- outputs that leave a call waiting

-- whether an output ends the wait of the calls with this ticket
abbrev pub ends_wait : ℕ → Output → Bool
ends_wait ticket (Answer other outcome) = ticket == other
ends_wait ticket (Enters state) = true
ends_wait ticket _ = false

abbrev pub Silent : ℕ → List Output → Type 0
Silent ticket [] = Unit {0}
Silent ticket (output ∷ outputs) = (ends_wait ticket output ≡ false) × Silent ticket outputs

silent_first : (ticket : ℕ) (xs ys : List Output) → Silent ticket (xs ++ ys) → Silent ticket xs
silent_first ticket [] ys s = tt
silent_first ticket (x ∷ xs) ys s = (s.0, silent_first ticket xs ys s.1)

silent_rest : (ticket : ℕ) (xs ys : List Output) → Silent ticket (xs ++ ys) → Silent ticket ys
silent_rest ticket [] ys s = s
silent_rest ticket (x ∷ xs) ys s = silent_rest ticket xs ys s.1

-- ---- what waits

abbrev pub Waits : ℕ → Question → List Pending → Type 0
Waits ticket question pending =
    (xid : ℤ) × (before : List Pending) × (after : List Pending)
    × (pending ≡ before ++ record { xid = xid; waiting = Call_waits ticket question } ∷ after)

pub waits_with_more : (ticket : ℕ) (question : Question) (pending more : List Pending)
    → Waits ticket question pending → Waits ticket question (pending ++ more)
waits_with_more ticket question pending more w = (
  w.0,
  w.1,
  w.2 ++ more,
  ap (λ ps. ps ++ more) w.3
      ∙ append_assoc w.1 (record { xid = w.0; waiting = Call_waits ticket question } ∷ w.2) more,
)

first_waiting : Waiting → List Pending → Waiting
first_waiting none [] = none
first_waiting none (pending ∷ more) = pending.waiting

waits_behind : (ticket : ℕ) (question : Question) (first : Waiting) (pending : List Pending)
    → First first pending → (Call_waits ticket question ≡ first → ⊥)
    → Waits ticket question pending → Waits ticket question (drop 1 pending)
unfolding first_waiting
waits_behind ticket question first pending f other w = by w.1 w.3
  where
    by : (before : List Pending)
        → pending ≡ before ++ record { xid = w.0; waiting = Call_waits ticket question } ∷ w.2 → Waits ticket question (drop 1 pending)
    by [] e = absurd (other (ap (first_waiting first) (sym e ∙ f.2)))
    by (b ∷ before) e = (w.0, before, w.2, ap (drop 1) e)

ticket_in : ℕ → Waiting → ℕ
ticket_in none (Part_waits last) = none
ticket_in none (Call_waits ticket question) = ticket

other_call : (ticket other : ℕ) (question its : Question)
    → (ticket == other) ≡ false → Call_waits ticket question ≡ Call_waits other its → ⊥
unfolding ticket_in
other_call ticket other question its e same = let t : (ticket == other) ≡ true = eq-eqb ticket other (ap (ticket_in ticket) same) in cc

is_part : Waiting → Bool
is_part (Part_waits last) = true
is_part (Call_waits ticket question) = false

other_part : (ticket : ℕ) (question : Question) (last : Bool) → Call_waits ticket question ≡ Part_waits last → ⊥
unfolding is_part
other_part ticket question last same = let e : false ≡ true = ap is_part same in cc

-- ---- happenings

-- a reply that is taken is the reply to what waits first, and the client forgets nothing and does not halt
abbrev pub FitsReply : Happening → View → Type 0
FitsReply (Took (Replies ticket question zxid result)) view = First (Call_waits ticket question) view.pending
FitsReply (Took (Watches_set last zxid)) view = First (Part_waits last) view.pending
FitsReply Forgot view = ⊥
FitsReply Halted view = ⊥
FitsReply _ view = Unit {0}

module _ (ticket : ℕ) (question : Question) where
  no_losses : (view : View) → Silent ticket (losses view) → ⊥
  no_losses view s = let e : true ≡ false = (silent_rest ticket (flat_map loss view.pending) (Enters Idle ∷ []) s).0 in cc

  keeps : (happening : Happening) (view : View) → FitsReply happening view → Silent ticket (says view happening)
      → Waits ticket question view.pending
      → Waits ticket question (next view happening).pending
  keeps Began view f s w = absurd (let e : true ≡ false = s.1.0 in cc)
  keeps (Dropped fault) view f s w = absurd (no_losses view s.1)
  keeps Lost view f s w = absurd (no_losses view s)
  keeps (Asked other call) view f s w = waits_with_more ticket question view.pending (call_waits view.xid other call ∷ []) w
  keeps (Took (Accepted welcome)) view f s w = absurd (let e : true ≡ false = s.0 in cc)
  keeps (Took Expiry) view f s w = absurd (let e : true ≡ false = s.0 in cc)
  keeps (Took (Replies other Close zxid result)) view f s w = absurd (let e : true ≡ false = s.1.0 in cc)
  keeps (Took (Replies other its zxid result)) view f s w =
      waits_behind ticket question (Call_waits other its) view.pending f (other_call ticket other question its s.0) w
  keeps (Took (Watches_set true zxid)) view f s w =
      waits_behind ticket question (Part_waits true) view.pending f (other_part ticket question true) w
  keeps (Took (Watches_set false zxid)) view f s w =
      waits_behind ticket question (Part_waits false) view.pending f (other_part ticket question false) w
  keeps Halted view f s w = absurd f
  keeps _ view f s w = w

-- a client that has not halted goes on
goes_on : (happening : Happening) (view : View) → FitsReply happening view → (next view happening).standing.halted ≡ view.standing.halted
goes_on (Took (Replies other Close zxid result)) view f = refl
goes_on (Took (Replies other its zxid result)) view f = refl
goes_on (Took (Watches_set true zxid)) view f = refl
goes_on (Took (Watches_set false zxid)) view f = refl
goes_on Halted view f = absurd f
goes_on _ view f = refl

-- ---- what is read fits

welcome_fits : (timeout session : ℤ) (password : List ℕ) (view : View) → FitsReply (Took (welcome_by timeout session password)) view
welcome_fits (pos n) session password view = by (n == 0)
  where
    by : (b : Bool) → FitsReply (Took (cond b Expiry (Accepted (record { timeout = n; session = session; password = password })))) view
    by true = tt
    by false = tt
welcome_fits (negsuc n) session password view = tt

taken_fits : (phase : Phase) (last : ℤ) (arrived : Arrived) (view : View)
    → IsOf phase view.pending arrived → FitsReply (taken_of last arrived) view
taken_fits phase last (Welcomed response) view f =
    welcome_fits (response_timeout response) (response_session response) (response_password response) view
taken_fits phase last (Replied ticket question zxid result) view f =
    by_cond (λ h. FitsReply h view) (leaves_watch question result && int_lt zxid last) (Dropped (Behind last zxid))
    (Took (Replies ticket question zxid result)) tt f
taken_fits phase last (Part_set final zxid err) view f =
    by_cond (λ h. FitsReply h view) (int_eq err (pos 0)) (Took (Watches_set final zxid)) (Dropped (WatchesRefused err)) f tt
taken_fits phase last (Notice event path) view f = tt
taken_fits phase last Ponged view f = tt
taken_fits phase last Passed view f = tt

result_fits : (phase : Phase) (last : ℤ) (r : Reading Arrived TalkFault) (view : View)
    → AreOf phase view.pending r → FitsReply (happening_of last r) view
result_fits phase last (Ok arrived) view f = taken_fits phase last arrived view f
result_fits phase last (Err fault) view f = tt

reading_fits : (state : State) (last : ℤ) (payload : List ℕ) (view : View) → FitsReply (reading state view.pending last payload) view
reading_fits state last payload view =
    result_fits (phase_of state) last (arriving (phase_of state) view.pending payload) view
    (of_arriving (phase_of state) view.pending payload)

abbrev pub AllFit : View → List Happening → Type 0
AllFit view [] = Unit {0}
AllFit view (happening ∷ more) = FitsReply happening view × AllFit (next view happening) more

cutting_fits : (view : View) (cutting : Cutting) (byte : ℕ) → AllFit (next view (Came byte)) (of_cutting view cutting)
cutting_fits view Unfinished byte = tt
cutting_fits view (Bad fault) byte = (tt, tt)
cutting_fits view (Payload payload) byte = (reading_fits view.standing.state view.saved.last payload (next view (Came byte)), tt)

call_fits : (view : View) (ticket : ℕ) (call : Asked_call) (why : Option Outcome) → AllFit view (calls ticket call why)
call_fits view ticket call None = (tt, tt)
call_fits view ticket call (Some why) = (tt, tt)

opens_fit : (view : View) (state : State) → AllFit view (opens state)
opens_fit view Idle = (tt, tt)
opens_fit view Connecting = (tt, (tt, tt))
opens_fit view Connected = (tt, (tt, tt))
opens_fit view _ = tt

-- what an input is: neither forgetting nor a halt
abbrev pub IsGiven : Signal → Type 0
IsGiven Forget = ⊥
IsGiven Halt = ⊥
IsGiven _ = Unit {0}

caused_fit : (view : View) (signal : Signal) → IsGiven signal → AllFit view (caused view signal)
caused_fit view Opens given = opens_fit view view.standing.state
caused_fit view (Comes byte) given =
    by_open (AllFit view) view.standing.state (comes view byte) tt
    (tt, cutting_fits view (cut (longest_of view) (view.held ++ byte ∷ [])) byte)
caused_fit view Cuts given = by_open (AllFit view) view.standing.state (Lost ∷ []) tt (tt, tt)
caused_fit view (Ticks moment) given = (
  tt,
  by_open (AllFit (next view (Ticked moment))) view.standing.state _ tt
      (by_due (AllFit (next view (Ticked moment))) view (max moment view.moments.now) (tt, tt) (tt, tt) tt),
)
caused_fit view (Calls ticket call) given = call_fits view ticket call (refusal view call)
caused_fit view Forget given = absurd given
caused_fit view Halt given = absurd given

pub all_fit : (view : View) (signal : Signal) → IsGiven signal → AllFit view (happenings view signal)
all_fit view Forget given = absurd given
all_fit view Halt given = absurd given
all_fit view Opens given = by_cond (AllFit view) view.standing.halted [] (caused view Opens) tt (caused_fit view Opens given)
all_fit view (Comes byte) given =
    by_cond (AllFit view) view.standing.halted [] (caused view (Comes byte)) tt (caused_fit view (Comes byte) given)
all_fit view Cuts given = by_cond (AllFit view) view.standing.halted [] (caused view Cuts) tt (caused_fit view Cuts given)
all_fit view (Ticks moment) given =
    by_cond (AllFit view) view.standing.halted [] (caused view (Ticks moment)) tt (caused_fit view (Ticks moment) given)
all_fit view (Calls ticket call) given =
    by_cond (AllFit view) view.standing.halted [] (caused view (Calls ticket call)) tt (caused_fit view (Calls ticket call) given)

abbrev pub AllGiven : List Signal → Type 0
AllGiven [] = Unit {0}
AllGiven (signal ∷ more) = IsGiven signal × AllGiven more

bytes_given : (bytes : List ℕ) → AllGiven (map Comes bytes)
bytes_given [] = tt
bytes_given (byte ∷ bytes) = (tt, bytes_given bytes)

pub all_given : (input : Input) → AllGiven (signals_of input)
all_given Opened = (tt, tt)
all_given (Bytes bytes) = bytes_given bytes
all_given Cut = (tt, tt)
all_given (Now moment) = (tt, tt)
all_given (Call ticket call) = (tt, tt)

-- ---- turns

module _ (ticket : ℕ) (question : Question) where
  keeps_all : (more : List Happening) (view : View) → AllFit view more → Silent ticket (says_all view more)
      → Waits ticket question view.pending
      → Waits ticket question (after_all view more).pending
  keeps_all [] view f s w = w
  keeps_all (happening ∷ more) view f s w =
      keeps_all more (next view happening) f.1 (silent_rest ticket (says view happening) (says_all (next view happening) more) s)
      (keeps ticket question happening view f.0 (silent_first ticket (says view happening) (says_all (next view happening) more) s) w)

  keeps_signals : (signals : List Signal) (view : View) → AllGiven signals → Silent ticket (says_signals view signals)
      → Waits ticket question view.pending
      → Waits ticket question (after_signals view signals).pending
  keeps_signals [] view given s w = w
  keeps_signals (signal ∷ more) view given s w =
      let now = happenings view signal in
      keeps_signals more (after_all view now) given.1 (silent_rest ticket (says_all view now) (says_signals (after_all view now) more) s)
      (keeps_all now view (all_fit view signal given.0)
      (silent_first ticket (says_all view now) (says_signals (after_all view now) more) s) w)

  -- A call that waits still waits after a turn, unless that answered it or entered another state.
  pub keeps_turn : (view : View) (turn : Turn) (after : View)
      → Rule view turn after → Silent ticket turn.outputs → Waits ticket question view.pending
      → Waits ticket question after.pending
  keeps_turn view turn after rule s w =
      subst (λ (v : View). Waits ticket question v.pending) (sym rule.next)
      (keeps_signals (signals_of turn.input) view (all_given turn.input) (subst (Silent ticket) rule.outputs s) w)

goes_on_all : (more : List Happening) (view : View) → AllFit view more → (after_all view more).standing.halted ≡ view.standing.halted
goes_on_all [] view f = refl
goes_on_all (happening ∷ more) view f = goes_on_all more (next view happening) f.1 ∙ goes_on happening view f.0

goes_on_signals : (signals : List Signal) (view : View)
    → AllGiven signals → (after_signals view signals).standing.halted ≡ view.standing.halted
goes_on_signals [] view given = refl
goes_on_signals (signal ∷ more) view given =
    goes_on_signals more (after_all view (happenings view signal)) given.1
    ∙ goes_on_all (happenings view signal) view (all_fit view signal given.0)

-- After a turn a client has not halted.
pub still_going : (view : View) (turn : Turn) (after : View) → Rule view turn after → after.standing.halted ≡ false
still_going view turn after rule =
    ap (λ v. v.standing.halted) rule.next ∙ goes_on_signals (signals_of turn.input) view (all_given turn.input) ∙ rule.goes_on
