-- Each call is answered once, or waits: each happening keeps the balance of calls, answers and what waits, so items do. At last what ends a
-- connection answers all that waits.
use Rattle.zk_watches.specs.Lists.{fires, Lists}
use Rattle.zk_conversation.specs.Pending.{call_waits, Pending, Waiting, Part_waits, Call_waits, is_close}
use Rattle.zk_conversation.specs.Results.{response_timeout, response_session, response_password}
use Rattle.zk_turns.proofs.Arriving.{First, IsQuiet, IsOf, AreOf, of_arriving}
use Rattle.zk_turns.specs.Past.{pending_for, parts_asked, Past, Happening, Began, Came, Took, Dropped, Lost, Asked, Denied, Pinged, Ticked}
use Rattle.zk_turns.specs.Past.{Forgot, Halted, Accepted, Expiry, Replies, Watches_set, Notifies, Pong, Skipped, is_talking, state_of}
use Rattle.zk_turns.specs.Past.{questions, answered, pending_of, held_of, has_halted}
use Rattle.zk_conversation.specs.declared.phase.Phase.{Phase}
use Rattle.zk_conversation.specs.Calls.{Call as Asked_call}
use Rattle.zk_nodes.specs.Path.{Text}
use Rattle.zk_turns.specs.Taken.{longest, longest_of, phase_of, taken_of, welcome_by, reading, leaves_watch, refusal, caused, happenings}
use Rattle.zk_turns.specs.Taken.{opens, of_cutting, cut}
use Rattle.zk_turns.specs.Taken.{Cutting, Unfinished, Bad, Payload, due, timeout_of, joined, past_after, past_of, comes, if_open}
use Rattle.zk_conversation.specs.Arriving.{Arrived, Connected as Welcomed, Replied, Watches_set as Part_set, Notice, Pong as Ponged}
use Rattle.zk_conversation.specs.Arriving.{Skipped as Passed, arriving}
use Rattle.zk_conversation.specs.declared.fault.TalkFault.{TalkFault}
use Rattle.std.proofs.Common.{◌≡◌, ℕ, zero, ◌+◌, ◌≤◌, ℤ, pos, negsuc, Bool, true, false, cond, ◌&&◌, ◌||◌, List, [], ◌∷◌, ◌++◌, map, drop}
use Rattle.std.proofs.Common.{Option, Some, None, Ok, Err, refl, sym, ap, subst, ◌∙◌, arith}
use Rattle.std.specs.Prelude.{if◌then◌else◌, int_lt, nat_le, max, ◌==◌, ◌*◌, ◌-◌, Result as Reading}
use Rattle.std.specs.List.{list_any, flat_map}
use Rattle.std.specs.Ordering.{int_eq}
use Rattle.zk_nodes.specs.declared.side.Side.{Side}
use Rattle.zk_nodes.specs.declared.side.Side.TheVariants.{Data, Child}
use Rattle.zk_turns.specs.Turns.{Start, Outcome, Behind, WatchesRefused, Signal, Opens, Comes, Cuts, Ticks, Calls, Forget, Halt, Input}
use Rattle.zk_turns.specs.Turns.{Opened, Bytes, Cut, Now, Call, Output, Report, Enters, Item, Turned, Forgets, Halts, signals_of}
use Rattle.zk_conversation.specs.Questions.{Question, Close}
use Rattle.zk_session.specs.declared.states.State.{State}
use Rattle.zk_session.specs.declared.states.State.TheVariants.{Idle, Connecting, Connected}
use Rattle.zk_records.specs.declared.event.Event.{Event}
use Rattle.zk_watches.specs.Parts.{parts}
use Rattle.zk_turns.specs.View.{View, view_at}
use Rattle.zk_turns.specs.Rule.{next, says, part_frame, loss, losses, report, due_happenings, due_signals, AllSaid, Stands}
use Rattle.zk_turns.proofs.Cases.{by_cond, by_open, by_due}
use Rattle.zk_turns.proofs.Happened.{MayHappen, one_happening}
use Rattle.zk_turns.proofs.Stepped.{AllMay, Counted, all_may, counted_signal, counted}
use Rattle.zk_turns.specs.Tickets.{answers_in, calls_in, waiting_with}
use Rattle.zk_turns.proofs.Counting.{one_if, answers_with, answers_over, is_call_with, calls_over, waits_with, waiting_over, answers_are}
use Rattle.zk_turns.proofs.Counting.{calls_are, waiting_are}
use Rattle.zk_turns.proofs.Words.{closing, happening_of, refusal_in, calls}

answers-append : (t : ℕ) (xs ys : List Output) → answers_with t (xs ++ ys) ≡ answers_with t xs + answers_with t ys
answers-append t [] ys = omega arith
answers-append t (x ∷ xs) ys = let h = answers-append t xs ys in omega arith

waiting-append : (t : ℕ) (xs ys : List Pending) → waiting_over t (xs ++ ys) ≡ waiting_over t xs + waiting_over t ys
waiting-append t [] ys = omega arith
waiting-append t (x ∷ xs) ys = let h = waiting-append t xs ys in omega arith

answers_parts : (t : ℕ) (relative : ℤ) (ps : List Lists) → answers_with t (map (part_frame relative) ps) ≡ 0
answers_parts t relative [] = refl
answers_parts t relative (p ∷ ps) = let h = answers_parts t relative ps in omega arith

waiting_parts : (t : ℕ) (ps : List Lists) → waiting_over t (map pending_for (parts_asked ps)) ≡ 0
waiting_parts t [] = refl
waiting_parts t (p ∷ []) = refl
waiting_parts t (p ∷ q ∷ ps) = let h = waiting_parts t (q ∷ ps) in omega arith

answers_loss : (t : ℕ) (p : Pending) → answers_with t (loss p) ≡ waits_with t p.waiting
answers_loss t p = by p.waiting
  where
    by : (w : Waiting) → answers_with t (loss (record { xid = p.xid; waiting = w })) ≡ waits_with t w
    by (Part_waits last) = refl
    by (Call_waits other question) = omega arith

answers_losses : (t : ℕ) (ps : List Pending) → answers_with t (flat_map loss ps) ≡ waiting_over t ps
answers_losses t [] = refl
answers_losses t (p ∷ ps) = let h = answers_losses t ps in let l = answers_loss t p in
    let a = answers-append t (loss p) (flat_map loss ps) in omega arith

answers_all_losses : (t : ℕ) (view : View) → answers_with t (losses view) ≡ waiting_over t view.pending
answers_all_losses t view = let h = answers_losses t view.pending in
    let a = answers-append t (flat_map loss view.pending) (Enters Idle ∷ []) in omega arith

answers_report : (t : ℕ) (view : View) (event : Event) (path : Text) (side : Side) → answers_with t (report view event path side) ≡ 0
answers_report t view event path side = by (fires view.lists event side path)
  where
    by : (b : Bool) → answers_with t (cond b (Report path side event ∷ []) []) ≡ 0
    by true = refl
    by false = refl

answers_closing : (t : ℕ) (question : Question) → answers_with t (closing question) ≡ 0
answers_closing t Close = refl
answers_closing t _ = refl

-- ---- what waits when something happens

-- nothing waits after a close
abbrev ClosesLast : List Pending → Type 0
ClosesLast [] = Unit {0}
ClosesLast (p ∷ []) = Unit {0}
ClosesLast (p ∷ q ∷ ps) = (is_close p ≡ false) × ClosesLast (q ∷ ps)

abbrev Fits : Happening → View → Type 0
Fits (Took (Replies ticket question zxid result)) view = First (Call_waits ticket question) view.pending
Fits (Took (Watches_set last zxid)) view = First (Part_waits last) view.pending
Fits (Took (Accepted welcome)) view = view.pending ≡ []
Fits (Took Expiry) view = view.pending ≡ []
Fits Began view = view.pending ≡ []
Fits (Asked ticket question) view = list_any is_close view.pending ≡ false
Fits _ view = Unit {0}

closes_tail : (p : Pending) (ps : List Pending) → ClosesLast (p ∷ ps) → ClosesLast ps
closes_tail p [] c = tt
closes_tail p (q ∷ ps) c = c.1

closes_push : (ps : List Pending) (x : Pending) → list_any is_close ps ≡ false → ClosesLast (ps ++ x ∷ [])
closes_push [] x e = tt
closes_push (p ∷ []) x e = (by (is_close p) e, tt)
  where
    by : (b : Bool) → (b || false) ≡ false → b ≡ false
    by true e = e
    by false e = e
closes_push (p ∷ q ∷ ps) x e =
    (first (is_close p) (list_any is_close (q ∷ ps)) e, closes_push (q ∷ ps) x (rest (is_close p) (list_any is_close (q ∷ ps)) e))
  where
    first : (a b : Bool) → (a || b) ≡ false → a ≡ false
    first true b e = e
    first false b e = refl

    rest : (a b : Bool) → (a || b) ≡ false → b ≡ false
    rest true b e = absurd cc
    rest false b e = e

closes_parts : (ps : List Lists) → ClosesLast (map pending_for (parts_asked ps))
closes_parts [] = tt
closes_parts (p ∷ []) = tt
closes_parts (p ∷ q ∷ []) = (refl, tt)
closes_parts (p ∷ q ∷ r ∷ ps) = (refl, closes_parts (q ∷ r ∷ ps))

none_behind : (ticket : ℕ) (xid : ℤ) (ps : List Pending)
    → ClosesLast (record { xid = xid; waiting = Call_waits ticket Close } ∷ ps) → ps ≡ []
none_behind ticket xid [] c = refl
none_behind ticket xid (p ∷ ps) c = absurd (let e = c.0 in cc)

closes_step : (happening : Happening) (view : View)
    → Fits happening view → ClosesLast view.pending → ClosesLast (next view happening).pending
closes_step Began view f c = tt
closes_step (Dropped fault) view f c = tt
closes_step Lost view f c = tt
closes_step (Asked ticket question) view f c = closes_push view.pending (call_waits view.xid ticket question) f
closes_step (Took (Accepted welcome)) view f c = closes_parts (parts view.lists)
closes_step (Took Expiry) view f c = tt
closes_step (Took (Replies ticket Close zxid result)) view f c = tt
closes_step (Took (Replies ticket question zxid result)) view f c =
    subst (λ ps. ClosesLast (drop 1 ps)) (sym f.2)
    (closes_tail (record { xid = f.0; waiting = Call_waits ticket question }) f.1 (subst ClosesLast f.2 c))
closes_step (Took (Watches_set true zxid)) view f c =
    subst (λ ps. ClosesLast (drop 1 ps)) (sym f.2)
    (closes_tail (record { xid = f.0; waiting = Part_waits true }) f.1 (subst ClosesLast f.2 c))
closes_step (Took (Watches_set false zxid)) view f c =
    subst (λ ps. ClosesLast (drop 1 ps)) (sym f.2)
    (closes_tail (record { xid = f.0; waiting = Part_waits false }) f.1 (subst ClosesLast f.2 c))
closes_step _ view f c = c

-- ---- the balance

called_with : ℕ → Happening → ℕ
called_with t (Asked other question) = one_if t other
called_with t (Denied other why) = one_if t other
called_with t _ = 0

abbrev Balanced : ℕ → Happening → View → Type 0
Balanced t happening view = answers_with t (says view happening) + waiting_over t (next view happening).pending
    ≡ waiting_over t view.pending + called_with t happening

balance : (t : ℕ) (happening : Happening) (view : View) → Fits happening view → ClosesLast view.pending → Balanced t happening view
unfolding called_with
balance t Began view f c = let e : waiting_over t view.pending ≡ 0 = ap (waiting_over t) f in omega arith
balance t (Came byte) view f c = omega arith
balance t (Dropped fault) view f c = let h = answers_all_losses t view in omega arith
balance t Lost view f c = let h = answers_all_losses t view in omega arith
balance t (Asked ticket question) view f c = let h = waiting-append t view.pending (call_waits view.xid ticket question ∷ []) in omega arith
balance t (Denied ticket why) view f c = omega arith
balance t Pinged view f c = omega arith
balance t (Ticked moment) view f c = omega arith
balance t Forgot view f c = omega arith
balance t Halted view f c = omega arith
balance t (Took (Accepted welcome)) view f c =
    let e : waiting_over t view.pending ≡ 0 = ap (waiting_over t) f in
    let h = answers_parts t view.saved.last (parts view.lists) in
    let w = waiting_parts t (parts view.lists) in omega arith
balance t (Took Expiry) view f c = let e : waiting_over t view.pending ≡ 0 = ap (waiting_over t) f in omega arith
balance t (Took (Replies ticket Close zxid result)) view f c =
    let e : waiting_over t view.pending ≡ waiting_over t (record { xid = f.0; waiting = Call_waits ticket Close } ∷ f.1) =
    ap (waiting_over t) f.2 in
    let n : waiting_over t f.1 ≡ 0 = ap (waiting_over t) (none_behind ticket f.0 f.1 (subst ClosesLast f.2 c)) in omega arith
balance t (Took (Replies ticket question zxid result)) view f c =
    let e : waiting_over t view.pending ≡ waiting_over t (record { xid = f.0; waiting = Call_waits ticket question } ∷ f.1) =
    ap (waiting_over t) f.2 in
    let d : waiting_over t (drop 1 view.pending) ≡ waiting_over t f.1 = ap (λ ps. waiting_over t (drop 1 ps)) f.2 in
    let h = answers_closing t question in omega arith
balance t (Took (Watches_set true zxid)) view f c =
    let e : waiting_over t view.pending ≡ waiting_over t (record { xid = f.0; waiting = Part_waits true } ∷ f.1) =
    ap (waiting_over t) f.2 in
    let d : waiting_over t (drop 1 view.pending) ≡ waiting_over t f.1 = ap (λ ps. waiting_over t (drop 1 ps)) f.2 in omega arith
balance t (Took (Watches_set false zxid)) view f c =
    let e : waiting_over t view.pending ≡ waiting_over t (record { xid = f.0; waiting = Part_waits false } ∷ f.1) =
    ap (waiting_over t) f.2 in
    let d : waiting_over t (drop 1 view.pending) ≡ waiting_over t f.1 = ap (λ ps. waiting_over t (drop 1 ps)) f.2 in omega arith
balance t (Took (Notifies event path)) view f c =
    let a = answers_report t view event path Data in
    let b = answers_report t view event path Child in
    let h = answers-append t (report view event path Data) (report view event path Child) in omega arith
balance t (Took Pong) view f c = omega arith
balance t (Took Skipped) view f c = omega arith

-- ---- what is read fits what waits

welcome_fits : (timeout session : ℤ) (password : List ℕ) (view : View)
    → view.pending ≡ [] → Fits (Took (welcome_by timeout session password)) view
welcome_fits (pos n) session password view e = by (n == 0)
  where
    by : (b : Bool) → Fits (Took (cond b Expiry (Accepted (record { timeout = n; session = session; password = password })))) view
    by true = e
    by false = e
welcome_fits (negsuc n) session password view e = e

taken_fits : (phase : Phase) (last : ℤ) (arrived : Arrived) (view : View)
    → IsOf phase view.pending arrived → (IsQuiet phase → view.pending ≡ []) → Fits (taken_of last arrived) view
taken_fits phase last (Welcomed response) view f none =
    welcome_fits (response_timeout response) (response_session response) (response_password response) view (none f)
taken_fits phase last (Replied ticket question zxid result) view f none =
    by_cond (λ h. Fits h view) (leaves_watch question result && int_lt zxid last) (Dropped (Behind last zxid))
    (Took (Replies ticket question zxid result)) tt f
taken_fits phase last (Part_set final zxid err) view f none =
    by_cond (λ h. Fits h view) (int_eq err (pos 0)) (Took (Watches_set final zxid)) (Dropped (WatchesRefused err)) f tt
taken_fits phase last (Notice event path) view f none = tt
taken_fits phase last Ponged view f none = tt
taken_fits phase last Passed view f none = tt

result_fits : (phase : Phase) (last : ℤ) (r : Reading Arrived TalkFault) (view : View)
    → AreOf phase view.pending r → (IsQuiet phase → view.pending ≡ []) → Fits (happening_of last r) view
result_fits phase last (Ok arrived) view f none = taken_fits phase last arrived view f none
result_fits phase last (Err fault) view f none = tt

quiet_state : (state : State) → IsQuiet (phase_of state) → is_talking state ≡ false
quiet_state Connected q = absurd q
quiet_state _ q = refl

reading_fits : (state : State) (last : ℤ) (payload : List ℕ) (view : View) → (is_talking state ≡ false → view.pending ≡ [])
    → Fits (reading state view.pending last payload) view
reading_fits state last payload view none =
    result_fits (phase_of state) last (arriving (phase_of state) view.pending payload) view
    (of_arriving (phase_of state) view.pending payload) (λ q. none (quiet_state state q))

nobody_waits : (past : Past) → is_talking (state_of past) ≡ false → pending_of past ≡ []
nobody_waits past e = ap (λ b. map pending_for (cond b (drop (answered past) (questions past)) [])) e

module _ (start : Start) where
  abbrev AllFit : List Happening → Past → Type 0
  AllFit [] past = Unit {0}
  AllFit (happening ∷ more) past = Fits happening (view_at start past) × AllFit more (happening ∷ past)

  abbrev FitBehind : Past → List Happening → Type 0
  FitBehind past more = AllFit more past

  cutting_fits : (cutting : Cutting) (byte : ℕ) (past : Past) → AllFit (of_cutting (view_at start past) cutting) (Came byte ∷ past)
  cutting_fits Unfinished byte past = tt
  cutting_fits (Bad fault) byte past = (tt, tt)
  cutting_fits (Payload payload) byte past =
      (reading_fits (state_of past) (view_at start past).saved.last payload (view_at start (Came byte ∷ past)) (nobody_waits past), tt)

  first_none : (b : Bool) (why : Outcome) (rest : Option Outcome) → cond b (Some why) rest ≡ None → b ≡ false
  first_none true why rest e = absurd cc
  first_none false why rest e = refl

  call_fits : (ticket : ℕ) (question : Asked_call) (why : Option Outcome) (past : Past)
      → (why ≡ None → list_any is_close (pending_of past) ≡ false) → AllFit (calls ticket question why) past
  call_fits ticket question None past c = (c refl, tt)
  call_fits ticket question (Some why) past c = (tt, tt)

  no_close : (state : State) (view : View) (question : Asked_call)
      → refusal_in state view question ≡ None → list_any is_close view.pending ≡ false
  no_close Connected view question e = first_none (list_any is_close view.pending) _ _ e
  no_close _ view question e = absurd cc

  opens_fit : (state : State) (past : Past) → state_of past ≡ state → AllFit (opens state) past
  opens_fit Idle past e = (nobody_waits past (ap is_talking e), tt)
  opens_fit Connecting past e = (tt, (refl, tt))
  opens_fit Connected past e = (tt, (refl, tt))
  opens_fit _ past e = tt

  caused_fit : (signal : Signal) (past : Past) → AllFit (caused (view_at start past) signal) past
  caused_fit Opens past = opens_fit (state_of past) past refl
  caused_fit (Comes byte) past = by_open (FitBehind past) (state_of past) (comes (view_at start past) byte) tt
      (tt, cutting_fits (cut (longest start.limits (state_of past)) (held_of past ++ byte ∷ [])) byte past)
  caused_fit Cuts past = by_open (FitBehind past) (state_of past) (Lost ∷ []) tt (tt, tt)
  caused_fit (Ticks moment) past = (
    tt,
    by_open (FitBehind (Ticked moment ∷ past)) (state_of past) _ tt
        (by_due (FitBehind (Ticked moment ∷ past)) (view_at start past) _ (tt, tt) (tt, tt) tt),
  )
  caused_fit (Calls ticket question) past =
      call_fits ticket question (refusal (view_at start past) question) past (no_close (state_of past) (view_at start past) question)
  caused_fit Forget past = (tt, tt)
  caused_fit Halt past = (tt, tt)

  all_fit : (signal : Signal) (past : Past) → AllFit (happenings (view_at start past) signal) past
  all_fit Forget past = (tt, tt)
  all_fit Halt past = (tt, tt)
  all_fit signal past = by_cond (FitBehind past) (has_halted past) [] (caused (view_at start past) signal) tt (caused_fit signal past)

  -- ---- over lists of happenings

  called_all : ℕ → List Happening → ℕ
  called_all t [] = 0
  called_all t (happening ∷ more) = called_with t happening + called_all t more

  closes_next : (happening : Happening) (past : Past) → MayHappen happening past → Fits happening (view_at start past)
      → ClosesLast (pending_of past) → ClosesLast (pending_of (happening ∷ past))
  closes_next happening past may f c =
      subst (λ v. ClosesLast v.pending) (one_happening start happening past may) (closes_step happening (view_at start past) f c)

  closes_all : (more : List Happening) (past : Past) → AllMay more past → AllFit more past → ClosesLast (pending_of past)
      → ClosesLast (pending_of (joined past more))
  closes_all [] past may f c = c
  closes_all (happening ∷ more) past may f c = closes_all more (happening ∷ past) may.1 f.1 (closes_next happening past may.0 f.0 c)

  balance_all : (t : ℕ) (more : List Happening) (past : Past) → AllMay more past → AllFit more past → ClosesLast (pending_of past)
      → answers_with t (due_happenings start past more) + waiting_over t (pending_of (joined past more))
      ≡ waiting_over t (pending_of past) + called_all t more
  unfolding called_all
  balance_all t [] past may f c = omega arith
  balance_all t (happening ∷ more) past may f c =
      let b = balance t happening (view_at start past) f.0 c in
      let n : waiting_over t (next (view_at start past) happening).pending ≡ waiting_over t (pending_of (happening ∷ past)) =
      ap (λ v. waiting_over t v.pending) (one_happening start happening past may.0) in
      let r = balance_all t more (happening ∷ past) may.1 f.1 (closes_next happening past may.0 f.0 c) in
      let a = answers-append t (says (view_at start past) happening) (due_happenings start (happening ∷ past) more) in
      omega arith

-- ---- only a call is a call

zero_either : (b : Bool) → cond {A = ℕ} b 0 0 ≡ zero
zero_either true = refl
zero_either false = refl

taken_calls : (t : ℕ) (last : ℤ) (arrived : Arrived) → called_with t (taken_of last arrived) ≡ 0
unfolding called_with
taken_calls t last (Welcomed response) = refl
taken_calls t last (Replied ticket question zxid result) = by_cond (λ h. called_with t h ≡ 0)
    (leaves_watch question result && int_lt zxid last) (Dropped (Behind last zxid)) (Took (Replies ticket question zxid result)) refl refl
taken_calls t last (Part_set final zxid err) =
    by_cond (λ h. called_with t h ≡ 0) (int_eq err (pos 0)) (Took (Watches_set final zxid)) (Dropped (WatchesRefused err)) refl refl
taken_calls t last (Notice event path) = refl
taken_calls t last Ponged = refl
taken_calls t last Passed = refl

result_calls : (t : ℕ) (last : ℤ) (r : Reading Arrived TalkFault) → called_with t (happening_of last r) ≡ 0
unfolding called_with
result_calls t last (Ok arrived) = taken_calls t last arrived
result_calls t last (Err fault) = refl

reading_calls : (t : ℕ) (state : State) (ps : List Pending) (last : ℤ) (payload : List ℕ)
    → called_with t (reading state ps last payload) ≡ 0
reading_calls t state ps last payload = result_calls t last (arriving (phase_of state) ps payload)

module _ (start : Start) where
  cond_calls : (t : ℕ) (b : Bool) (x y : List Happening)
      → called_all start t x ≡ 0 → called_all start t y ≡ 0 → called_all start t (cond b x y) ≡ 0
  cond_calls t true x y p q = p
  cond_calls t false x y p q = q

  cutting_calls : (t : ℕ) (view : View) (cutting : Cutting) → called_all start t (of_cutting view cutting) ≡ 0
  unfolding called_all called_with
  cutting_calls t view Unfinished = refl
  cutting_calls t view (Bad fault) = refl
  cutting_calls t view (Payload payload) = let h = reading_calls t view.standing.state view.pending view.saved.last payload in omega arith

  open_calls : (t : ℕ) (state : State) (more : List Happening) → called_all start t more ≡ 0 → called_all start t (if_open state more) ≡ 0
  unfolding called_all
  open_calls t Connecting more e = e
  open_calls t Connected more e = e
  open_calls t _ more e = refl

  due_calls : (t : ℕ) (view : View) (now : ℕ) → called_all start t (due view now) ≡ 0
  unfolding called_all called_with
  due_calls t view now = cond_calls t (nat_le (2 * timeout_of view) (3 * (now - view.moments.heard))) _ _ refl (by view.standing.state)
    where
      by : (state : State) → called_all start t
          (if is_talking state && nat_le (timeout_of view) (3 * (now - view.moments.sent)) then Pinged ∷ [] else []) ≡ 0
      by Connected = cond_calls t (nat_le (timeout_of view) (3 * (now - view.moments.sent))) (Pinged ∷ []) [] refl refl
      by _ = refl

  opens_calls : (t : ℕ) (state : State) → called_all start t (opens state) ≡ 0
  unfolding called_all called_with
  opens_calls t Idle = refl
  opens_calls t Connecting = refl
  opens_calls t Connected = refl
  opens_calls t _ = refl

  calls_calls : (t ticket : ℕ) (question : Asked_call) (why : Option Outcome)
      → called_all start t (calls ticket question why) ≡ one_if t ticket
  unfolding called_all called_with
  calls_calls t ticket question None = omega arith
  calls_calls t ticket question (Some why) = omega arith

  signal_calls : ℕ → Signal → ℕ
  signal_calls t (Calls ticket question) = one_if t ticket
  signal_calls t _ = 0

  caused_calls : (t : ℕ) (view : View) (signal : Signal) → called_all start t (caused view signal) ≡ signal_calls t signal
  unfolding called_all called_with signal_calls
  caused_calls t view Opens = opens_calls t view.standing.state
  caused_calls t view (Comes byte) =
      open_calls t view.standing.state (comes view byte)
      (let h = cutting_calls t view (cut (longest_of view) (view.held ++ byte ∷ [])) in omega arith)
  caused_calls t view Cuts = open_calls t view.standing.state (Lost ∷ []) refl
  caused_calls t view (Ticks moment) =
      let h : called_all start t (if_open view.standing.state (due view (max moment view.moments.now))) ≡ 0 =
      open_calls t view.standing.state (due view (max moment view.moments.now))
      (due_calls t view (max moment view.moments.now)) in omega arith
  caused_calls t view (Calls ticket question) = calls_calls t ticket question (refusal view question)
  caused_calls t view Forget = refl
  caused_calls t view Halt = refl

  -- what a signal calls: nothing, where the client has halted
  unless_calls : (t : ℕ) (halted : Bool) (more : List Happening) (n : ℕ)
      → called_all start t more ≡ n → called_all start t (cond halted [] more) ≡ cond halted 0 n
  unfolding called_all
  unless_calls t true more n e = refl
  unless_calls t false more n e = e

  happenings_call : (t : ℕ) (view : View) (signal : Signal)
      → called_all start t (happenings view signal) ≡ cond view.standing.halted 0 (signal_calls t signal)
  unfolding called_all called_with signal_calls
  happenings_call t view Forget = sym (zero_either view.standing.halted)
  happenings_call t view Halt = sym (zero_either view.standing.halted)
  happenings_call t view signal =
      unless_calls t view.standing.halted (caused view signal) (signal_calls t signal) (caused_calls t view signal)

  -- ---- over signals that are no call

  bytes_balance : (t : ℕ) (bytes : List ℕ) (past : Past) → Counted past → ClosesLast (pending_of past)
      → answers_with t (due_signals start past (map Comes bytes)) + waiting_over t (pending_of (past_after start past (map Comes bytes)))
      ≡ waiting_over t (pending_of past)
  unfolding signal_calls
  bytes_balance t [] past c l = omega arith
  bytes_balance t (byte ∷ bytes) past c l =
      let h = balance_all start t (happenings (view_at start past) (Comes byte)) past (all_may start (Comes byte) past c)
      (all_fit start (Comes byte) past) l in
      let n = happenings_call t (view_at start past) (Comes byte) in
      let z = zero_either (has_halted past) in
      let r = bytes_balance t bytes (joined past (happenings (view_at start past) (Comes byte))) (counted_signal start (Comes byte) past c)
      (closes_all start (happenings (view_at start past) (Comes byte)) past (all_may start (Comes byte) past c)
      (all_fit start (Comes byte) past) l) in
      let a = answers-append t (due_happenings start past (happenings (view_at start past) (Comes byte)))
      (due_signals start (past_after start past (Comes byte ∷ [])) (map Comes bytes)) in
      omega arith

  bytes_close : (bytes : List ℕ) (past : Past) → Counted past → ClosesLast (pending_of past)
      → ClosesLast (pending_of (past_after start past (map Comes bytes)))
  bytes_close [] past c l = l
  bytes_close (byte ∷ bytes) past c l =
      bytes_close bytes (joined past (happenings (view_at start past) (Comes byte))) (counted_signal start (Comes byte) past c)
      (closes_all start (happenings (view_at start past) (Comes byte)) past (all_may start (Comes byte) past c)
      (all_fit start (Comes byte) past) l)

  one_balance : (t : ℕ) (signal : Signal) (past : Past) → Counted past → ClosesLast (pending_of past)
      → answers_with t (due_signals start past (signal ∷ [])) + waiting_over t (pending_of (past_after start past (signal ∷ [])))
      ≡ waiting_over t (pending_of past) + cond (has_halted past) 0 (signal_calls t signal)
  one_balance t signal past c l =
      let h =
      balance_all start t (happenings (view_at start past) signal) past (all_may start signal past c) (all_fit start signal past) l in
      let n = happenings_call t (view_at start past) signal in
      let a = answers-append t (due_happenings start past (happenings (view_at start past) signal)) [] in
      omega arith

  one_close : (signal : Signal) (past : Past) → Counted past → ClosesLast (pending_of past)
      → ClosesLast (pending_of (past_after start past (signal ∷ [])))
  one_close signal past c l =
      closes_all start (happenings (view_at start past) signal) past (all_may start signal past c) (all_fit start signal past) l

  -- ---- items

  item_calls : ℕ → Item → ℕ
  item_calls t (Turned turn) = is_call_with t turn.input
  item_calls t _ = 0

  item_answers : ℕ → List Item → Item → ℕ
  item_answers t items (Turned turn) = answers_with t (due_signals start (past_of start items) (signals_of turn.input))
  item_answers t items _ = 0

  input_balance : (t : ℕ) (input : Input) (past : Past) → Counted past → ClosesLast (pending_of past)
      → answers_with t (due_signals start past (signals_of input)) + waiting_over t (pending_of (past_after start past (signals_of input)))
      ≡ waiting_over t (pending_of past) + cond (has_halted past) 0 (is_call_with t input)
  unfolding signal_calls
  input_balance t Opened past c l = one_balance t Opens past c l
  input_balance t (Bytes bytes) past c l = let h = bytes_balance t bytes past c l in let z = zero_either (has_halted past) in omega arith
  input_balance t Cut past c l = one_balance t Cuts past c l
  input_balance t (Now moment) past c l = one_balance t (Ticks moment) past c l
  input_balance t (Call ticket question) past c l = one_balance t (Calls ticket question) past c l

  input_close : (input : Input) (past : Past) → Counted past → ClosesLast (pending_of past)
      → ClosesLast (pending_of (past_after start past (signals_of input)))
  input_close Opened past c l = one_close Opens past c l
  input_close (Bytes bytes) past c l = bytes_close bytes past c l
  input_close Cut past c l = one_close Cuts past c l
  input_close (Now moment) past c l = one_close (Ticks moment) past c l
  input_close (Call ticket question) past c l = one_close (Calls ticket question) past c l

  pub close_last : (items : List Item) → ClosesLast (pending_of (past_of start items))
  close_last [] = tt
  close_last (Turned turn ∷ items) = input_close turn.input (past_of start items) (counted start items) (close_last items)
  close_last (Forgets ∷ items) = close_last items
  close_last (Halts ∷ items) = close_last items

  at_most_cond : (b : Bool) (n : ℕ) → cond b 0 n ≤ n
  at_most_cond true n = omega arith
  at_most_cond false n = omega arith

  -- the answers and what waits are no more than the calls
  pub at_most_once : (t : ℕ) (items : List Item)
      → AllSaid start items → answers_over t items + waiting_over t (pending_of (past_of start items)) ≤ calls_over t items
  at_most_once t [] said = omega arith
  at_most_once t (Turned turn ∷ items) said =
      let h = input_balance t turn.input (past_of start items) (counted start items) (close_last items) in
      let e : answers_with t turn.outputs ≡ answers_with t (due_signals start (past_of start items) (signals_of turn.input)) =
      ap (answers_with t) said.0 in
      let m = at_most_cond (has_halted (past_of start items)) (is_call_with t turn.input) in
      let r = at_most_once t items said.1 in
      omega arith
  at_most_once t (Forgets ∷ items) said = at_most_once t items said
  at_most_once t (Halts ∷ items) said = at_most_once t items said

  -- ---- a halt lasts

  halted_step : (happening : Happening) (past : Past) → has_halted past ≡ true → has_halted (happening ∷ past) ≡ true
  halted_step Halted past e = refl
  halted_step _ past e = e

  halted_all : (more : List Happening) (past : Past) → has_halted past ≡ true → has_halted (joined past more) ≡ true
  halted_all [] past e = e
  halted_all (happening ∷ more) past e = halted_all more (happening ∷ past) (halted_step happening past e)

  halted_signals : (more : List Signal) (past : Past) → has_halted past ≡ true → has_halted (past_after start past more) ≡ true
  halted_signals [] past e = e
  halted_signals (signal ∷ more) past e = halted_signals more (joined past (happenings (view_at start past) signal))
      (halted_all (happenings (view_at start past) signal) past e)

  went_on : (more : List Signal) (past : Past) → has_halted (past_after start past more) ≡ false → has_halted past ≡ false
  went_on more past e = by (has_halted past) refl
    where
      by : (b : Bool) → has_halted past ≡ b → has_halted past ≡ false
      by true h = absurd (let g = halted_signals more past h in cc)
      by false h = h

  -- where the client goes on, they are exactly the calls
  pub exactly_once : (t : ℕ) (items : List Item) → AllSaid start items → has_halted (past_of start items) ≡ false
      → calls_over t items ≡ answers_over t items + waiting_over t (pending_of (past_of start items))
  exactly_once t [] said on = omega arith
  exactly_once t (Turned turn ∷ items) said on =
      let o = went_on (signals_of turn.input) (past_of start items) on in
      let h = input_balance t turn.input (past_of start items) (counted start items) (close_last items) in
      let e : answers_with t turn.outputs ≡ answers_with t (due_signals start (past_of start items) (signals_of turn.input)) =
      ap (answers_with t) said.0 in
      let m : cond (has_halted (past_of start items)) 0 (is_call_with t turn.input) ≡ is_call_with t turn.input =
      ap (λ b. cond b 0 (is_call_with t turn.input)) o in
      let r = exactly_once t items said.1 o in
      omega arith
  exactly_once t (Forgets ∷ items) said on = exactly_once t items said on
  exactly_once t (Halts ∷ items) said on = absurd cc

  -- ---- of a client

  pub answers_at_most : (t : ℕ) (items : List Item) (view : View) → Stands start items view → answers_in t items ≤ calls_in t items
  answers_at_most t items view s = let h = at_most_once t items s.said in let a = answers_are t items in
      let c = calls_are t items in omega arith

  pub answers_exact : (t : ℕ) (items : List Item) (view : View)
      → Stands start items view → view.standing.halted ≡ false → calls_in t items ≡ answers_in t items + waiting_with t view.pending
  answers_exact t items view s on =
      let o : has_halted (past_of start items) ≡ false = sym (ap (λ v. v.halted) s.standing) ∙ on in
      let p : waiting_over t view.pending ≡ waiting_over t (pending_of (past_of start items)) =
      ap (λ v. waiting_over t v.pending) (s.going o) in
      let h = exactly_once t items s.said o in
      let a = answers_are t items in
      let c = calls_are t items in
      let w = waiting_are t view.pending in
      omega arith

  pub answers_ended : (t : ℕ) (items : List Item) (view : View) → Stands start items view → view.standing.halted ≡ false
      → is_talking view.standing.state ≡ false → calls_in t items ≡ answers_in t items
  answers_ended t items view s on quiet =
      let o : has_halted (past_of start items) ≡ false = sym (ap (λ v. v.halted) s.standing) ∙ on in
      let e : is_talking (state_of (past_of start items)) ≡ false = sym (ap (λ v. is_talking v.state) s.standing) ∙ quiet in
      let n : waiting_over t (pending_of (past_of start items)) ≡ 0 = ap (waiting_over t) (nobody_waits (past_of start items) e) in
      let h = exactly_once t items s.said o in
      let a = answers_are t items in
      let c = calls_are t items in
      omega arith
