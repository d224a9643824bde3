-- A step keeps what a client stands for. No reply is taken that was not asked for, so all that happens may happen, and after each happening
-- the view is that of the past.
use Rattle.zk_conversation.specs.Results.{response_timeout, response_session, response_password}
use Rattle.zk_turns.proofs.Arriving.{IsOf, AreOf, of_arriving}
use Rattle.zk_turns.specs.Past.{Asking, For_call, pending_for, awaited}
use Rattle.zk_conversation.specs.declared.phase.Phase.{Phase}
use Rattle.zk_conversation.specs.Calls.{Call}
use Rattle.zk_turns.specs.Taken.{longest, phase_of, taken_of, welcome_by}
use Rattle.zk_conversation.specs.Arriving.{Arrived, Connected as Welcomed, Replied, Watches_set as Part_set, Notice, Pong as Ponged}
use Rattle.zk_conversation.specs.Arriving.{Skipped as Passed, arriving}
use Rattle.zk_conversation.specs.declared.fault.TalkFault.{TalkFault}
use Rattle.std.proofs.Common.{◌≡◌, ℕ, zero, suc, ◌≤◌, ◌<◌, ℤ, pos, Bool, true, false, cond, ◌&&◌, List, [], ◌∷◌, ◌++◌, map, drop, length}
use Rattle.std.proofs.Common.{Option, Some, None, Ok, Err, refl, sym, ap, subst, ◌∙◌, arith, append_assoc}
use Rattle.std.specs.Prelude.{int_lt, ◌==◌, negsuc, Result as Reading}
use Rattle.std.specs.Ordering.{int_eq}
use Rattle.std.proofs.lemmas.List.{length-append, map-append, append-nil}
use Rattle.zk_turns.specs.Turns.{Start, Outcome, Behind, WatchesRefused, Signal, Opens, Comes, Cuts, Ticks, Calls, Forget, Halt, Bytes}
use Rattle.zk_turns.specs.Turns.{Turn, Item, Turned, Halts, IsAskable, signals, signals_of}
use Rattle.zk_session.specs.declared.states.State.{State}
use Rattle.zk_session.specs.declared.states.State.TheVariants.{Idle, Connecting, Connected}
use Rattle.zk_turns.specs.Past.{Past, Happening, Began, Came, Took, Dropped, Lost, Asked, Ticked, Halted, Accepted, Expiry, Replies}
use Rattle.zk_turns.specs.Past.{Watches_set, is_talking, state_of, questions, answered, pending_of, held_of, xid_of, has_halted}
use Rattle.zk_conversation.specs.Pending.{Pending}
use Rattle.zk_turns.specs.View.{View, view_at}
use Rattle.zk_turns.specs.Taken.{reading, leaves_watch, opens, refusal, caused, happenings, of_cutting, cut, Cutting, Unfinished, Bad}
use Rattle.zk_turns.specs.Taken.{Payload, joined, past_after, past_of, comes}
use Rattle.zk_turns.specs.Rule.{says, after_all, says_all, after_signals, says_signals, Rule, due_happenings, due_signals, AllSaid, Stands}
use Rattle.zk_turns.specs.Rule.{HaltsAs}
use Rattle.zk_turns.specs.Ranges.{AllAskOf}
use Rattle.zk_turns.proofs.Cases.{by_cond, by_open, by_due}
use Rattle.zk_turns.proofs.Registered.{empty_lists}
use Rattle.zk_turns.proofs.Happened.{MayHappen, one_happening}
use Rattle.zk_turns.proofs.Words.{happening_of, refusal_in, calls}

-- ---- what may happen

abbrev pub AllMay : List Happening → Past → Type 0
AllMay [] past = Unit {0}
AllMay (happening ∷ more) past = MayHappen happening past × AllMay more (happening ∷ past)

-- there are no more replies than questions
abbrev pub Counted : Past → Type 0
Counted past = answered past ≤ length (questions past)

pub counted_next : (happening : Happening) (past : Past) → MayHappen happening past → Counted past → Counted (happening ∷ past)
counted_next Began past may c = omega arith
counted_next (Asked ticket question) past may c =
    omega (arith, length-append (questions past) (For_call (xid_of past) ticket question ∷ []))
counted_next (Took (Accepted welcome)) past may c = omega arith
counted_next (Took (Replies ticket question zxid result)) past may c = may
counted_next (Took (Watches_set last zxid)) past may c = may
counted_next _ past may c = c

counted_all : (more : List Happening) (past : Past) → AllMay more past → Counted past → Counted (joined past more)
counted_all [] past may c = c
counted_all (happening ∷ more) past may c = counted_all more (happening ∷ past) may.1 (counted_next happening past may.0 c)

-- a question waits only where not all are answered
abbrev pub Waits : List Pending → Past → Type 0
Waits [] past = Unit {0}
Waits (oldest ∷ more) past = answered past < length (questions past)

first_of_rest : (n : ℕ) (xs : List Asking) (y : Asking) (ys : List Asking) → drop n xs ≡ y ∷ ys → n < length xs
first_of_rest zero [] y ys e = absurd cc
first_of_rest zero (x ∷ xs) y ys e = omega arith
first_of_rest (suc n) [] y ys e = absurd cc
first_of_rest (suc n) (x ∷ xs) y ys e = let h = first_of_rest n xs y ys e in omega arith

waits_by : (talks : Bool) (past : Past) (asked : List Asking)
    → cond talks (drop (answered past) (questions past)) [] ≡ asked → Waits (map pending_for asked) past
waits_by true past [] e = tt
waits_by true past (p ∷ ps) e = first_of_rest (answered past) (questions past) p ps e
waits_by false past [] e = tt
waits_by false past (p ∷ ps) e = absurd cc

pub waits : (past : Past) → Waits (pending_of past) past
waits past = waits_by (is_talking (state_of past)) past (awaited past) refl

welcome_may : (timeout session : ℤ) (password : List ℕ) (past : Past) → MayHappen (Took (welcome_by timeout session password)) past
welcome_may (pos n) session password past = by (n == 0)
  where
    by : (b : Bool) → MayHappen (Took (cond b Expiry (Accepted (record { timeout = n; session = session; password = password })))) past
    by true = tt
    by false = tt
welcome_may (negsuc n) session password past = tt

taken_may : (phase : Phase) (ps : List Pending) (last : ℤ) (arrived : Arrived) (past : Past)
    → IsOf phase ps arrived → Waits ps past → MayHappen (taken_of last arrived) past
taken_may phase ps last (Welcomed response) past f w =
    welcome_may (response_timeout response) (response_session response) (response_password response) past
taken_may phase ps last (Replied ticket question zxid result) past f w =
    by_cond (λ h. MayHappen h past) (leaves_watch question result && int_lt zxid last) (Dropped (Behind last zxid))
    (Took (Replies ticket question zxid result)) tt (subst (λ l. Waits l past) f.2 w)
taken_may phase ps last (Part_set final zxid err) past f w =
    by_cond (λ h. MayHappen h past) (int_eq err (pos 0)) (Took (Watches_set final zxid)) (Dropped (WatchesRefused err))
    (subst (λ l. Waits l past) f.2 w) tt
taken_may phase ps last (Notice event path) past f w = tt
taken_may phase ps last Ponged past f w = tt
taken_may phase ps last Passed past f w = tt

result_may : (phase : Phase) (ps : List Pending) (last : ℤ) (r : Reading Arrived TalkFault) (past : Past)
    → AreOf phase ps r → Waits ps past → MayHappen (happening_of last r) past
result_may phase ps last (Ok arrived) past f w = taken_may phase ps last arrived past f w
result_may phase ps last (Err fault) past f w = tt

reading_may : (state : State) (ps : List Pending) (last : ℤ) (payload : List ℕ) (past : Past)
    → Waits ps past → MayHappen (reading state ps last payload) past
reading_may state ps last payload past w =
    result_may (phase_of state) ps last (arriving (phase_of state) ps payload) past (of_arriving (phase_of state) ps payload) w

module _ (start : Start) where
  cutting_may : (cutting : Cutting) (byte : ℕ) (past : Past) → AllMay (of_cutting (view_at start past) cutting) (Came byte ∷ past)
  cutting_may Unfinished byte past = tt
  cutting_may (Bad fault) byte past = (tt, tt)
  cutting_may (Payload payload) byte past = (
    reading_may (state_of past) (pending_of past) (view_at start past).saved.last payload (Came byte ∷ past) (waits (Came byte ∷ past)),
    tt,
  )

  abbrev MayFollow : Past → List Happening → Type 0
  MayFollow past more = AllMay more past

  calls_may : (ticket : ℕ) (question : Call) (why : Option Outcome) (past : Past) → (why ≡ None → is_talking (state_of past) ≡ true)
      → Counted past → AllMay (calls ticket question why) past
  calls_may ticket question None past talks c = ((talks refl, c), tt)
  calls_may ticket question (Some why) past talks c = (tt, tt)

  pub talks_in : (state : State) (view : View) (question : Call) → refusal_in state view question ≡ None → is_talking state ≡ true
  talks_in Connected view question e = refl
  talks_in _ view question e = absurd cc

  caused_may : (signal : Signal) (past : Past) → Counted past → AllMay (caused (view_at start past) signal) past
  caused_may Opens past c = by (state_of past)
    where
      by : (state : State) → AllMay (opens state) past
      by Idle = (tt, tt)
      by Connecting = (tt, (tt, tt))
      by Connected = (tt, (tt, tt))
      by _ = tt
  caused_may (Comes byte) past c = by_open (MayFollow past) (state_of past) (comes (view_at start past) byte) tt
      (tt, cutting_may (cut (longest start.limits (state_of past)) (held_of past ++ byte ∷ [])) byte past)
  caused_may Cuts past c = by_open (MayFollow past) (state_of past) (Lost ∷ []) tt (tt, tt)
  caused_may (Ticks moment) past c = (
    tt,
    by_open (MayFollow (Ticked moment ∷ past)) (state_of past) _ tt
        (by_due (MayFollow (Ticked moment ∷ past)) (view_at start past) _ (tt, tt) (tt, tt) tt),
  )
  caused_may (Calls ticket question) past c =
      calls_may ticket question (refusal (view_at start past) question) past (talks_in (state_of past) (view_at start past) question) c
  caused_may Forget past c = (tt, tt)
  caused_may Halt past c = (tt, tt)

  pub all_may : (signal : Signal) (past : Past) → Counted past → AllMay (happenings (view_at start past) signal) past
  all_may Forget past c = (tt, tt)
  all_may Halt past c = (tt, tt)
  all_may signal past c = by_cond (MayFollow past) (has_halted past) [] (caused (view_at start past) signal) tt (caused_may signal past c)

  -- ---- steps

  pub after_is : (more : List Happening) (past : Past)
      → AllMay more past → after_all (view_at start past) more ≡ view_at start (joined past more)
  after_is [] past may = refl
  after_is (happening ∷ more) past may =
      ap (λ v. after_all v more) (one_happening start happening past may.0) ∙ after_is more (happening ∷ past) may.1

  pub says_is : (more : List Happening) (past : Past)
      → AllMay more past → says_all (view_at start past) more ≡ due_happenings start past more
  says_is [] past may = refl
  says_is (happening ∷ more) past may =
      ap (λ v. says (view_at start past) happening ++ says_all v more) (one_happening start happening past may.0)
      ∙ ap (λ t. says (view_at start past) happening ++ t) (says_is more (happening ∷ past) may.1)

  pub counted_signal : (signal : Signal) (past : Past) → Counted past → Counted (joined past (happenings (view_at start past) signal))
  counted_signal signal past c = counted_all (happenings (view_at start past) signal) past (all_may signal past c) c

  pub counted_signals : (more : List Signal) (past : Past) → Counted past → Counted (past_after start past more)
  counted_signals [] past c = c
  counted_signals (signal ∷ more) past c =
      counted_signals more (joined past (happenings (view_at start past) signal)) (counted_signal signal past c)

  pub counted : (items : List Item) → Counted (past_of start items)
  counted [] = omega arith
  counted (item ∷ items) = counted_signals (signals item) (past_of start items) (counted items)

  pub after_signals_is : (more : List Signal) (past : Past)
      → Counted past → after_signals (view_at start past) more ≡ view_at start (past_after start past more)
  after_signals_is [] past c = refl
  after_signals_is (signal ∷ more) past c =
      ap (λ v. after_signals v more) (after_is (happenings (view_at start past) signal) past (all_may signal past c))
      ∙ after_signals_is more (joined past (happenings (view_at start past) signal)) (counted_signal signal past c)

  pub says_signals_is : (more : List Signal) (past : Past)
      → Counted past → says_signals (view_at start past) more ≡ due_signals start past more
  says_signals_is [] past c = refl
  says_signals_is (signal ∷ more) past c =
      ap (λ t. t ++ says_signals (after_all (view_at start past) (happenings (view_at start past) signal)) more)
      (says_is (happenings (view_at start past) signal) past (all_may signal past c))
      ∙ ap (λ v. due_happenings start past (happenings (view_at start past) signal) ++ says_signals v more)
      (after_is (happenings (view_at start past) signal) past (all_may signal past c))
      ∙ ap (λ t. due_happenings start past (happenings (view_at start past) signal) ++ t)
      (says_signals_is more (joined past (happenings (view_at start past) signal)) (counted_signal signal past c))

  -- ---- one turn

  view_is : (items : List Item) (view : View)
      → Stands start items view → view.standing.halted ≡ false → view ≡ view_at start (past_of start items)
  view_is items view s on = s.going (sym (ap (λ t. t.halted) s.standing) ∙ on)

  pub turn_view : (items : List Item) (view after : View) (turn : Turn)
      → Stands start items view → Rule view turn after → after ≡ view_at start (past_of start (Turned turn ∷ items))
  turn_view items view after turn s rule =
      rule.next
      ∙ ap (λ v. after_signals v (signals_of turn.input)) (view_is items view s rule.goes_on)
      ∙ after_signals_is (signals_of turn.input) (past_of start items) (counted items)

  pub turn_said : (items : List Item) (view after : View) (turn : Turn)
      → Stands start items view → Rule view turn after → turn.outputs ≡ due_signals start (past_of start items) (signals_of turn.input)
  turn_said items view after turn s rule =
      rule.outputs
      ∙ ap (λ v. says_signals v (signals_of turn.input)) (view_is items view s rule.goes_on)
      ∙ says_signals_is (signals_of turn.input) (past_of start items) (counted items)

  pub one_turn : (items : List Item) (view after : View) (turn : Turn)
      → Stands start items view → Rule view turn after → Stands start (Turned turn ∷ items) after
  one_turn items view after turn s rule =
      let e = turn_view items view after turn s rule in
      record {
        standing = ap (λ v. v.standing) e;
        saved = ap (λ v. v.saved) e;
        lists = ap (λ v. v.lists) e;
        cache = ap (λ v. v.cache) e;
        going = λ on. e;
        said = (turn_said items view after turn s rule, s.said);
        asked = (rule.asked, s.asked);
      }

  -- a client stands where the definitions put it, with what it said and was asked
  pub given_stands : (items : List Item)
      → AllSaid start items → AllAskOf IsAskable items → Stands start items (view_at start (past_of start items))
  given_stands items said asked =
      record { standing = refl; saved = refl; lists = refl; cache = refl; going = λ on. refl; said = said; asked = asked }

  pub halt_stands : (items : List Item) (view after : View)
      → Stands start items view → HaltsAs view after → Stands start (Halts ∷ items) after
  halt_stands items view after s h =
      record {
        standing = h.standing ∙ ap (λ t. record { halted = true; state = t.state }) s.standing;
        saved = h.saved ∙ s.saved;
        lists = h.lists ∙ empty_lists Halted (past_of start items) (λ q. refl) (λ q. refl);
        cache = h.cache;
        going = λ on. absurd cc;
        said = s.said;
        asked = s.asked;
      }

-- ---- single signals and happenings

pub one_signal_view : (view : View) (signal : Signal) → after_signals view (signal ∷ []) ≡ after_all view (happenings view signal)
one_signal_view view signal = refl

pub one_signal_says : (view : View) (signal : Signal) → says_signals view (signal ∷ []) ≡ says_all view (happenings view signal)
one_signal_says view signal = append-nil (says_all view (happenings view signal))

pub one_happening_says : (view : View) (happening : Happening) → says_all view (happening ∷ []) ≡ says view happening
one_happening_says view happening = append-nil (says view happening)

-- ---- pieces

pub after_append : (xs ys : List Signal) (view : View) → after_signals view (xs ++ ys) ≡ after_signals (after_signals view xs) ys
after_append [] ys view = refl
after_append (x ∷ xs) ys view = after_append xs ys (after_all view (happenings view x))

pub says_append : (xs ys : List Signal) (view : View)
    → says_signals view (xs ++ ys) ≡ says_signals view xs ++ says_signals (after_signals view xs) ys
says_append [] ys view = refl
says_append (x ∷ xs) ys view =
    ap (λ t. says_all view (happenings view x) ++ t) (says_append xs ys (after_all view (happenings view x)))
    ∙ sym (append_assoc (says_all view (happenings view x)) (says_signals (after_all view (happenings view x)) xs)
    (says_signals (after_signals (after_all view (happenings view x)) xs) ys))

signals_of_pieces : (a b : List ℕ) (first second whole : Turn) → first.input ≡ Bytes a → second.input ≡ Bytes b
    → whole.input ≡ Bytes (a ++ b) → signals_of whole.input ≡ signals_of first.input ++ signals_of second.input
signals_of_pieces a b first second whole e f g =
    ap signals_of g ∙ map-append Comes a b
    ∙ ap (λ t. t ++ map Comes b) (sym (ap signals_of e)) ∙ ap (λ t. signals_of first.input ++ t) (sym (ap signals_of f))

pub cut_outputs : (view middle after whole_after : View) (a b : List ℕ) (first second whole : Turn)
    → first.input ≡ Bytes a → second.input ≡ Bytes b → whole.input ≡ Bytes (a ++ b)
    → Rule view first middle → Rule middle second after → Rule view whole whole_after → whole.outputs ≡ first.outputs ++ second.outputs
cut_outputs view middle after whole_after a b first second whole e f g r s w =
    w.outputs ∙ ap (says_signals view) (signals_of_pieces a b first second whole e f g)
    ∙ says_append (signals_of first.input) (signals_of second.input) view
    ∙ ap (λ v. says_signals view (signals_of first.input) ++ says_signals v (signals_of second.input)) (sym r.next)
    ∙ ap (λ t. t ++ says_signals middle (signals_of second.input)) (sym r.outputs)
    ∙ ap (λ t. first.outputs ++ t) (sym s.outputs)

pub cut_view : (view middle after whole_after : View) (a b : List ℕ) (first second whole : Turn)
    → first.input ≡ Bytes a → second.input ≡ Bytes b → whole.input ≡ Bytes (a ++ b)
    → Rule view first middle → Rule middle second after → Rule view whole whole_after → whole_after ≡ after
cut_view view middle after whole_after a b first second whole e f g r s w =
    w.next ∙ ap (after_signals view) (signals_of_pieces a b first second whole e f g)
    ∙ after_append (signals_of first.input) (signals_of second.input) view
    ∙ ap (λ v. after_signals v (signals_of second.input)) (sym r.next)
    ∙ sym s.next
