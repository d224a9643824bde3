-- Neither a call that is handed over nor the end of a connection ends a session: a happening that brings no message leaves the state as it
-- is, or makes it one that is not final. And a client that is closed was closed before, or bytes came, and of what it says then some output
-- ends the connection.
use Rattle.std.proofs.Common.{◌≡◌, ◌++◌, ◌⊎◌, inl, inr, ℕ, Bool, true, false, ◌||◌, List, [], ◌∷◌, Option, Some, None, refl, sym, ap, subst}
use Rattle.std.proofs.Common.{◌∙◌}
use Rattle.std.specs.Prelude.{max}
use Rattle.std.specs.List.{list_any, FoldsTo}
use Rattle.std.proofs.lemmas.List.Folds.{list_any-append}
use Rattle.zk_session.specs.declared.states.State.{State}
use Rattle.zk_session.specs.declared.states.State.TheVariants.{Idle, Connecting, Connected, Expired, Closed}
use Rattle.zk_session.specs.States.{is_final}
use Rattle.zk_conversation.specs.Calls.{Call as Asked_call}
use Rattle.zk_conversation.specs.Questions.{Close}
use Rattle.zk_turns.specs.Turns.{Outcome, Replied, Output, Answer, Signal, Opens, Comes, Cuts, Ticks, Calls, Forget, Halt, Input, Opened}
use Rattle.zk_turns.specs.Turns.{Bytes, Cut, Now, Call, Turn, signals_of}
use Rattle.zk_turns.specs.Past.{Happening, Began, Took, Dropped, Lost, Accepted, Expiry, Replies, Watches_set}
use Rattle.zk_turns.specs.View.{View}
use Rattle.zk_turns.specs.Taken.{caused, happenings, opens, refusal}
use Rattle.zk_turns.specs.Rule.{next, says, after_all, says_all, after_signals, says_signals, Rule}
use Rattle.zk_turns.proofs.Cases.{by_cond, by_open, by_due}
use Rattle.zk_turns.proofs.Words.{calls}
use Rattle.zk_follow.specs.declared.subject.Subject.{Subject}
use Rattle.zk_follow.specs.Following.{outputs_in, AreReads, Steps}
use Rattle.zk_agent.specs.Agents.{is_closed}
use Rattle.zk_agent.specs.Replies.{is_over}

-- ---- by a message alone

abbrev NoMessage : Happening → Type 0
NoMessage (Took message) = ⊥
NoMessage _ = Unit {0}

abbrev NoMessages : List Happening → Type 0
NoMessages [] = Unit {0}
NoMessages (happening ∷ more) = NoMessage happening × NoMessages more

-- a signal that brings no bytes
abbrev IsQuiet : Signal → Type 0
IsQuiet (Comes byte) = ⊥
IsQuiet _ = Unit {0}

abbrev AreQuiet : List Signal → Type 0
AreQuiet [] = Unit {0}
AreQuiet (signal ∷ more) = IsQuiet signal × AreQuiet more

opens_none : (state : State) → NoMessages (opens state)
opens_none Idle = (tt, tt)
opens_none Connecting = (tt, (tt, tt))
opens_none Connected = (tt, (tt, tt))
opens_none _ = tt

call_none : (ticket : ℕ) (call : Asked_call) (why : Option Outcome) → NoMessages (calls ticket call why)
call_none ticket call None = (tt, tt)
call_none ticket call (Some why) = (tt, tt)

caused_none : (view : View) (signal : Signal) → IsQuiet signal → NoMessages (caused view signal)
caused_none view Opens quiet = opens_none view.standing.state
caused_none view (Comes byte) quiet = absurd quiet
caused_none view Cuts quiet = by_open NoMessages view.standing.state (Lost ∷ []) tt (tt, tt)
caused_none view (Ticks moment) quiet =
    (tt, by_open NoMessages view.standing.state _ tt (by_due NoMessages view (max moment view.moments.now) (tt, tt) (tt, tt) tt))
caused_none view (Calls ticket call) quiet = call_none ticket call (refusal view call)
caused_none view Forget quiet = (tt, tt)
caused_none view Halt quiet = (tt, tt)

none_in : (view : View) (signal : Signal) → IsQuiet signal → NoMessages (happenings view signal)
none_in view Forget quiet = (tt, tt)
none_in view Halt quiet = (tt, tt)
none_in view (Comes byte) quiet = absurd quiet
none_in view Opens quiet = by_cond NoMessages view.standing.halted [] (caused view Opens) tt (caused_none view Opens quiet)
none_in view Cuts quiet = by_cond NoMessages view.standing.halted [] (caused view Cuts) tt (caused_none view Cuts quiet)
none_in view (Ticks moment) quiet =
    by_cond NoMessages view.standing.halted [] (caused view (Ticks moment)) tt (caused_none view (Ticks moment) quiet)
none_in view (Calls ticket call) quiet =
    by_cond NoMessages view.standing.halted [] (caused view (Calls ticket call)) tt (caused_none view (Calls ticket call) quiet)

module _ (state : State) (final : is_final state ≡ true) where
  not_final : (other : State) → is_final other ≡ false → other ≡ state → ⊥
  not_final other going is = let f : false ≡ true = sym going ∙ ap is_final is ∙ final in cc

  was_so : (happening : Happening) (view : View)
      → NoMessage happening → (next view happening).standing.state ≡ state → view.standing.state ≡ state
  was_so Began view none is = absurd (not_final Connecting refl is)
  was_so (Took message) view none is = absurd none
  was_so (Dropped fault) view none is = absurd (not_final Idle refl is)
  was_so Lost view none is = absurd (not_final Idle refl is)
  was_so _ view none is = is

  all_so : (more : List Happening) (view : View)
      → NoMessages more → (after_all view more).standing.state ≡ state → view.standing.state ≡ state
  all_so [] view none is = is
  all_so (happening ∷ more) view none is = was_so happening view none.0 (all_so more (next view happening) none.1 is)

  signals_so : (signals : List Signal) (view : View)
      → AreQuiet signals → (after_signals view signals).standing.state ≡ state → view.standing.state ≡ state
  signals_so [] view quiet is = is
  signals_so (signal ∷ more) view quiet is =
      all_so (happenings view signal) view (none_in view signal quiet.0)
      (signals_so more (after_all view (happenings view signal)) quiet.1 is)

  turn_so : (view : View) (turn : Turn) (after : View) → Rule view turn after → AreQuiet (signals_of turn.input)
      → after.standing.state ≡ state → view.standing.state ≡ state
  turn_so view turn after rule quiet is =
      signals_so (signals_of turn.input) view quiet (sym (ap (λ (v : View). v.standing.state) rule.next) ∙ is)

  reads_so : {A : Type 0} (subjects : List (Subject A)) (turns : List Turn) (view after : View)
      → AreReads subjects turns → FoldsTo Rule view turns after
      → after.standing.state ≡ state → view.standing.state ≡ state
  reads_so subjects [] view after reads same is = ap (λ (v : View). v.standing.state) same ∙ is
  reads_so subjects (turn ∷ turns) view after reads chain is =
      turn_so view turn chain.0 chain.1 (subst (λ input. AreQuiet (signals_of input)) (sym reads.0.4.1) (tt, tt))
      (reads_so subjects turns chain.0 after reads.1 chain.2 is)

  -- no call that is handed over ends a session
  pub call_so : {A : Type 0} (now : ℕ) (view : View) (ticket : ℕ) (asked : Asked_call) (old : List (Subject A)) (after : View)
      (given : List Output) (new : List (Subject A))
      → Steps now view (Call ticket asked) old after given new → after.standing.state ≡ state → view.standing.state ≡ state
  call_so now view ticket asked old after given new steps is =
      turn_so view _ steps.chain.0 steps.chain.1 (tt, tt)
      (turn_so steps.chain.0 _ steps.chain.2.0 steps.chain.2.1 (tt, tt)
      (reads_so old steps.calls steps.chain.2.0 after steps.reads steps.chain.2.2 is))

  -- nor does the end of a connection
  pub cut_so : {A : Type 0} (now : ℕ) (view : View) (old : List (Subject A)) (after : View) (given : List Output) (new : List (Subject A))
      → Steps now view Cut old after given new → after.standing.state ≡ state → view.standing.state ≡ state
  cut_so now view old after given new steps is =
      turn_so view _ steps.chain.0 steps.chain.1 (tt, tt)
      (turn_so steps.chain.0 _ steps.chain.2.0 steps.chain.2.1 (tt, tt)
      (reads_so old steps.calls steps.chain.2.0 after steps.reads steps.chain.2.2 is))

-- ---- a close is told

either : (a b : Bool) → b ≡ true → (a || b) ≡ true
either true b e = refl
either false b e = e

any_first : (xs ys : List Output) → list_any is_over xs ≡ true → list_any is_over (xs ++ ys) ≡ true
any_first xs ys e = list_any-append is_over xs ys ∙ ap (λ b. b || list_any is_over ys) e

any_last : (xs ys : List Output) → list_any is_over ys ≡ true → list_any is_over (xs ++ ys) ≡ true
any_last xs ys e = list_any-append is_over xs ys ∙ either (list_any is_over xs) (list_any is_over ys) e

-- it was closed before, or what is said ends the connection
abbrev WasOrSays : View → List Output → Type 0
WasOrSays view outputs = (view.standing.state ≡ Closed) ⊎ (list_any is_over outputs ≡ true)

closes : (happening : Happening) (view : View) → (next view happening).standing.state ≡ Closed → WasOrSays view (says view happening)
closes Began view is = absurd (let f : false ≡ true = ap is_final is in cc)
closes (Dropped fault) view is = absurd (let f : false ≡ true = ap is_final is in cc)
closes Lost view is = absurd (let f : false ≡ true = ap is_final is in cc)
closes (Took (Accepted welcome)) view is = absurd (let f : false ≡ true = ap is_final is in cc)
closes (Took Expiry) view is = absurd (let f : Expired ≡ Closed = is in cc)
closes (Took (Replies ticket Close zxid result)) view is = inr (either (is_over (Answer ticket (Replied zxid result))) true refl)
closes (Took (Replies ticket question zxid result)) view is = inl is
closes (Took (Watches_set true zxid)) view is = inl is
closes (Took (Watches_set false zxid)) view is = inl is
closes _ view is = inl is

after_first : (view : View) (first rest : List Output) → WasOrSays view first → WasOrSays view (first ++ rest)
after_first view first rest (inl was) = inl was
after_first view first rest (inr over) = inr (any_first first rest over)

closes_all : (more : List Happening) (view : View) → (after_all view more).standing.state ≡ Closed → WasOrSays view (says_all view more)
closes_all [] view is = inl is
closes_all (happening ∷ more) view is = by (closes_all more (next view happening) is)
  where
    by : WasOrSays (next view happening) (says_all (next view happening) more)
        → WasOrSays view (says view happening ++ says_all (next view happening) more)
    by (inl was) = after_first view (says view happening) (says_all (next view happening) more) (closes happening view was)
    by (inr over) = inr (any_last (says view happening) (says_all (next view happening) more) over)

closes_signals : (signals : List Signal) (view : View)
    → (after_signals view signals).standing.state ≡ Closed → WasOrSays view (says_signals view signals)
closes_signals [] view is = inl is
closes_signals (signal ∷ more) view is = by (closes_signals more after is)
  where
    now : List Happening
    now = happenings view signal

    after : View
    after = after_all view now

    by : WasOrSays after (says_signals after more) → WasOrSays view (says_all view now ++ says_signals after more)
    by (inl was) = after_first view (says_all view now) (says_signals after more) (closes_all now view was)
    by (inr over) = inr (any_last (says_all view now) (says_signals after more) over)

closes_turn : (view : View) (turn : Turn) (after : View)
    → Rule view turn after → after.standing.state ≡ Closed → WasOrSays view turn.outputs
closes_turn view turn after rule is =
    subst (WasOrSays view) (sym rule.outputs)
    (closes_signals (signals_of turn.input) view (sym (ap (λ (v : View). v.standing.state) rule.next) ∙ is))

abbrev pub is_bytes : Input → Bool
is_bytes (Bytes bytes) = true
is_bytes _ = false

quiet_or_bytes : (input : Input) → AreQuiet (signals_of input) ⊎ (is_bytes input ≡ true)
quiet_or_bytes Opened = inl (tt, tt)
quiet_or_bytes (Bytes bytes) = inr refl
quiet_or_bytes Cut = inl (tt, tt)
quiet_or_bytes (Now moment) = inl (tt, tt)
quiet_or_bytes (Call ticket asked) = inl (tt, tt)

-- A client that is closed was so before, or it was told of it by bytes, and what it says ends the connection.
pub steps_closed : {A : Type 0} (now : ℕ) (view : View) (input : Input) (old : List (Subject A)) (after : View) (given : List Output)
    (new : List (Subject A)) → Steps now view input old after given new
    → after.standing.state ≡ Closed → (view.standing.state ≡ Closed) ⊎ ((is_bytes input ≡ true) × (list_any is_over given ≡ true))
steps_closed {A} now view input old after given new steps is = by (quiet_or_bytes input)
  where
    input_closed : steps.chain.2.0.standing.state ≡ Closed
    input_closed = reads_so Closed refl old steps.calls steps.chain.2.0 after steps.reads steps.chain.2.2 is

    before : steps.chain.0.standing.state ≡ Closed → view.standing.state ≡ Closed
    before was = turn_so Closed refl view _ steps.chain.0 steps.chain.1 (tt, tt) was

    over : list_any is_over steps.second ≡ true → list_any is_over given ≡ true
    over e = ap (list_any is_over) steps.said
        ∙ any_first (steps.first ++ steps.second) (outputs_in steps.calls) (any_last steps.first steps.second e)

    by_bytes : is_bytes input ≡ true → WasOrSays steps.chain.0 steps.second
        → (view.standing.state ≡ Closed) ⊎ ((is_bytes input ≡ true) × (list_any is_over given ≡ true))
    by_bytes bytes (inl was) = inl (before was)
    by_bytes bytes (inr says) = inr (bytes, over says)

    by : AreQuiet (signals_of input) ⊎ (is_bytes input ≡ true)
        → (view.standing.state ≡ Closed) ⊎ ((is_bytes input ≡ true) × (list_any is_over given ≡ true))
    by (inl quiet) = inl (before (turn_so Closed refl steps.chain.0 _ steps.chain.2.0 steps.chain.2.1 quiet input_closed))
    by (inr bytes) = by_bytes bytes (closes_turn steps.chain.0 _ steps.chain.2.0 steps.chain.2.1 input_closed)

-- ---- by the test of a state

pub is_shut : (state : State) → is_closed state ≡ true → state ≡ Closed
is_shut Closed is = refl
is_shut _ is = absurd cc

pub not_closed : (state : State) → is_closed state ≡ false → state ≡ Closed → ⊥
not_closed state is there = let f : true ≡ false = sym (ap is_closed there) ∙ is in cc
