-- What turns of a client leave waiting for replies, and when no call can be handed over after them. A call that was handed over waits for
-- its reply, where no output ends its wait; and where an answer sends a call back, or the connection ends, no call can be handed over.
use Rattle.std.proofs.Common.{◌≡◌, ◌≢◌, ◌++◌, append_assoc, ◌⊎◌, inl, inr, ℕ, pos, Bool, true, false, cond, ◌||◌, List, [], ◌∷◌, Option}
use Rattle.std.proofs.Common.{Some, None, refl, sym, ap, subst, ◌∙◌, eq-eqb, arith}
use Rattle.std.specs.Prelude.{◌==◌, nat_le, nat_lt, length, max}
use Rattle.std.specs.List.{list_any, FoldsTo}
use Rattle.std.proofs.lemmas.Bool.Decides.{nat_tests}
use Rattle.std.proofs.lemmas.List.Folds.{list_any-append}
use Rattle.zk_limits.specs.declared.limits.TheConstants.{MOST_PENDING}
use Rattle.zk_session.specs.declared.states.State.{State}
use Rattle.zk_session.specs.declared.states.State.TheVariants.{Idle, Connecting, Connected, Expired, Closed}
use Rattle.zk_frames.specs.Frame.{frame}
use Rattle.zk_conversation.specs.Calls.{Call as Asked_call, call_payload}
use Rattle.zk_conversation.specs.Pending.{call_waits, calls_pending, is_close_pending}
use Rattle.zk_conversation.specs.Questions.{question_of, watched_side}
use Rattle.zk_conversation.specs.Views.{call_view}
use Rattle.zk_turns.specs.Turns.{Outcome, SessionClosed, NotConnected, TooManyWatches, TooLarge, TooManyPending, Output, Answer, Send}
use Rattle.zk_turns.specs.Turns.{Input, Cut, Now, Call, Calls, Cuts, Ticks, Turn}
use Rattle.zk_turns.specs.Past.{Happening, Asked, Lost, Ticked}
use Rattle.zk_turns.specs.View.{View}
use Rattle.zk_turns.specs.Taken.{due, happenings, if_open, is_full_on, refusal, refusal_when_connected}
use Rattle.zk_turns.specs.Rule.{after_all, next, says_all, Rule}
use Rattle.zk_turns.proofs.Cases.{by_cond, by_due, by_open}
use Rattle.zk_turns.proofs.Words.{calls, refusal_in}
use Rattle.zk_follow.specs.declared.subject.Subject.{Subject}
use Rattle.zk_follow.specs.Following.{outputs_in, AreReads, Steps}
use Rattle.zk_follow.specs.inner.Following.{Asks}
use Rattle.zk_follow.proofs.Asking.{calls_on}
use Rattle.zk_follow.proofs.Waiting.{Silent, Waits}
use Rattle.zk_calls.specs.declared.entry.Entry.{Entry}
use Rattle.zk_agent.specs.Calls.{IsAway, IsFull, IsPending}
use Rattle.zk_agent.specs.Replies.{is_back}
use Rattle.zk_agent.proofs.Keeping.{is_found, pending_on}

-- ---- the turn of a call

abbrev IsSent : View → ℕ → Asked_call → List Output → View → Type 0
IsSent view ticket call outputs after =
    (outputs ≡ Send (frame (call_payload (pos view.xid) call)) ∷ []) × (after ≡ next view (Asked ticket call))

abbrev IsDenied : View → ℕ → Asked_call → List Output → View → Type 0
IsDenied view ticket call outputs after =
    (why : Outcome) × (refusal view call ≡ Some why) × (outputs ≡ Answer ticket why ∷ []) × (after ≡ view)

call_turn : (view : View) (ticket : ℕ) (call : Asked_call) (outputs : List Output) (after : View)
    → Rule view (record { input = Call ticket call; outputs = outputs }) after
    → IsSent view ticket call outputs after ⊎ IsDenied view ticket call outputs after
call_turn view ticket call outputs after rule =
    by (refusal view call) refl (rule.outputs ∙ ap (λ hs. says_all view hs ++ []) happened) (rule.next ∙ ap (after_all view) happened)
  where
    happened : happenings view (Calls ticket call) ≡ calls ticket call (refusal view call)
    happened = ap (λ b. cond b [] (calls ticket call (refusal view call))) rule.goes_on

    by : (why : Option Outcome)
        → refusal view call ≡ why → outputs ≡ says_all view (calls ticket call why) ++ [] → after ≡ after_all view (calls ticket call why)
        → IsSent view ticket call outputs after ⊎ IsDenied view ticket call outputs after
    by None r said came = inl (said, came)
    by (Some why) r said came = inr (why, r, said, came)

-- a call that is not answered waits for its reply
pub sent_waits : (view : View) (ticket : ℕ) (call : Asked_call) (outputs : List Output) (after : View)
    → Rule view (record { input = Call ticket call; outputs = outputs }) after
    → Silent ticket outputs → Waits ticket (question_of call) after.pending
sent_waits view ticket call outputs after rule silent = by (call_turn view ticket call outputs after rule)
  where
    by : IsSent view ticket call outputs after ⊎ IsDenied view ticket call outputs after → Waits ticket (question_of call) after.pending
    by (inl sent) = (pos view.xid, view.pending, [], ap (λ v. v.pending) sent.1)
    by (inr denied) =
        absurd (let quiet : (ticket == ticket) ≡ false = (subst (Silent ticket) denied.2 silent).0 in let same : (ticket == ticket) ≡ true =
        eq-eqb ticket ticket refl in
        let f : true ≡ false = sym same ∙ quiet in cc)

-- ---- no call can be handed over

full_by : (view : View) → nat_le MOST_PENDING (calls_pending view.pending) ≡ true → IsFull view
full_by view e = grind (arith, nat_tests)

abbrev IsDenial : View → Outcome → Type 0
IsDenial view why = is_back (Answer 0 why) ≡ true → IsFull view

abbrev OfRefusal : View → Option Outcome → Type 0
OfRefusal view None = Unit {0}
OfRefusal view (Some why) = IsDenial view why

not_back : (view : View) (why : Outcome) → is_back (Answer 0 why) ≡ false → IsDenial view why
not_back view why is back = absurd (let f : true ≡ false = sym back ∙ is in cc)

of_refusal : (view : View) (call : Asked_call) → OfRefusal view (refusal_when_connected view call)
of_refusal view call =
    let large : Option Outcome = cond (nat_lt view.limits.outgoing (length (call_payload (pos view.xid) call))) (Some TooLarge) None in
    let watches : Option Outcome = cond (is_full_on view (watched_side (question_of call))) (Some TooManyWatches) large in
    let pending : Option Outcome = cond (nat_le MOST_PENDING (calls_pending view.pending)) (Some TooManyPending) watches in
    by_cond (OfRefusal view) (is_close_pending view.pending) (Some SessionClosed) pending (not_back view SessionClosed refl)
    (by_test (nat_le MOST_PENDING (calls_pending view.pending)) watches refl
    (by_cond (OfRefusal view) (is_full_on view (watched_side (question_of call))) (Some TooManyWatches) large
    (not_back view TooManyWatches refl)
    (by_cond (OfRefusal view) (nat_lt view.limits.outgoing (length (call_payload (pos view.xid) call))) (Some TooLarge) None
    (not_back view TooLarge refl) tt)))
  where
    by_test : (b : Bool) (rest : Option Outcome)
        → nat_le MOST_PENDING (calls_pending view.pending) ≡ b → OfRefusal view rest → OfRefusal view (cond b (Some TooManyPending) rest)
    by_test true rest e h = λ back. full_by view e
    by_test false rest e h = h

same_back : (ticket : ℕ) (why : Outcome) → is_back (Answer ticket why) ≡ true → is_back (Answer 0 why) ≡ true
same_back ticket Outcome.ConnectionLoss e = refl
same_back ticket NotConnected e = refl
same_back ticket TooManyPending e = refl
same_back ticket _ e = e

denied_away : (view : View) (ticket : ℕ) (call : Asked_call) (why : Outcome)
    → refusal view call ≡ Some why → is_back (Answer ticket why) ≡ true → IsAway view
denied_away view ticket call why is back = by view.standing.state refl
  where
    by : (state : State) → view.standing.state ≡ state → IsAway view
    by Connected s =
        inr (subst (OfRefusal view) (sym (ap (λ state. refusal_in state view call) s) ∙ is) (of_refusal view call)
        (same_back ticket why back))
    by Idle s = inl (λ e. let f : Idle ≡ Connected = sym s ∙ e in absurd cc)
    by Connecting s = inl (λ e. let f : Connecting ≡ Connected = sym s ∙ e in absurd cc)
    by Expired s = inl (λ e. let f : Expired ≡ Connected = sym s ∙ e in absurd cc)
    by Closed s = inl (λ e. let f : Closed ≡ Connected = sym s ∙ e in absurd cc)

-- what a call leaves of it
call_asks : (view : View) (ticket : ℕ) (call : Asked_call) (after : View) → after ≡ next view (Asked ticket call) → Asks view after
call_asks view ticket call after is = record {
  standing = ap (λ v. v.standing) is;
  cache = ap (λ v. v.cache) is;
  lists = ap (λ v. v.lists) is;
  more = call_waits view.xid ticket call ∷ [];
  pending = ap (λ v. v.pending) is;
}

away_on : (view after : View) → Asks view after → IsAway view → IsAway after
away_on view after asks (inl away) = inl (λ there. away (sym (ap (λ s. s.state) asks.standing) ∙ there))
away_on view after asks (inr full) = inr (omega (arith, calls_on view after asks, full))

-- with a call no call can be handed over where none could before, or where it cannot be sent
pub call_away : (view : View) (ticket : ℕ) (call : Asked_call) (outputs : List Output) (after : View)
    → Rule view (record { input = Call ticket call; outputs = outputs }) after
    → IsAway view ⊎ (list_any is_back outputs ≡ true) → IsAway after
call_away view ticket call outputs after rule = by (call_turn view ticket call outputs after rule)
  where
    any_one : (b : Bool) → (b || false) ≡ true → b ≡ true
    any_one true e = refl
    any_one false e = absurd cc

    by : IsSent view ticket call outputs after ⊎ IsDenied view ticket call outputs after
        → IsAway view ⊎ (list_any is_back outputs ≡ true) → IsAway after
    by (inl sent) (inl away) = away_on view after (call_asks view ticket call after sent.1) away
    by (inl sent) (inr back) = absurd (let f : false ≡ true = sym (ap (list_any is_back) sent.0) ∙ back in cc)
    by (inr denied) (inl away) = subst IsAway (sym denied.3) away
    by (inr denied) (inr back) =
        subst IsAway (sym denied.3)
        (denied_away view ticket call denied.0 denied.1
        (any_one (is_back (Answer ticket denied.0)) (sym (ap (list_any is_back) denied.2) ∙ back)))

-- what happens leaves no call to be handed over, where an answer sends one back
abbrev Leaves : View → List Happening → Type 0
Leaves view more = list_any is_back (says_all view more ++ []) ≡ true → IsAway (after_all view more)

-- with a moment no call is answered, or the connection is given up
pub now_away : (view : View) (moment : ℕ) (outputs : List Output) (after : View)
    → Rule view (record { input = Now moment; outputs = outputs }) after → list_any is_back outputs ≡ true → IsAway after
now_away view moment outputs after rule back =
    let ticked : View = next view (Ticked moment) in
    let now : ℕ = max moment view.moments.now in
    let happened : happenings view (Ticks moment) ≡ Ticked moment ∷ if_open view.standing.state (due view now) =
    ap (λ b. cond b [] (Ticked moment ∷ if_open view.standing.state (due view now))) rule.goes_on in
    let leaves : Leaves ticked (if_open view.standing.state (due view now)) =
    by_open (Leaves ticked) view.standing.state (due view now) (λ e. absurd cc)
    (by_due (Leaves ticked) view now (λ e. inl (λ s. let f : Idle ≡ Connected = s in absurd cc)) (λ e. absurd cc) (λ e. absurd cc)) in
    subst IsAway (sym (rule.next ∙ ap (after_all view) happened))
    (leaves (sym (ap (list_any is_back) (rule.outputs ∙ ap (λ hs. says_all view hs ++ []) happened)) ∙ back))

-- ---- turns, one after the other

silent_first : (ticket : ℕ) (xs ys : List Output) → Silent ticket (xs ++ ys) → Silent ticket xs
silent_first ticket [] ys s = tt
silent_first ticket (x ∷ xs) ys s = (s.0, silent_first ticket xs ys s.1)

silent_rest : (ticket : ℕ) (xs ys : List Output) → Silent ticket (xs ++ ys) → Silent ticket ys
silent_rest ticket [] ys s = s
silent_rest ticket (x ∷ xs) ys s = silent_rest ticket xs ys s.1

module _ {A : Type 0} (entry : Entry A) where
  chain_pending : (turns : List Turn) (view after : View) → FoldsTo Rule view turns after → Silent entry.ticket (outputs_in turns)
      → IsPending view entry → IsPending after entry
  chain_pending [] view after same silent waits = subst (λ v. IsPending v entry) same waits
  chain_pending (turn ∷ turns) view after chain silent waits =
      chain_pending turns chain.0 after chain.2 (silent_rest entry.ticket turn.outputs (outputs_in turns) silent)
      (pending_on entry view turn chain.0 chain.1 (silent_first entry.ticket turn.outputs (outputs_in turns) silent) waits)

  -- as it is given
  abbrev given_by : (first second : List Output) → List Turn → List Output
  given_by first second calls = (first ++ second) ++ outputs_in calls

  pub steps_pending : (now : ℕ) (view : View) (input : Input) (old : List (Subject A)) (after : View) (given : List Output)
      (new : List (Subject A)) → Steps now view input old after given new
      → Silent entry.ticket given → IsPending view entry → IsPending after entry
  steps_pending now view input old after given new steps silent waits =
      let turns : List Turn = record { input = Now now; outputs = steps.first }
      ∷ record { input = input; outputs = steps.second } ∷ steps.calls in
      chain_pending turns view after steps.chain
      (subst (Silent entry.ticket) (steps.said ∙ append_assoc steps.first steps.second (outputs_in steps.calls)) silent) waits

  pub steps_sent : (now : ℕ) (view : View) (ticket : ℕ) (asked : Asked_call) (old : List (Subject A)) (after : View) (given : List Output)
      (new : List (Subject A))
      → Steps now view (Call ticket asked) old after given new → entry.ticket ≡ ticket
      → question_of (call_view entry.call) ≡ question_of asked → Silent entry.ticket given → IsPending after entry
  steps_sent now view ticket asked old after given new steps same is silent =
      let all : Silent entry.ticket (steps.first ++ (steps.second ++ outputs_in steps.calls)) =
      subst (Silent entry.ticket) (steps.said ∙ append_assoc steps.first steps.second (outputs_in steps.calls)) silent in
      let rest = silent_rest entry.ticket steps.first (steps.second ++ outputs_in steps.calls) all in
      let here : Silent ticket steps.second =
      subst (λ t. Silent t steps.second) same (silent_first entry.ticket steps.second (outputs_in steps.calls) rest) in
      let between = steps.chain.2.0 in
      let waits : Waits ticket (question_of asked) between.pending =
      sent_waits steps.chain.0 ticket asked steps.second between steps.chain.2.1 here in
      let its : Waits entry.ticket (question_of (call_view entry.call)) between.pending =
      subst (λ t. Waits t (question_of (call_view entry.call)) between.pending) (sym same)
      (subst (λ q. Waits ticket q between.pending) (sym is) waits) in
      chain_pending steps.calls between after steps.chain.2.2 (silent_rest entry.ticket steps.second (outputs_in steps.calls) rest)
      (is_found entry between.pending its)

either_back : (a b : Bool) → (a || b) ≡ true → (a ≡ true) ⊎ (b ≡ true)
either_back true b e = inl refl
either_back false b e = inr e

read_away : (turn : Turn) (ticket : ℕ) (call : Asked_call) (view after : View)
    → turn.input ≡ Call ticket call → Rule view turn after → IsAway view ⊎ (list_any is_back turn.outputs ≡ true) → IsAway after
read_away turn ticket call view after is rule =
    call_away view ticket call turn.outputs after
    (subst (λ input. Rule view (record { input = input; outputs = turn.outputs }) after) is rule)

reads_away : {A : Type 0} (subjects : List (Subject A)) (calls : List Turn) (view after : View)
    → AreReads subjects calls → FoldsTo Rule view calls after
    → IsAway view ⊎ (list_any is_back (outputs_in calls) ≡ true) → IsAway after
reads_away subjects [] view after reads same (inl away) = subst IsAway same away
reads_away subjects [] view after reads same (inr back) = absurd cc
reads_away {A} subjects (turn ∷ calls) view after reads chain which = reads_away subjects calls chain.0 after reads.1 chain.2 (by which)
  where
    read : IsAway view ⊎ (list_any is_back turn.outputs ≡ true) → IsAway chain.0
    read = read_away turn _ reads.0.4.0 view chain.0 reads.0.4.1 chain.1

    by : IsAway view ⊎ (list_any is_back (turn.outputs ++ outputs_in calls) ≡ true)
        → IsAway chain.0 ⊎ (list_any is_back (outputs_in calls) ≡ true)
    by (inl away) = inl (read (inl away))
    by (inr back) = elim (either_back (list_any is_back turn.outputs) (list_any is_back (outputs_in calls))
        (sym (list_any-append is_back turn.outputs (outputs_in calls)) ∙ back)) [
          | inl here ↦ inl (read (inr here))
          | inr later ↦ inr later
        ]

-- where an answer sends a call back, none can be handed over
pub steps_away : {A : Type 0} (now : ℕ) (view : View) (ticket : ℕ) (asked : Asked_call) (old : List (Subject A)) (after : View)
    (given : List Output) (new : List (Subject A))
    → Steps now view (Call ticket asked) old after given new → list_any is_back given ≡ true → IsAway after
steps_away {A} now view ticket asked old after given new steps back =
    reads_away old steps.calls steps.chain.2.0 after steps.reads steps.chain.2.2
    (by (either_back _ (list_any is_back (outputs_in steps.calls)) all))
  where
    all : (list_any is_back (steps.first ++ steps.second) || list_any is_back (outputs_in steps.calls)) ≡ true
    all = sym (ap (list_any is_back) steps.said ∙ list_any-append is_back (steps.first ++ steps.second) (outputs_in steps.calls)) ∙ back

    called : IsAway steps.chain.0 ⊎ (list_any is_back steps.second ≡ true) → IsAway steps.chain.2.0
    called = call_away steps.chain.0 ticket asked steps.second steps.chain.2.0 steps.chain.2.1

    by : (list_any is_back (steps.first ++ steps.second) ≡ true) ⊎ (list_any is_back (outputs_in steps.calls) ≡ true)
        → IsAway steps.chain.2.0 ⊎ (list_any is_back (outputs_in steps.calls) ≡ true)
    by (inr later) = inr later
    by (inl sooner) =
        elim (either_back (list_any is_back steps.first) (list_any is_back steps.second)
        (sym (list_any-append is_back steps.first steps.second) ∙ sooner)) [
          | inl first ↦ inl (called (inl (now_away view now steps.first steps.chain.0 steps.chain.1 first)))
          | inr second ↦ inl (called (inr second))
        ]

-- with the end of a connection no call can be handed over
cut_turn : (view : View) (outputs : List Output) (after : View)
    → Rule view (record { input = Cut; outputs = outputs }) after → after.standing.state ≢ Connected
cut_turn view outputs after rule =
    let happened : happenings view Cuts ≡ if_open view.standing.state (Lost ∷ []) =
    ap (λ b. cond b [] (if_open view.standing.state (Lost ∷ []))) rule.goes_on in
    subst (λ (v : View). v.standing.state ≢ Connected) (sym (rule.next ∙ ap (after_all view) happened)) (by view.standing.state refl)
  where
    by : (state : State) → view.standing.state ≡ state → (after_all view (if_open state (Lost ∷ []))).standing.state ≢ Connected
    by Idle is = λ there. let f : Idle ≡ Connected = sym is ∙ there in cc
    by Connecting is = λ there. let f : Idle ≡ Connected = there in cc
    by Connected is = λ there. let f : Idle ≡ Connected = there in cc
    by Expired is = λ there. let f : Expired ≡ Connected = sym is ∙ there in cc
    by Closed is = λ there. let f : Closed ≡ Connected = sym is ∙ there in cc

pub cut_away : {A : Type 0} (now : ℕ) (view : View) (old : List (Subject A)) (after : View) (given : List Output) (new : List (Subject A))
    → Steps now view Cut old after given new → IsAway after
cut_away now view old after given new steps =
    reads_away old steps.calls steps.chain.2.0 after steps.reads steps.chain.2.2
    (inl (inl (cut_turn steps.chain.0 steps.second steps.chain.2.0 steps.chain.2.1)))
