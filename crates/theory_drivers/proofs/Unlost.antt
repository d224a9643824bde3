-- A turn that brings no bytes brings no reply: so no server says by it that the session is not its own.
use Rattle.std.proofs.Common.{◌≡◌, ◌++◌, ◌∙◌, ℕ, pos, Bool, true, false, cond, ◌||◌, List, [], ◌∷◌, length, Option, Some, None, ap, refl}
use Rattle.std.specs.Prelude.{⊤, max, nat_le, nat_lt}
use Rattle.std.specs.List.{flat_map, list_any, AllByRecursion}
use Rattle.std.proofs.lemmas.List.Folds.{list_any-append}
use Rattle.zk_limits.specs.declared.limits.TheConstants.{MOST_PENDING}
use Rattle.zk_session.specs.declared.states.State.{State}
use Rattle.zk_session.specs.declared.states.State.TheVariants.{Idle, Connecting, Connected, Expired, Closed}
use Rattle.zk_conversation.specs.Calls.{Call, call_payload}
use Rattle.zk_conversation.specs.Questions.{question_of, watched_side}
use Rattle.zk_conversation.specs.Pending.{Pending, Waiting, Part_waits, Call_waits, calls_pending, is_close_pending}
use Rattle.zk_turns.specs.Turns.{Output, Answer, Enters, Input, Bytes, Cut, Now, Outcome, Replied, SessionExpired, SessionClosed}
use Rattle.zk_turns.specs.Turns.{NotConnected, TooManyWatches, TooLarge, TooManyPending, Call as Calling, Opened as Opening, Signal, Opens}
use Rattle.zk_turns.specs.Turns.{Comes, Cuts, Ticks, Calls, Forget, Halt, signals_of, ends_connection}
use Rattle.zk_turns.specs.View.{View}
use Rattle.zk_turns.specs.Past.{Happening, Began, Took, Dropped, Lost, Asked, Denied, Pinged, Ticked, Came, Forgot, Halted}
use Rattle.zk_turns.specs.Taken.{caused, happenings, opens, refusal, refusal_when_connected, is_full_on}
use Rattle.zk_turns.specs.Rule.{next, says, says_all, after_all, says_signals, loss, losses, Rule}
use Rattle.zk_turns.proofs.Cases.{by_cond, by_open, by_due}
use Rattle.zk_turns.proofs.Words.{calls}
use Rattle.theory_serving.specs.Shown.{EndsNothing}
use Rattle.zk_agent.specs.Replies.{is_lost, is_over}

abbrev IsOwn : Outcome → Type 0
IsOwn (Replied zxid result) = ⊥
IsOwn outcome = ⊤

abbrev OfWhy : Option Outcome → Type 0
OfWhy None = ⊤
OfWhy (Some why) = IsOwn why

of_connected : (view : View) (call : Call) → OfWhy (refusal_when_connected view call)
of_connected view call =
    let large : Option Outcome = cond (nat_lt view.limits.outgoing (length (call_payload (pos view.xid) call))) (Some TooLarge) None in
    let watches : Option Outcome = cond (is_full_on view (watched_side (question_of call))) (Some TooManyWatches) large in
    let pending : Option Outcome = cond (nat_le MOST_PENDING (calls_pending view.pending)) (Some TooManyPending) watches in
    by_cond OfWhy (is_close_pending view.pending) (Some SessionClosed) pending tt
    (by_cond OfWhy (nat_le MOST_PENDING (calls_pending view.pending)) (Some TooManyPending) watches tt
    (by_cond OfWhy (is_full_on view (watched_side (question_of call))) (Some TooManyWatches) large tt
    (by_cond OfWhy (nat_lt view.limits.outgoing (length (call_payload (pos view.xid) call))) (Some TooLarge) None tt tt)))

of_refusal : (view : View) (call : Call) → OfWhy (refusal view call)
of_refusal view call = by view.standing.state
  where
    by : (state : State) → OfWhy (elim state [
      | Connected ↦ refusal_when_connected view call
      | Expired ↦ Some SessionExpired
      | Closed ↦
          Some SessionClosed
      | _ ↦ Some NotConnected
    ])
    by Connected = of_connected view call
    by Idle = tt
    by Connecting = tt
    by Expired = tt
    by Closed = tt

-- what brings no reply
abbrev IsUnlost : Happening → Type 0
IsUnlost (Took message) = ⊥
IsUnlost (Denied ticket why) = IsOwn why
IsUnlost happening = ⊤

abbrev AreUnlost : List Happening → Type 0
AreUnlost happened = AllByRecursion IsUnlost happened

call_unlost : (ticket : ℕ) (call : Call) (why : Option Outcome) → OfWhy why → AreUnlost (calls ticket call why)
call_unlost ticket call None of = (tt, tt)
call_unlost ticket call (Some why) of = (of, tt)

opens_unlost : (state : State) → AreUnlost (opens state)
opens_unlost Idle = (tt, tt)
opens_unlost Connecting = (tt, (tt, tt))
opens_unlost Connected = (tt, (tt, tt))
opens_unlost _ = tt

-- a signal that brings no bytes
abbrev IsMute : Signal → Type 0
IsMute (Comes byte) = ⊥
IsMute signal = ⊤

caused_unlost : (view : View) (signal : Signal) → IsMute signal → AreUnlost (caused view signal)
caused_unlost view Opens mute = opens_unlost view.standing.state
caused_unlost view (Comes byte) mute = absurd mute
caused_unlost view Cuts mute = by_open AreUnlost view.standing.state (Lost ∷ []) tt (tt, tt)
caused_unlost view (Ticks moment) mute =
    (tt, by_open AreUnlost view.standing.state _ tt (by_due AreUnlost view (max moment view.moments.now) (tt, tt) (tt, tt) tt))
caused_unlost view (Calls ticket call) mute = call_unlost ticket call (refusal view call) (of_refusal view call)
caused_unlost view Forget mute = (tt, tt)
caused_unlost view Halt mute = (tt, tt)

happened_unlost : (view : View) (signal : Signal) → IsMute signal → AreUnlost (happenings view signal)
happened_unlost view Forget mute = (tt, tt)
happened_unlost view Halt mute = (tt, tt)
happened_unlost view (Comes byte) mute = absurd mute
happened_unlost view Opens mute = by_cond AreUnlost view.standing.halted [] (caused view Opens) tt (caused_unlost view Opens mute)
happened_unlost view Cuts mute = by_cond AreUnlost view.standing.halted [] (caused view Cuts) tt (caused_unlost view Cuts mute)
happened_unlost view (Ticks moment) mute =
    by_cond AreUnlost view.standing.halted [] (caused view (Ticks moment)) tt (caused_unlost view (Ticks moment) mute)
happened_unlost view (Calls ticket call) mute =
    by_cond AreUnlost view.standing.halted [] (caused view (Calls ticket call)) tt (caused_unlost view (Calls ticket call) mute)

pub any_both : (test : Output → Bool) (first second : List Output)
    → list_any test first ≡ false → list_any test second ≡ false → list_any test (first ++ second) ≡ false
any_both test first second a b = list_any-append test first second ∙ ap (λ c. c || list_any test second) a ∙ b

loss_unlost : (pending : Pending) → list_any is_lost (loss pending) ≡ false
loss_unlost pending = by pending.waiting
  where
    by : (waiting : Waiting) → list_any is_lost (loss (record { xid = pending.xid; waiting = waiting })) ≡ false
    by (Part_waits last) = refl
    by (Call_waits ticket question) = refl

all_loss : (pendings : List Pending) → list_any is_lost (flat_map loss pendings) ≡ false
all_loss [] = refl
all_loss (pending ∷ more) = any_both is_lost (loss pending) (flat_map loss more) (loss_unlost pending) (all_loss more)

losses_unlost : (view : View) → list_any is_lost (losses view) ≡ false
losses_unlost view = any_both is_lost (flat_map loss view.pending) (Enters Idle ∷ []) (all_loss view.pending) refl

denied_unlost : (ticket : ℕ) (why : Outcome) → IsOwn why → list_any is_lost (Answer ticket why ∷ []) ≡ false
denied_unlost ticket (Replied zxid result) own = absurd own
denied_unlost ticket _ own = refl

says_unlost : (view : View) (happening : Happening) → IsUnlost happening → list_any is_lost (says view happening) ≡ false
says_unlost view (Took message) unlost = absurd unlost
says_unlost view (Denied ticket why) unlost = denied_unlost ticket why unlost
says_unlost view (Dropped fault) unlost = losses_unlost view
says_unlost view Lost unlost = losses_unlost view
says_unlost view Began unlost = refl
says_unlost view (Asked ticket call) unlost = refl
says_unlost view Pinged unlost = refl
says_unlost view (Came byte) unlost = refl
says_unlost view (Ticked moment) unlost = refl
says_unlost view Forgot unlost = refl
says_unlost view Halted unlost = refl

all_unlost : (happened : List Happening) (view : View) → AreUnlost happened → list_any is_lost (says_all view happened) ≡ false
all_unlost [] view unlost = refl
all_unlost (happening ∷ more) view unlost =
    any_both is_lost (says view happening) (says_all (next view happening) more) (says_unlost view happening unlost.0)
    (all_unlost more (next view happening) unlost.1)

signals_unlost : (signals : List Signal) (view : View)
    → AllByRecursion IsMute signals → list_any is_lost (says_signals view signals) ≡ false
signals_unlost [] view mute = refl
signals_unlost (signal ∷ more) view mute =
    let then_view : View = after_all view (happenings view signal) in
    any_both is_lost (says_all view (happenings view signal)) (says_signals then_view more)
    (all_unlost (happenings view signal) view (happened_unlost view signal mute.0))
    (signals_unlost more then_view mute.1)

-- an input without bytes
abbrev pub IsMuteInput : Input → Type 0
IsMuteInput (Bytes bytes) = ⊥
IsMuteInput input = ⊤

mute_all : (input : Input) → IsMuteInput input → AllByRecursion IsMute (signals_of input)
mute_all Opening mute = (tt, tt)
mute_all (Bytes bytes) mute = absurd mute
mute_all Cut mute = (tt, tt)
mute_all (Now moment) mute = (tt, tt)
mute_all (Calling ticket asked) mute = (tt, tt)

pub turn_unlost : (view after : View) (input : Input) (outputs : List Output)
    → Rule view (record { input = input; outputs = outputs }) after → IsMuteInput input → list_any is_lost outputs ≡ false
turn_unlost view after input outputs rule mute =
    ap (list_any is_lost) rule.outputs ∙ signals_unlost (signals_of input) view (mute_all input mute)

-- where nothing is lost, and nothing is ended, no connection is over
pub none_over : (outputs : List Output) → EndsNothing outputs → list_any is_lost outputs ≡ false → list_any is_over outputs ≡ false
none_over [] ends unlost = refl
none_over (output ∷ outputs) ends unlost =
    by (ends_connection output) ends.0 (is_lost output) unlost (λ rest. none_over outputs ends.1 rest)
  where
    by : (e : Bool) → e ≡ false → (l : Bool)
        → (l || list_any is_lost outputs) ≡ false → (list_any is_lost outputs ≡ false → list_any is_over outputs ≡ false)
        → ((e || l) || list_any is_over outputs) ≡ false
    by true is l un then_rest = let f : true ≡ false = is in cc
    by false is true un then_rest = let f : true ≡ false = un in cc
    by false is false un then_rest = then_rest un
