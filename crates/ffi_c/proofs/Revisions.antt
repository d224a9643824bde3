-- The same number, use by use: without bytes nothing good changes unless another state is told, or another session, and each step by which
-- one does raises the number. So where the number is the same nothing good has changed.
use Rattle.std.proofs.Common.{◌≡◌, ◌≤◌, ◌<◌, ◌-◌, ◌^◌, ◌||◌, ℕ, zero, suc, ℤ, pos, negsuc, Bool, true, false, cond, List, [], ◌∷◌, ◌++◌}
use Rattle.std.proofs.Common.{Option, Some, None, nat_lt, length, map, refl, sym, ap, subst, ◌∙◌, arith}
use Rattle.std.proofs.lemmas.List.{map-append}
use Rattle.std.proofs.lemmas.List.Folds.{list_any-append}
use Rattle.std.specs.Prelude.{nat_le}
use Rattle.std.specs.List.{filter, flat_map, list_any, AllByRecursion, FoldsTo}
use Rattle.std.specs.declared.alloc.Global.{Global}
use Rattle.zk_conversation.specs.Calls.{Call, call_payload}
use Rattle.zk_conversation.specs.Pending.{Pending, Waiting, Part_waits, Call_waits, calls_pending, is_close_pending}
use Rattle.zk_conversation.specs.Questions.{question_of, watched_side}
use Rattle.zk_limits.specs.declared.limits.TheConstants.{MOST_PENDING}
use Rattle.zk_session.specs.declared.states.State.{State}
use Rattle.zk_session.specs.declared.states.State.TheVariants.{Idle, Connecting, Connected, Expired, Closed}
use Rattle.zk_turns.specs.Turns.{Input, Bytes, Now, Outcome, Replied, ConnectionLoss, Output, Send, Answer, Report, Enters, Drop, Start}
use Rattle.zk_turns.specs.Turns.{Item, Turn, Turned, Signal, Opens, Comes, Cuts, Ticks, Calls, Forget, Halt, signals_of}
use Rattle.zk_turns.specs.Turns.{SessionClosed, TooManyPending, TooManyWatches, TooLarge}
use Rattle.zk_turns.specs.Turns as turns
use Rattle.zk_turns.specs.Past.{Happening, Began, Came, Took, Dropped, Lost, Asked, Denied, Pinged, Ticked, Forgot, Halted}
use Rattle.zk_turns.specs.View.{View}
use Rattle.zk_turns.specs.Taken.{caused, due, happenings, is_full_on, opens, refusal}
use Rattle.zk_turns.specs.Rule.{Rule, Stands, after_all, loss, losses, next, says, says_all, says_signals}
use Rattle.zk_turns.proofs.Cases.{by_cond, by_due, by_open}
use Rattle.zk_turns.proofs.Stepped.{one_turn}
use Rattle.zk_turns.proofs.Words.{calls, refusal_in}
use Rattle.zk_client.specs.Clients.{renewed_start, view_of}
use Rattle.zk_conclusions.specs.declared.revision.Revision.{Revision}
use Rattle.zk_conclusions.specs.Revisions.{has_change, is_change, raised, IsUnchanged}
use Rattle.zk_conclusions.proofs.Quiet.{or_parts, quiet_is_unchanged}
use Rattle.zk_conclusions.proofs.Revised.{raised_least, raised_more}
use Rattle.zk_dialler.specs.declared.dialler.Dialler.{Dialler}
use Rattle.zk_dialler.specs.declared.dialler.Phase.{Phase}
use Rattle.zk_dialler.specs.declared.dialler.Phase.TheVariants.{Dialling}
use Rattle.zk_follow.specs.Following.{doubted, news_in, outputs_in}
use Rattle.zk_calls.specs.declared.entry.Entry.{Entry}
use Rattle.zk_calls.specs.declared.entry.Ending.TheVariants as ending
use Rattle.zk_agent.specs.declared.action.Action.{Action}
use Rattle.zk_agent.specs.declared.agent.Agent.{Agent}
use Rattle.zk_agent.specs.declared.input.AgentInput.{AgentInput}
use Rattle.zk_agent.specs.declared.input.AgentInput.TheVariants as happens
use Rattle.zk_agent.specs.Agents.{Trail, Move, Hears, Hands, Renews, Follows, Unfollows, Asks, GivesUp, LeavesLate, Opened, Ended, HungUp}
use Rattle.zk_agent.specs.Agents.{Closes, Addressed, Decides, Tends, Presents, Does, HearsSo, IsLed, LeavesWhere, LetsGoWhere, given_of}
use Rattle.zk_agent.specs.Agents.{rises, DoubtsWhere}
use Rattle.zk_agent.specs.Agents.{is_given, leaves_with, left_at, moves_of, opened_at, trail_of}
use Rattle.zk_agent.specs.Calls.{endings, handed, hears, tells, tells_all}
use Rattle.zk_agent.specs.Overlong.{too_long_in, with_too_long}
use Rattle.zk_agent.specs.Telling.{Told, Says, HangsUp, Begins, Introduces, TellsTree, action_view, due_told, judged_told, news_told}
use Rattle.zk_agent.specs.Telling.{told_by}
use Rattle.zk_agent.proofs.Oversized.{ahead}
use Rattle.ffi_device.specs.Chains.{Part, TookAll}
use Rattle.ffi_device.specs.Happenings.{Happening as What, happening, is_bytes}
use Rattle.ffi_device.specs.Revisions.{is_another}
use Rattle.ffi_device.specs.Taking.{AgentTook}
use Rattle.ffi_device.specs.Steps as step
use Rattle.ffi_device.specs.Steps.{Stepped}
use Rattle.ffi_device.specs.declared.device.Device.{Device}
use Rattle.ffi_c.specs.Held.{ForgetsStale, Tells, TellsAll}
use Rattle.ffi_c.specs.Lives.{Use, Opens as Opens_one, Resumes, Steps, Reads, ReadsAll, Forgets, Looks, Frees, Does as Uses_so, Used}
use Rattle.ffi_c.specs.Lives.{held_after, IsLife, GoesOn, AllGoOn, RefusesHappening, SameForLife}
use Rattle.ffi_c.specs.Pasts.{IsRead, with_turns}
use Rattle.ffi_c.proofs.Chains.{all_no_bytes, another_but}
use Rattle.ffi_c.proofs.Lives.{empty_holds_none, fresh, in_held}
use Rattle.ffi_c.proofs.Pasts.{stands_in}
use Rattle.ffi_c.proofs.Turned.{add_turns, forget_stands, heard_said, heard_turns, reads_are}

-- ---- unchanged

itself : (view : View) → IsUnchanged view view
itself view = record { good = record { nodes = λ path. refl; children = λ path. refl }; standing = refl; session = refl }

through : (view between after : View) → IsUnchanged view between → IsUnchanged between after → IsUnchanged view after
through view between after a b = record {
  good = record { nodes = λ path. a.good.nodes path ∙ b.good.nodes path; children = λ path. a.good.children path ∙ b.good.children path };
  standing = b.standing ∙ a.standing;
  session = b.session ∙ a.session;
}

all_both : {X : Type 0} (P : X → Type 0) (xs ys : List X) → AllByRecursion P xs → AllByRecursion P ys → AllByRecursion P (xs ++ ys)
all_both P [] ys first second = second
all_both P (x ∷ xs) ys first second = (first.0, all_both P xs ys first.1 second)

-- ---- what a client says without bytes

abbrev is_state : Output → Bool
is_state (Enters state) = true
is_state _ = false

-- where it is no other state, nothing good changes with it
abbrev Plain : Output → Type 0
Plain output = is_state output ≡ false → is_change output ≡ false

plain_quiet : (outputs : List Output) → AllByRecursion Plain outputs → list_any is_state outputs ≡ false → has_change outputs ≡ false
plain_quiet [] plain e = refl
plain_quiet (output ∷ outputs) plain e =
    let parts = or_parts (is_state output) (list_any is_state outputs) e in
    ap (λ b. b || has_change outputs) (plain.0 parts.0) ∙ plain_quiet outputs plain.1 parts.1

loss_plain : (pending : Pending) → AllByRecursion Plain (loss pending)
loss_plain pending = by pending.waiting
  where
    by : (waiting : Waiting)
        → AllByRecursion Plain (elim waiting [ Part_waits last ↦ [] | Call_waits ticket question ↦ Answer ticket ConnectionLoss ∷ [] ])
    by (Part_waits last) = tt
    by (Call_waits ticket question) = (λ e. refl, tt)

all_lost : (pending : List Pending) → AllByRecursion Plain (flat_map loss pending)
all_lost [] = tt
all_lost (one ∷ pending) = all_both Plain (loss one) (flat_map loss pending) (loss_plain one) (all_lost pending)

losses_plain : (view : View) → AllByRecursion Plain (losses view)
losses_plain view = all_both Plain (flat_map loss view.pending) (Enters Idle ∷ []) (all_lost view.pending) (λ e. e, tt)

-- a refusal is no reply
abbrev IsNoReply : Outcome → Type 0
IsNoReply (Replied zxid result) = ⊥
IsNoReply _ = Unit {0}

-- a happening with which no message is taken
abbrev IsOwn : Happening → Type 0
IsOwn (Took message) = ⊥
IsOwn (Denied ticket why) = IsNoReply why
IsOwn _ = Unit {0}

denied_plain : (ticket : ℕ) (why : Outcome) → IsNoReply why → Plain (Answer ticket why)
denied_plain ticket (Replied zxid result) own = absurd own
denied_plain ticket _ own = λ e. refl

says_plain : (view : View) (happening : Happening) → IsOwn happening → AllByRecursion Plain (says view happening)
says_plain view Began own = (λ e. refl, (λ e. e, tt))
says_plain view (Took message) own = absurd own
says_plain view (Dropped fault) own = (λ e. refl, losses_plain view)
says_plain view Lost own = losses_plain view
says_plain view (Asked ticket call) own = (λ e. refl, tt)
says_plain view (Denied ticket why) own = (denied_plain ticket why own, tt)
says_plain view Pinged own = (λ e. refl, tt)
says_plain view (Came byte) own = tt
says_plain view (Ticked moment) own = tt
says_plain view Forgot own = tt
says_plain view Halted own = tt

all_plain : (more : List Happening) (view : View) → AllByRecursion IsOwn more → AllByRecursion Plain (says_all view more)
all_plain [] view own = tt
all_plain (one ∷ more) view own =
    all_both Plain (says view one) (says_all (next view one) more) (says_plain view one own.0) (all_plain more (next view one) own.1)

-- ---- signals that are no bytes

abbrev AreOwn : List Happening → Type 0
AreOwn more = AllByRecursion IsOwn more

opens_own : (state : State) → AreOwn (opens state)
opens_own Idle = (tt, tt)
opens_own Connecting = (tt, (tt, tt))
opens_own Connected = (tt, (tt, tt))
opens_own _ = tt

abbrev IsDenial : Option Outcome → Type 0
IsDenial None = Unit {0}
IsDenial (Some why) = IsNoReply why

denies_of : (a b c d : Bool)
    → IsDenial (cond a (Some SessionClosed) (cond b (Some TooManyPending) (cond c (Some TooManyWatches) (cond d (Some TooLarge) None))))
denies_of true b c d = tt
denies_of false true c d = tt
denies_of false false true d = tt
denies_of false false false true = tt
denies_of false false false false = tt

denies : (state : State) (view : View) (call : Call) → IsDenial (refusal_in state view call)
denies Connected view call =
    denies_of (is_close_pending view.pending) (nat_le MOST_PENDING (calls_pending view.pending))
    (is_full_on view (watched_side (question_of call))) (nat_lt view.limits.outgoing (length (call_payload (pos view.xid) call)))
denies Expired view call = tt
denies Closed view call = tt
denies Idle view call = tt
denies Connecting view call = tt

calls_own : (ticket : ℕ) (call : Call) (why : Option Outcome) → IsDenial why → AreOwn (calls ticket call why)
calls_own ticket call None own = (tt, tt)
calls_own ticket call (Some why) own = (own, tt)

abbrev IsNoByte : Signal → Type 0
IsNoByte (Comes byte) = ⊥
IsNoByte _ = Unit {0}

caused_own : (view : View) (signal : Signal) → IsNoByte signal → AreOwn (caused view signal)
caused_own view Opens own = opens_own view.standing.state
caused_own view (Comes byte) own = absurd own
caused_own view Cuts own = by_open AreOwn view.standing.state (Lost ∷ []) tt (tt, tt)
caused_own view (Ticks moment) own = (tt, by_open AreOwn view.standing.state _ tt (by_due AreOwn view _ (tt, tt) (tt, tt) tt))
caused_own view (Calls ticket call) own = calls_own ticket call (refusal view call) (denies view.standing.state view call)
caused_own view Forget own = (tt, tt)
caused_own view Halt own = (tt, tt)

happens_own : (view : View) (signal : Signal) → IsNoByte signal → AreOwn (happenings view signal)
happens_own view Forget own = (tt, tt)
happens_own view Halt own = (tt, tt)
happens_own view signal own = by_cond AreOwn view.standing.halted [] (caused view signal) tt (caused_own view signal own)

signals_plain : (more : List Signal) (view : View) → AllByRecursion IsNoByte more → AllByRecursion Plain (says_signals view more)
signals_plain [] view own = tt
signals_plain (signal ∷ more) view own =
    let now = happenings view signal in
    all_both Plain (says_all view now) (says_signals (after_all view now) more) (all_plain now view (happens_own view signal own.0))
    (signals_plain more (after_all view now) own.1)

abbrev IsNoBytes : Input → Type 0
IsNoBytes (Bytes bytes) = ⊥
IsNoBytes _ = Unit {0}

input_own : (input : Input) → IsNoBytes input → AllByRecursion IsNoByte (signals_of input)
input_own turns.Opened own = (tt, tt)
input_own turns.Cut own = (tt, tt)
input_own (Bytes bytes) own = absurd own
input_own (Now moment) own = (tt, tt)
input_own (turns.Call ticket call) own = (tt, tt)

-- ---- turns

abbrev HasNone : Turn → Type 0
HasNone turn = IsNoBytes turn.input

turn_quiet : (view after : View) (turn : Turn) → Rule view turn after → HasNone turn
    → list_any is_state turn.outputs ≡ false → has_change turn.outputs ≡ false
turn_quiet view after turn rule own e =
    plain_quiet turn.outputs
    (subst (AllByRecursion Plain) (sym rule.outputs) (signals_plain (signals_of turn.input) view (input_own turn.input own))) e

turns_quiet : (made : List Turn) (start : Start) (items : List Item) (old new : View) → FoldsTo Rule old made new → Stands start items old
    → AllByRecursion HasNone made → list_any is_state (outputs_in made) ≡ false → IsUnchanged old new
turns_quiet [] start items old new same stands own e = subst (IsUnchanged old) same (itself old)
turns_quiet (turn ∷ made) start items old new chain stands own e =
    let parts = or_parts (list_any is_state turn.outputs) (list_any is_state (outputs_in made))
    (sym (list_any-append is_state turn.outputs (outputs_in made)) ∙ e) in
    let stood = one_turn start items old chain.0 turn stands chain.1 in
    let first = quiet_is_unchanged start (Turned turn ∷ []) items old chain.0 stands stood
    (turn_quiet old chain.0 turn chain.1 own.0 parts.0, tt) in
    through old chain.0 new first (turns_quiet made start (Turned turn ∷ items) chain.0 new chain.2 stood own.1 parts.1)

reads_own : (reads : List Turn) → AllByRecursion IsRead reads → AllByRecursion HasNone reads
reads_own [] are = tt
reads_own (turn ∷ reads) are = (subst IsNoBytes (sym are.0.5) tt, reads_own reads are.1)

-- ---- what is told

abbrev is_told : List Told → Bool
is_told told = list_any is_another told

parted : (first second : List Told) → is_told (first ++ second) ≡ false → (is_told first ≡ false) × (is_told second ≡ false)
parted first second e = or_parts (is_told first) (is_told second) (sym (list_any-append is_another first second) ∙ e)

state_told : {A : Type 0} (line : List (Entry A)) (output : Output) → is_told (tells line output) ≡ false → is_state output ≡ false
state_told line (Enters state) e = (parted (endings ending.Lost line) (Says (Enters state) ∷ []) e).1
state_told line (Answer ticket outcome) e = refl
state_told line (Send bytes) e = refl
state_told line (Report path side event) e = refl
state_told line (Drop fault) e = refl

states_told : {A : Type 0} (line : List (Entry A)) (given : List Output)
    → is_told (tells_all line given) ≡ false → list_any is_state given ≡ false
states_told line [] e = refl
states_told line (output ∷ given) e =
    let parts = parted (tells line output) (tells_all (hears line output) given) e in
    ap (λ b. b || list_any is_state given) (state_told line output parts.0) ∙ states_told (hears line output) given parts.1

-- no state stands ahead of what the client says
states_ahead : {A : Type 0} (line : List (Entry A)) (given : List Output)
    → list_any is_state (with_too_long line given) ≡ list_any is_state given
states_ahead line given =
    ahead (λ first. list_any is_state (first ++ given) ≡ list_any is_state given) refl (λ ticket. refl) line (too_long_in given)

let_go_told : {A : Type 0} (is_there : Bool) (timeout now : ℕ) (old new : Dialler A) (before after : List Told)
    → LetsGoWhere is_there timeout now old new before after → is_told after ≡ false → is_told before ≡ false
let_go_told true timeout now old new before after goes e = (parted before (HangsUp ∷ []) (sym (ap is_told goes.1) ∙ e)).0
let_go_told false timeout now old new before after goes e = sym (ap is_told goes.1) ∙ e

-- ---- moves

-- A move leads on, and where it tells no other state and no other session, nothing good has changed.
record Calm {A : Type 0} (old new : Trail A) : Type 0 where
  led : IsLed new.view
  calm : is_told new.told ≡ false → (is_told old.told ≡ false) × IsUnchanged old.view new.view

joined : {A : Type 0} (old between new : Trail A) → Calm old between → Calm between new → Calm old new
joined old between new first second = record {
  led = second.led;
  calm = λ e. let late = second.calm e in let early = first.calm late.0 in
      (early.0, through old.view between.view new.view early.1 late.1);
}

stays : {A : Type 0} (old new like : Trail A) → new ≡ like → like.view ≡ old.view → (is_told like.told ≡ false → is_told old.told ≡ false)
    → IsLed old.view → Calm old new
stays old new like is view silent led = record {
  led = subst IsLed (sym (ap (λ (t : Trail _). t.view) is ∙ view)) led;
  calm = λ e. (
    silent (sym (ap (λ (t : Trail _). is_told t.told) is) ∙ e),
    subst (IsUnchanged old.view) (sym (ap (λ (t : Trail _). t.view) is ∙ view)) (itself old.view),
  );
}

heard : {A : Type 0} (now : ℕ) (input : Input) (old new : Trail A)
    → HearsSo now input old new → IsNoBytes input → IsLed old.view → Calm old new
heard now input old new does own led = record {
  led = (
    led.0,
    with_turns (heard_turns now input old new does) led.1,
    add_turns (heard_turns now input old new does) led.0 led.1 old.view new.view does.takes.steps.chain led.2,
  );
  calm = λ e.
      let line = handed input old.line in
      let given = does.takes.given in
      let news = map news_told (flat_map (news_in new.view given) does.takes.stepped) in
      let all = let_go_told _ _ now _ new.dialler does.told new.told does.lets_go e in
      let told = parted (old.told ++ tells_all line (with_too_long line given)) news (sym (ap is_told does.takes.told) ∙ all) in
      let parts = parted old.told (tells_all line (with_too_long line given)) told.0 in
      let reads = reads_own does.takes.steps.calls (reads_are old.subjects does.takes.steps.calls does.takes.steps.reads) in (
        parts.0,
        turns_quiet (heard_turns now input old new does) led.0 led.1 old.view new.view does.takes.steps.chain led.2 (tt, (own, reads))
            (ap (list_any is_state) (heard_said now input old new does) ∙ sym (states_ahead line given)
            ∙ states_told line (with_too_long line given) parts.1),
      );
}

left : {A : Type 0} (is_lost : Bool) (now : ℕ) (old between new : Trail A)
    → LeavesWhere is_lost now between new → Calm old between → Calm old new
left true now old between new does first = joined old between new first (heard now turns.Cut between new does tt first.led)
left {A} false now old between new same first = subst (λ (t : Trail A). Calm old t) (sym same) first

anew : {A : Type 0} (is_risen : Bool) (now : ℕ) (old after new : Trail A)
    → DoubtsWhere is_risen now after new → Calm old after → Calm old new
anew true now old after new does first =
    let again = record after { subjects = map doubted after.subjects } in
    let calm : Calm old again = record { led = first.led; calm = first.calm } in
    joined old again new calm (heard now (turns.Now now) again new does tt first.led)
anew {A} false now old after new same first = subst (λ (t : Trail A). Calm old t) (sym same) first

renewed : {A : Type 0} (old new : Trail A) → Does old Renews new → Calm old new
renewed old new does = record {
  led = (
    renewed_start old.timeout old.view,
    [],
    subst (Stands (renewed_start old.timeout old.view) []) (sym does.view) (fresh (renewed_start old.timeout old.view)),
  );
  calm = λ e.
      let last : true ≡ false = (parted (old.told ++ endings ending.Expired old.line) (Begins ∷ []) (sym (ap is_told does.told) ∙ e)).1 in
      absurd cc;
}

abbrev IsNoHearing : Move → Type 0
IsNoHearing (Hears now input) = IsNoBytes input
IsNoHearing _ = Unit {0}

leaves_late : {A : Type 0} (now : ℕ) (old new : Trail A) → Does old (LeavesLate now) new → IsLed old.view → Calm old new
leaves_late now old new does led =
    let hung = stays old does.between _ does.hangs refl (λ e. (parted old.told (HangsUp ∷ []) e).0) led in
    let cut = heard now turns.Cut does.between does.after does.hears tt hung.led in
    joined old does.after new (joined old does.between does.after hung cut) (stays does.after new _ does.last refl (λ e. e) cut.led)

moved : {A : Type 0} (move : Move) (old new : Trail A) → Does old move new → IsNoHearing move → IsLed old.view → Calm old new
moved (Hears now input) old new does own led =
    anew (rises old.view.saved.last does.after.view.saved.last) now old does.after new does.doubts
    (left does.hears.heard.is_lost now old does.between does.after does.leaves (heard now input old does.between does.hears own led))
moved (Hands now ticket asked) old new does own led = heard now (turns.Call ticket asked) old new does tt led
moved Renews old new does own led = renewed old new does
moved (LeavesLate now) old new does own led = leaves_late now old new does led
moved (Follows ticket side path) old new does own led = stays old new _ does refl (λ e. e) led
moved (Unfollows ticket) old new does own led = stays old new _ does refl (λ e. e) led
moved (Asks ticket asked until) old new does own led = stays old new _ does.last refl (λ e. e) led
moved (GivesUp now) old new does own led = stays old new _ does refl (λ e. (parted old.told _ e).0) led
moved (Opened now) old new does own led = stays old new _ does.1 refl (λ e. e) led
moved (Ended now) old new does own led = stays old new _ does.1 refl (λ e. e) led
moved HungUp old new does own led = stays old new _ does refl (λ e. (parted old.told (HangsUp ∷ []) e).0) led
moved (Addressed kept added is_listed) old new does own led = stays old new _ does.1 refl (λ e. e) led
moved (Decides now due) old new does own led = stays old new _ does.last refl (λ e. (parted old.told (due_told due) e).0) led
moved Closes old new does own led = stays old new _ does.last refl (λ e. (parted old.told _ e).0) led
moved (Tends one) old new does own led = stays old new _ does refl (λ e. (parted old.told (TellsTree one ∷ []) e).0) led
moved (Presents judged frames) old new does own led =
    stays old new _ does refl
    (λ e. (parted old.told (map judged_told judged) (parted (old.told ++ map judged_told judged) (map Introduces frames) e).0).0) led

moves : {A : Type 0} (more : List Move) (old new : Trail A)
    → FoldsTo Does old more new → AllByRecursion IsNoHearing more → IsLed old.view → Calm old new
moves {A} [] old new same own led = subst (λ (t : Trail A). Calm old t) same (record { led = led; calm = λ e. (e, itself old.view) })
moves (move ∷ more) old new chain own led =
    let first = moved move old chain.0 chain.1 own.0 led in
    joined old chain.0 new first (moves more chain.0 new chain.2 own.1 first.led)

-- ---- moves of an input that is no bytes

opened_own : (phase : Phase) (now : ℕ) → AllByRecursion IsNoHearing (opened_at phase now)
opened_own (Dialling began until) now = (tt, (tt, tt))
opened_own _ now = (tt, (tt, (tt, tt)))

left_own : (leaves : Bool) (now : ℕ) → AllByRecursion IsNoHearing (left_at leaves now)
left_own true now = (tt, (tt, (tt, tt)))
left_own false now = (tt, tt)

given_own : (dialler : Dialler Global) (now : ℕ) (given : AgentInput Global) → is_bytes (happening given) ≡ false
    → AllByRecursion IsNoHearing (given_of dialler now given)
given_own dialler now happens.Opened e = opened_own dialler.phase now
given_own dialler now happens.Failed e = (tt, (tt, tt))
given_own dialler now happens.Cut e = (tt, (tt, tt))
given_own dialler now (happens.Bytes bytes) e = absurd cc
given_own dialler now happens.Moment e = (tt, tt)
given_own dialler now (happens.Addresses kept added is_listed) e =
    (tt, left_own (leaves_with dialler kept added is_listed) now)
given_own dialler now (happens.Call ticket call until) e = (tt, (tt, tt))
given_own dialler now (happens.Credential credential) e = (tt, tt)
given_own dialler now (happens.Follow ticket side path) e = (tt, (tt, tt))
given_own dialler now (happens.Unfollow ticket) e = (tt, (tt, tt))
given_own dialler now (happens.FollowTree ticket root most) e = (tt, tt)
given_own dialler now (happens.UnfollowTree ticket) e = (tt, tt)

step_own : (is_open : Bool) (now : ℕ) (given : AgentInput Global) (agent : Agent Global) → is_bytes (happening given) ≡ false
    → AllByRecursion IsNoHearing (moves_of is_open now given agent)
step_own is_open now given agent e =
    all_both IsNoHearing (given_of agent.dialler now given) _ (given_own agent.dialler now given e) (tt, tt)

-- those that come from outside are the only ones that could be bytes
outside_own : (all : List Move) → AllByRecursion IsNoHearing (filter is_given all) → AllByRecursion IsNoHearing all
outside_own [] own = tt
outside_own (Hears now input ∷ all) own = (own.0, outside_own all own.1)
outside_own (Hands now ticket asked ∷ all) own = (tt, outside_own all own)
outside_own (Renews ∷ all) own = (tt, outside_own all own)
outside_own (GivesUp now ∷ all) own = (tt, outside_own all own)
outside_own (LeavesLate now ∷ all) own = (tt, outside_own all own)
outside_own (Decides now due ∷ all) own = (tt, outside_own all own)
outside_own (Closes ∷ all) own = (tt, outside_own all own)
outside_own (Tends one ∷ all) own = (tt, outside_own all own)
outside_own (Follows ticket side path ∷ all) own = (tt, outside_own all own.1)
outside_own (Unfollows ticket ∷ all) own = (tt, outside_own all own.1)
outside_own (Asks ticket asked until ∷ all) own = (tt, outside_own all own.1)
outside_own (Opened now ∷ all) own = (tt, outside_own all own.1)
outside_own (Ended now ∷ all) own = (tt, outside_own all own.1)
outside_own (HungUp ∷ all) own = (tt, outside_own all own.1)
outside_own (Addressed kept added is_listed ∷ all) own = (tt, outside_own all own.1)
outside_own (Presents judged frames ∷ all) own = (tt, outside_own all own.1)

-- ---- inputs that are no bytes

abbrev IsNoBytesIn : Part → Type 0
IsNoBytesIn part = is_bytes (happening part.given) ≡ false

part_calm : (now : ℕ) (part : Part) (from to : Agent Global)
    → IsNoBytesIn part → IsLed (view_of from.asker.follower.client) → AgentTook now part.given from to part.said
    → is_told (told_by part.said) ≡ false → IsUnchanged (view_of from.asker.follower.client) (view_of to.asker.follower.client)
part_calm now part from to none led took quiet =
    let comes = took.comes in
    let own = subst (AllByRecursion IsNoHearing) (sym comes.comes) (step_own _ _ part.given from none) in
    ((moves comes.moves (trail_of from []) (trail_of to part.said) comes.does (outside_own comes.moves own) led).calm quiet).1

all_calm : (now : ℕ) (parts : List Part) (from to : Agent Global)
    → AllByRecursion IsNoBytesIn parts → IsLed (view_of from.asker.follower.client) → TookAll now from parts to
    → is_told (told_by (flat_map (λ part. part.said) parts)) ≡ false
    → IsUnchanged (view_of from.asker.follower.client) (view_of to.asker.follower.client)
all_calm now [] from to none led same quiet =
    subst (λ (agent : Agent Global). IsUnchanged (view_of from.asker.follower.client) (view_of agent.asker.follower.client)) same
    (itself (view_of from.asker.follower.client))
all_calm now (part ∷ parts) from to none led took quiet =
    let rest : List (Action Global) = flat_map (λ part. part.said) parts in
    let both = parted (told_by part.said) (told_by rest) (sym (ap is_told (map-append action_view part.said rest)) ∙ quiet) in
    through (view_of from.asker.follower.client) (view_of took.0.asker.follower.client) (view_of to.asker.follower.client)
    (part_calm now part from took.0 none.0 led took.1 both.0)
    (all_calm now parts took.0 to none.1 (took.1.comes.led led) took.2 both.1)

-- ---- one use

abbrev shown : Device → View
shown session = view_of session.agent.asker.follower.client

module _ (n : ℕ) (lt : n < 2 ^ 64 - 1) where
  -- The number does not fall below this one. Where it is this one after, it was so before, and nothing has changed.
  record Keeps (old session : Device) : Type 0 where
    least : n ≤ session.revision.number
    same : session.revision.number ≡ n → (old.revision.number ≡ n) × IsUnchanged (shown old) (shown session)

  left_as : (old session : Device) → n ≤ old.revision.number → session ≡ old → Keeps old session
  left_as old session from same = subst (Keeps old) (sym same) (record { least = from; same = λ e. (e, itself (shown old)) })

  next_is_more : (old session : Device) → n ≤ old.revision.number → session.revision.number ≡ raised old.revision.number → Keeps old session
  next_is_more old session from more = record {
    least = subst (λ (m : ℕ). n ≤ m) (sym more) (raised_least n old.revision.number lt from);
    same = λ e. absurd (raised_more n old.revision.number lt from (sym more ∙ e));
  }

  least_by : (b : Bool) (number : ℕ) → n ≤ number → n ≤ cond b (raised number) number
  least_by true number from = raised_least n number lt from
  least_by false number from = from

  quiet_by : (b : Bool) (number : ℕ) → n ≤ number → cond b (raised number) number ≡ n → (b ≡ false) × (number ≡ n)
  quiet_by true number from e = absurd (raised_more n number lt from e)
  quiet_by false number from e = (refl, e)

  stepped_keeps : (now : ℕ) (what : What) (old session : Device)
      → IsLed (shown old) → n ≤ old.revision.number → Stepped now what old session → Keeps old session
  stepped_keeps now what old session led from does =
      let took = does.took in
      let told = told_by session.said.items in
      let parts : List Part = record { given = does.given; said = took.said } ∷ took.own in
      let came = is_bytes (happening does.given) in record {
        least = subst (λ (m : ℕ). n ≤ m) (sym took.number) (least_by (came || is_told told) old.revision.number from);
        same = λ e.
            let quiet = quiet_by (came || is_told told) old.revision.number from (sym took.number ∙ e) in
            let rest = or_parts came (is_told told) quiet.0 in
            let all = sym (another_but (flat_map (λ part. part.said) parts) session.said.items took.told) ∙ rest.1 in
            (quiet.1, all_calm now parts old.agent session.agent (rest.0, all_no_bytes took.own took.are_own) led took.took all);
      }

  steps_keep : (Refuses : ℤ → Type 0) (now : ℕ) (what : What) (code : ℤ) (old session : Device)
      → IsLed (shown old) → n ≤ old.revision.number → step.Steps Refuses now what old code session → Keeps old session
  steps_keep Refuses now what (pos zero) old session led from does = stepped_keeps now what old session led from does
  steps_keep Refuses now what (negsuc zero) old session led from does = next_is_more old session from does.number
  steps_keep Refuses now what (pos (suc k)) old session led from does = left_as old session from does.1
  steps_keep Refuses now what (negsuc (suc k)) old session led from does = left_as old session from does.1

  -- what leaves the agent, and the number, as they were
  agent_keeps : (old session : Device)
      → n ≤ old.revision.number → session.agent ≡ old.agent → session.revision ≡ old.revision → Keeps old session
  agent_keeps old session from same number = record {
    least = subst (λ (r : Revision). n ≤ r.number) (sym number) from;
    same = λ e. (
      ap (λ (r : Revision). r.number) (sym number) ∙ e,
      subst (λ (a : Agent _). IsUnchanged (shown old) (view_of a.asker.follower.client)) (sym same) (itself (shown old)),
    );
  }

  all_reads_keep : (room written : List ℕ) (count : ℕ) (code : ℤ) (old session : Device)
      → n ≤ old.revision.number → TellsAll old room written count code session → Keeps old session
  all_reads_keep room written count (pos zero) old session from tells = agent_keeps old session from tells.agent tells.number
  all_reads_keep room written count (pos (suc k)) old session from tells = left_as old session from tells.3
  all_reads_keep room written count (negsuc k) old session from tells = left_as old session from tells.3

  forgets_keep : (code : ℤ) (old session : Device)
      → IsLed (shown old) → n ≤ old.revision.number → ForgetsStale old code session → Keeps old session
  forgets_keep code old session led from gone = record {
    least = subst (λ (r : Revision). n ≤ r.number) (sym gone.forgot.number) from;
    same = λ e. (
      ap (λ (r : Revision). r.number) (sym gone.forgot.number) ∙ e,
      quiet_is_unchanged led.0 (turns.Forgets ∷ []) led.1 (shown old) (shown session) led.2
          (subst (Stands led.0 (turns.Forgets ∷ led.1)) (sym gone.forgot.view) (forget_stands led.0 led.1 (shown old) led.2)) tt,
    );
  }

  one_device : (one other : Device) → Some one ≡ Some other → one ≡ other
  one_device one other e = ap (λ (o : Option Device). elim o [ None ↦ one | Some d ↦ d ]) e

  one_keeps : (used : Use) (old session : Device) (after : Option Device) → GoesOn used → IsLed (shown old) → n ≤ old.revision.number
      → Uses_so (Some old) used after → after ≡ Some session → Keeps old session
  one_keeps (Opens_one limits timeout code) old session after on led from does is = absurd on
  one_keeps (Resumes limits timeout saved code) old session after on led from does is = absurd on
  one_keeps (Steps now what code) old session after on led from does is =
      steps_keep (RefusesHappening what) now what code old session led from
      (in_held (step.Steps (RefusesHappening what) now what old code) session after does is)
  one_keeps (Reads room told code) old session after on led from does is =
      let tells = in_held (λ s. Tells old room code told s) session after does is in
      agent_keeps old session from tells.agent tells.number
  one_keeps (ReadsAll room written count code) old session after on led from does is =
      all_reads_keep room written count code old session from (in_held (TellsAll old room written count code) session after does is)
  one_keeps (Forgets code) old session after on led from does is =
      forgets_keep code old session led from (in_held (ForgetsStale old code) session after does is)
  one_keeps Looks old session after on led from does is = left_as old session from (one_device session old (sym is ∙ does))
  one_keeps Frees old session after on led from does is = absurd on

  -- a handle that is closed stays so
  stays_closed : (used : Use) (session : Device) (after : Option Device) → GoesOn used → Uses_so None used after → after ≡ Some session → ⊥
  stays_closed (Opens_one limits timeout code) session after on does is = on
  stays_closed (Resumes limits timeout saved code) session after on does is = on
  stays_closed (Steps now what code) session after on does is = empty_holds_none session after does.empty is
  stays_closed (Reads room told code) session after on does is = empty_holds_none session after does.empty is
  stays_closed (ReadsAll room written count code) session after on does is = empty_holds_none session after does.empty is
  stays_closed (Forgets code) session after on does is = empty_holds_none session after does.empty is
  stays_closed Looks session after on does is = empty_holds_none session after does is
  stays_closed Frees session after on does is = on

  -- ---- many

  abbrev KeepsAll : Device → Option Device → Type 0
  KeepsAll before found = (session : Device) → found ≡ Some session → Keeps before session

  next_keeps : (used : Used) (earlier : List Used) (before : Device) (found : Option Device)
      → held_after earlier ≡ found → IsLife earlier → GoesOn used.use_of → Uses_so found used.use_of used.held
      → KeepsAll before found → KeepsAll before used.held
  next_keeps used earlier before None at lived on does keeps session is = absurd (stays_closed used.use_of session used.held on does is)
  next_keeps used earlier before (Some old) at lived on does keeps session is =
      let far = keeps old refl in
      let near = one_keeps used.use_of old session used.held on (stands_in earlier old lived at) far.least does is in record {
        least = near.least;
        same = λ e. let last = near.same e in let first = far.same last.0 in
            (first.0, through (shown before) (shown old) (shown session) first.1 last.1);
      }

  all_keep : (more earlier : List Used) (before : Device) → IsLife (more ++ earlier)
      → AllGoOn more → held_after earlier ≡ Some before → n ≤ before.revision.number → KeepsAll before (held_after (more ++ earlier))
  all_keep [] earlier before lived on at from = λ session is. left_as before session from (one_device session before (sym is ∙ at))
  all_keep (used ∷ more) earlier before lived on at from =
      next_keeps used (more ++ earlier) before (held_after (more ++ earlier)) refl lived.1 on.0 lived.0
      (all_keep more earlier before lived.1 on.1 at from)

pub same_for_life : SameForLife
same_for_life more earlier before after lived on at is lt e =
    ((all_keep before.revision.number lt more earlier before lived on at (at_least before.revision.number) after is).same e).1
  where
    at_least : (m : ℕ) → m ≤ m
    at_least m = grind arith
