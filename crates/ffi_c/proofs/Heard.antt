-- Names that a client answers to a ticket are those of a listing that it took, in reply to a call of that ticket: each question that waits
-- is that of a call which was asked, a reply answers the first of them, and none but a listing is answered with names.
use Rattle.std.proofs.Common.{◌≡◌, ℕ, zero, suc, ℤ, pos, negsuc, Bool, true, false, cond, ◌&&◌, inl, inr, List, [], ◌∷◌, ◌++◌, map}
use Rattle.std.proofs.Common.{drop, Option, Some, None, Ok, Err, refl, sym, ap, subst, ◌∙◌, true≢false}
use Rattle.std.specs.Prelude.{⊤, int_lt, nat_le, nat_lt, length, ◌==◌, Result as Reading}
use Rattle.std.specs.List.{flat_map, AllByRecursion}
use Rattle.std.specs.Ordering.{int_eq}
use Rattle.zk_jute.specs.declared.fault.TakeError.{TakeError}
use Rattle.zk_jute.specs.Layout.{Value}
use Rattle.zk_jute.specs.Reading.{◌>>=◌, reading as read_as}
use Rattle.zk_nodes.specs.Path.{Text}
use Rattle.zk_nodes.specs.declared.side.Side.{Side}
use Rattle.zk_nodes.specs.declared.side.Side.TheVariants.{Data, Child}
use Rattle.zk_nodes.specs.declared.stat.Stat.{Stat}
use Rattle.zk_records.specs.Events.{event_of}
use Rattle.zk_records.specs.Layouts.{reply_header, watcher_event}
use Rattle.zk_records.specs.Response.{Response, response_at}
use Rattle.zk_records.specs.declared.event.Event.{Event}
use Rattle.zk_records.specs.declared.reply_header.ReplyHeader.{ReplyHeader}
use Rattle.zk_session.specs.declared.states.State.{State}
use Rattle.zk_session.specs.declared.states.State.TheVariants.{Idle, Connecting, Connected}
use Rattle.zk_watches.specs.Lists.{Lists, fires}
use Rattle.zk_watches.specs.Parts.{parts}
use Rattle.zk_limits.specs.declared.limits.TheConstants.{MOST_PENDING}
use Rattle.zk_conversation.specs.Arriving.{Arrived, Connected as Welcomed, Replied as Answers_call, Watches_set as Part_set, Notice}
use Rattle.zk_conversation.specs.Arriving.{Pong as Ponged, Skipped as Passed, arriving, call_arriving, first_arriving}
use Rattle.zk_conversation.specs.Arriving.{header_of, later_arriving, notice_arriving, noticed, oldest_arriving, reply_arriving}
use Rattle.zk_conversation.specs.Calls.{Call as Asked_call, call_payload}
use Rattle.zk_conversation.specs.Pending.{Pending, Waiting, Part_waits, Call_waits, calls_pending, is_close_pending}
use Rattle.zk_conversation.specs.Questions.{Question, Exists, GetData, GetChildren, SetData, Create, Delete, Close, Raw, question_of}
use Rattle.zk_conversation.specs.Questions.{watched_side}
use Rattle.zk_conversation.specs.Results.{Result, NoNode, Refused, Listing, record_of, response_password, response_session}
use Rattle.zk_conversation.specs.Results.{response_timeout, result_from, result_layout, result_of}
use Rattle.zk_conversation.specs.declared.fault.TalkFault.{TalkFault}
use Rattle.zk_conversation.specs.declared.fault.TalkFault.TheVariants.{OtherXid}
use Rattle.zk_conversation.specs.declared.phase.Phase.{Phase}
use Rattle.zk_conversation.specs.declared.phase.Phase.TheVariants.{Closed, Opening, Talking}
use Rattle.zk_turns.specs.Meaning.{Among}
use Rattle.zk_turns.specs.Past.{Accepted, Asked, Asking, Began, Denied, Dropped, Expiry, For_call, For_part, Forgot, Halted}
use Rattle.zk_turns.specs.Past.{Happening, Lost, Notifies, Past, Pinged, Replies, Took, Watches_set, answered}
use Rattle.zk_turns.specs.Past.{has_halted, held_of, is_talking, lists_of, parts_asked, pending_for, pending_of, questions, state_of}
use Rattle.zk_turns.specs.Past.{xid_of}
use Rattle.zk_turns.specs.Rule.{AllSaid, due_happenings, due_signals, loss, losses, part_frame, report, says}
use Rattle.zk_turns.specs.Sent.{outputs_of}
use Rattle.zk_turns.specs.Taken.{Bad, Cutting, Payload, Unfinished, caused, comes, cut, happenings, is_full_on, joined, leaves_watch}
use Rattle.zk_turns.specs.Taken.{longest, of_cutting, opens, past_after, past_of, phase_of, reading, refusal, taken_of, welcome_by}
use Rattle.zk_turns.specs.Turns.{Answer, Behind, Bytes, Call, Calls, Comes, Cut, Cuts, Enters, Forget, Forgets, Halt, Halts}
use Rattle.zk_turns.specs.Turns.{Input, Item, Now, Opened, Opens, Outcome, Output, Replied, Report, SessionClosed, Signal, Start, Ticks}
use Rattle.zk_turns.specs.Turns.{TooLarge, TooManyPending, TooManyWatches, Turned, WatchesRefused, signals_of}
use Rattle.zk_turns.specs.View.{View, view_at}
use Rattle.zk_turns.proofs.Arriving.{AreOf, First, IsOf, of_arriving}
use Rattle.zk_turns.proofs.Cases.{by_cond, by_due, by_header, by_open}
use Rattle.zk_turns.proofs.Sending.{onto, onto-append, outputs_onto}
use Rattle.zk_turns.proofs.Words.{calls, closing, happening_of, refusal_in}

-- ---- lists

pub each_both : {X : Type 0} (P : X → Type 0) (xs ys : List X) → AllByRecursion P xs → AllByRecursion P ys → AllByRecursion P (xs ++ ys)
each_both P [] ys first second = second
each_both P (x ∷ xs) ys first second = (first.0, each_both P xs ys first.1 second)

pub each_weaker : {X : Type 0} (P Q : X → Type 0) → ((x : X) → P x → Q x) → (xs : List X) → AllByRecursion P xs → AllByRecursion Q xs
each_weaker P Q weaker [] all = tt
each_weaker P Q weaker (x ∷ xs) all = (weaker x all.0, each_weaker P Q weaker xs all.1)

each_dropped : {X : Type 0} (P : X → Type 0) (n : ℕ) (xs : List X) → AllByRecursion P xs → AllByRecursion P (drop n xs)
each_dropped P zero xs all = all
each_dropped P (suc n) [] all = tt
each_dropped P (suc n) (x ∷ xs) all = each_dropped P n xs all.1

each_onto : (P : Output → Type 0) (xs ys : List Output) → AllByRecursion P xs → AllByRecursion P ys → AllByRecursion P (onto xs ys)
each_onto P [] ys first second = second
each_onto P (x ∷ xs) ys first second = each_onto P xs (x ∷ ys) first.1 (first.0, second)

each_among : {X : Type 0} (P : X → Type 0) (x : X) (xs : List X) → AllByRecursion P xs → Among x xs → P x
each_among P x [] all among = absurd among
each_among P x (y ∷ ys) all (inl same) = subst P (sym same) all.0
each_among P x (y ∷ ys) all (inr among) = each_among P x ys all.1 among

-- ---- what is read

abbrev lists : Question → Bool
lists (GetChildren path watch) = true
lists _ = false

abbrev is_listing : Result → Bool
is_listing (Listing names stat) = true
is_listing _ = false

-- Only a listing is answered with names.
abbrev Fits : Question → Result → Type 0
Fits question result = is_listing result ≡ true → lists question ≡ true

abbrev FitsRead : Question → Reading Result TakeError → Type 0
FitsRead question (Ok result) = Fits question result
FitsRead question (Err fault) = ⊤

abbrev FitsArrived : Arrived → Type 0
FitsArrived (Answers_call ticket question zxid result) = Fits question result
FitsArrived _ = ⊤

abbrev FitsReading : Reading Arrived TalkFault → Type 0
FitsReading (Ok arrived) = FitsArrived arrived
FitsReading (Err fault) = ⊤

none_fits : (question : Question) → Fits question NoNode
none_fits question e = absurd (true≢false (sym e))

refused_fits : (question : Question) (code : ℤ) → Fits question (Refused code)
refused_fits question code e = absurd (true≢false (sym e))

from_fits : (question : Question) (value : Value (result_layout question)) (behind : List ℕ)
    → Fits question (result_from question value behind)
from_fits (GetChildren path watch) value behind e = refl
from_fits (Exists path watch) value behind e = absurd (true≢false (sym e))
from_fits (GetData path watch) value behind e = absurd (true≢false (sym e))
from_fits (SetData path) value behind e = absurd (true≢false (sym e))
from_fits (Create path) value behind e = absurd (true≢false (sym e))
from_fits (Delete path) value behind e = absurd (true≢false (sym e))
from_fits Close value behind e = absurd (true≢false (sym e))
from_fits Raw value behind e = absurd (true≢false (sym e))

bound_fits : (question : Question) (read : Reading (Value (result_layout question) × List ℕ) TakeError)
    → FitsRead question (read >>= λ found. Ok (result_from question found.0 found.1))
bound_fits question (Ok found) = from_fits question found.0 found.1
bound_fits question (Err fault) = tt

record_fits : (question : Question) (end : ℕ) (bytes : List ℕ) → FitsRead question (record_of question end bytes)
unfolding record_of
record_fits question end bytes = bound_fits question (read_as (result_layout question) end bytes)

result_fits : (question : Question) (err : ℤ) (end : ℕ) (bytes : List ℕ) → FitsRead question (result_of question err end bytes)
result_fits question err end bytes =
    let refused : Reading Result TakeError = cond (int_eq err (negsuc 100)) (Ok NoNode) (Ok (Refused err)) in
    by_cond (FitsRead question) (int_eq err (pos 0)) (record_of question end bytes) refused (record_fits question end bytes)
    (by_cond (FitsRead question) (int_eq err (negsuc 100)) (Ok NoNode) (Ok (Refused err)) (none_fits question) (refused_fits question err))

call_fits : (ticket : ℕ) (question : Question) (zxid : ℤ) (read : Reading Result TakeError) → FitsRead question read
    → FitsReading (call_arriving ticket question zxid read)
call_fits ticket question zxid (Ok result) fits = fits
call_fits ticket question zxid (Err fault) fits = tt

reply_fits : (waiting : Waiting) (header : ReplyHeader) (end : ℕ) (bytes : List ℕ) → FitsReading (reply_arriving waiting header end bytes)
reply_fits (Part_waits last) header end bytes = tt
reply_fits (Call_waits ticket question) header end bytes =
    call_fits ticket question header.zxid (result_of question header.err end bytes) (result_fits question header.err end bytes)

oldest_fits : (pending : List Pending) (header : ReplyHeader) (end : ℕ) (bytes : List ℕ)
    → FitsReading (oldest_arriving pending header end bytes)
oldest_fits [] header end bytes = tt
oldest_fits (oldest ∷ more) header end bytes =
    by_cond FitsReading (int_eq oldest.xid header.xid) (reply_arriving oldest.waiting header end bytes)
    (Err (OtherXid oldest.xid header.xid)) (reply_fits oldest.waiting header end bytes) tt

event_fits : (event : Option Event) (path : Text) → FitsArrived (noticed event path)
event_fits (Some event) path = tt
event_fits None path = tt

notice_fits : (read : Reading (Value watcher_event × List ℕ) TakeError) → FitsReading (notice_arriving read)
notice_fits (Ok found) = event_fits (event_of found.0.0) _
notice_fits (Err fault) = tt

later_fits : (pending : List Pending) (end : ℕ) (read : Reading (Value reply_header × List ℕ) TakeError)
    → FitsReading (later_arriving pending end read)
later_fits pending end (Ok found) =
    by_header FitsReading pending (header_of found.0) end found.1 (notice_fits (read_as watcher_event end found.1)) tt tt
    (oldest_fits pending (header_of found.0) end found.1)
later_fits pending end (Err fault) = tt

first_fits : (read : Reading (Response × List ℕ) TakeError) → FitsReading (first_arriving read)
first_fits (Ok found) = tt
first_fits (Err fault) = tt

arriving_fits : (phase : Phase) (pending : List Pending) (payload : List ℕ) → FitsReading (arriving phase pending payload)
unfolding arriving
arriving_fits Talking pending payload = later_fits pending (length payload) (read_as reply_header (length payload) payload)
arriving_fits Opening pending payload = first_fits (response_at (length payload) payload)
arriving_fits Closed pending payload = first_fits (response_at (length payload) payload)

-- ---- what happens

abbrev is_reply : Outcome → Bool
is_reply (Replied zxid result) = true
is_reply _ = false

abbrev IsRefusal : Option Outcome → Type 0
IsRefusal None = ⊤
IsRefusal (Some why) = is_reply why ≡ false

refuses_when : (closes many full long : Bool) → IsRefusal (cond closes (Some SessionClosed)
    (cond many (Some TooManyPending) (cond full (Some TooManyWatches) (cond long (Some TooLarge) None))))
refuses_when true many full long = refl
refuses_when false true full long = refl
refuses_when false false true long = refl
refuses_when false false false true = refl
refuses_when false false false false = tt

refuses_in : (state : State) (view : View) (call : Asked_call) → IsRefusal (refusal_in state view call)
refuses_in Connected view call =
    refuses_when (is_close_pending view.pending) (nat_le MOST_PENDING (calls_pending view.pending))
    (is_full_on view (watched_side (question_of call))) (nat_lt view.limits.outgoing (length (call_payload (pos view.xid) call)))
refuses_in _ view call = refl

-- What a call is asked by, as a ticket with its question, is what `IsAsked` says.
module _ (IsAsked : ℕ → Question → Type 0) where
  abbrev IsAskedFor : Waiting → Type 0
  IsAskedFor (Part_waits last) = ⊤
  IsAskedFor (Call_waits ticket question) = IsAsked ticket question

  abbrev IsAsking : Asking → Type 0
  IsAsking (For_part last) = ⊤
  IsAsking (For_call xid ticket call) = IsAsked ticket (question_of call)

  abbrev AreAsking : Past → Type 0
  AreAsking past = AllByRecursion IsAsking (questions past)

  abbrev AreAskedFor : List Pending → Type 0
  AreAskedFor pending = AllByRecursion (λ one. IsAskedFor one.waiting) pending

  asked_for : (asked : List Asking) → AllByRecursion IsAsking asked → AreAskedFor (map pending_for asked)
  asked_for [] all = tt
  asked_for (For_part last ∷ asked) all = (tt, asked_for asked all.1)
  asked_for (For_call xid ticket call ∷ asked) all = (all.0, asked_for asked all.1)

  all_pending : (past : Past) → AreAsking past → AreAskedFor (pending_of past)
  all_pending past all = by (is_talking (state_of past))
    where
      by : (talks : Bool) → AreAskedFor (map pending_for (cond talks (drop (answered past) (questions past)) []))
      by true = asked_for (drop (answered past) (questions past)) (each_dropped IsAsking (answered past) (questions past) all)
      by false = tt

  first_asked : (ticket : ℕ) (question : Question) (pending : List Pending) → First (Call_waits ticket question) pending
      → AreAskedFor pending → IsAsked ticket question
  first_asked ticket question pending first all = (subst AreAskedFor first.2 all).0

  -- What may happen: a call that is asked so, a reply to one, a refusal that is none.
  abbrev May : Happening → Type 0
  May (Asked ticket call) = IsAsked ticket (question_of call)
  May (Denied ticket why) = is_reply why ≡ false
  May (Took (Replies ticket question zxid result)) = IsAsked ticket question × Fits question result
  May _ = ⊤

  abbrev AllMay : List Happening → Type 0
  AllMay more = AllByRecursion May more

  welcome_may : (timeout session : ℤ) (password : List ℕ) → May (Took (welcome_by timeout session password))
  welcome_may (pos n) session password = by (n == 0)
    where
      by : (b : Bool) → May (Took (cond b Expiry (Accepted (record { timeout = n; session = session; password = password }))))
      by true = tt
      by false = tt
  welcome_may (negsuc n) session password = tt

  taken_may : (phase : Phase) (pending : List Pending) (last : ℤ) (arrived : Arrived) → IsOf phase pending arrived → FitsArrived arrived
      → AreAskedFor pending → May (taken_of last arrived)
  taken_may phase pending last (Welcomed response) is fits all =
      welcome_may (response_timeout response) (response_session response) (response_password response)
  taken_may phase pending last (Answers_call ticket question zxid result) is fits all =
      by_cond May (leaves_watch question result && int_lt zxid last) (Dropped (Behind last zxid))
      (Took (Replies ticket question zxid result)) tt (first_asked ticket question pending is all, fits)
  taken_may phase pending last (Part_set final zxid err) is fits all =
      by_cond May (int_eq err (pos 0)) (Took (Watches_set final zxid)) (Dropped (WatchesRefused err)) tt tt
  taken_may phase pending last (Notice event path) is fits all = tt
  taken_may phase pending last Ponged is fits all = tt
  taken_may phase pending last Passed is fits all = tt

  read_may : (phase : Phase) (pending : List Pending) (last : ℤ) (read : Reading Arrived TalkFault) → AreOf phase pending read
      → FitsReading read → AreAskedFor pending → May (happening_of last read)
  read_may phase pending last (Ok arrived) is fits all = taken_may phase pending last arrived is fits all
  read_may phase pending last (Err fault) is fits all = tt

  reading_may : (state : State) (pending : List Pending) (last : ℤ) (payload : List ℕ) → AreAskedFor pending
      → May (reading state pending last payload)
  reading_may state pending last payload all =
      read_may (phase_of state) pending last (arriving (phase_of state) pending payload)
      (of_arriving (phase_of state) pending payload) (arriving_fits (phase_of state) pending payload) all

  call_may : (ticket : ℕ) (call : Asked_call) (why : Option Outcome) → IsRefusal why → IsAsked ticket (question_of call)
      → AllMay (calls ticket call why)
  call_may ticket call None refused asked = (asked, tt)
  call_may ticket call (Some why) refused asked = (refused, tt)

  abbrev AsksBy : Signal → Type 0
  AsksBy (Calls ticket call) = IsAsked ticket (question_of call)
  AsksBy _ = ⊤

  -- an input that asks so, if it asks
  abbrev pub AsksSo : Input → Type 0
  AsksSo (Call ticket call) = IsAsked ticket (question_of call)
  AsksSo _ = ⊤

  abbrev pub ItemAsks : Item → Type 0
  ItemAsks (Turned turn) = AsksSo turn.input
  ItemAsks _ = ⊤

  bytes_ask : (bytes : List ℕ) → AllByRecursion AsksBy (map Comes bytes)
  bytes_ask [] = tt
  bytes_ask (byte ∷ bytes) = (tt, bytes_ask bytes)

  input_asks : (input : Input) → AsksSo input → AllByRecursion AsksBy (signals_of input)
  input_asks Opened asks = (tt, tt)
  input_asks (Bytes bytes) asks = bytes_ask bytes
  input_asks Cut asks = (tt, tt)
  input_asks (Now moment) asks = (tt, tt)
  input_asks (Call ticket call) asks = (asks, tt)

  parts_ask : (more : List Lists) → AllByRecursion IsAsking (parts_asked more)
  parts_ask [] = tt
  parts_ask (part ∷ []) = (tt, tt)
  parts_ask (part ∷ next ∷ more) = (tt, parts_ask (next ∷ more))

  asking_next : (happening : Happening) (past : Past) → May happening → AreAsking past → AreAsking (happening ∷ past)
  asking_next Began past may all = tt
  asking_next (Took (Accepted welcome)) past may all = parts_ask (parts (lists_of past))
  asking_next (Asked ticket call) past may all = each_both IsAsking (questions past) (For_call (xid_of past) ticket call ∷ []) all (may, tt)
  asking_next _ past may all = all

  -- ---- what is said

  -- A reply that was said was taken.
  abbrev IsTaken : Past → Output → Type 0
  IsTaken past (Answer ticket (Replied zxid result)) = (question : Question) × IsAsked ticket question × Fits question result
      × Among (Took (Replies ticket question zxid result)) past
  IsTaken past _ = ⊤

  abbrev AreTaken : Past → List Output → Type 0
  AreTaken past outputs = AllByRecursion (IsTaken past) outputs

  taken_on : (happening : Happening) (past : Past) (output : Output) → IsTaken past output → IsTaken (happening ∷ past) output
  taken_on happening past (Answer ticket (Replied zxid result)) taken = (taken.0, taken.1, taken.2, inr taken.3)
  taken_on happening past _ taken = tt

  denied_taken : (past : Past) (ticket : ℕ) (why : Outcome) → is_reply why ≡ false → IsTaken past (Answer ticket why)
  denied_taken past ticket (Replied zxid result) none = absurd (true≢false none)
  denied_taken past ticket _ none = tt

  loss_taken : (past : Past) (one : Pending) → AreTaken past (loss one)
  loss_taken past one = by one.waiting
    where
      by : (waiting : Waiting) → AreTaken past (loss (record { xid = one.xid; waiting = waiting }))
      by (Part_waits last) = tt
      by (Call_waits ticket question) = (tt, tt)

  each_loss_taken : (past : Past) (pending : List Pending) → AreTaken past (flat_map loss pending)
  each_loss_taken past [] = tt
  each_loss_taken past (one ∷ pending) =
      each_both (IsTaken past) (loss one) (flat_map loss pending) (loss_taken past one) (each_loss_taken past pending)

  losses_taken : (past : Past) (view : View) → AreTaken past (losses view)
  losses_taken past view =
      each_both (IsTaken past) (flat_map loss view.pending) (Enters Idle ∷ []) (each_loss_taken past view.pending) (tt, tt)

  report_taken : (past : Past) (view : View) (event : Event) (path : Text) (side : Side) → AreTaken past (report view event path side)
  report_taken past view event path side = by (fires view.lists event side path)
    where
      by : (b : Bool) → AreTaken past (cond b (Report path side event ∷ []) [])
      by true = (tt, tt)
      by false = tt

  parts_taken : (past : Past) (relative : ℤ) (more : List Lists) → AreTaken past (map (part_frame relative) more)
  parts_taken past relative [] = tt
  parts_taken past relative (part ∷ more) = (tt, parts_taken past relative more)

  closing_taken : (past : Past) (question : Question) → AreTaken past (closing question)
  closing_taken past Close = (tt, tt)
  closing_taken past _ = tt

  says_taken : (view : View) (happening : Happening) (past : Past) → May happening → AreTaken (happening ∷ past) (says view happening)
  says_taken view Began past may = (tt, (tt, tt))
  says_taken view (Dropped fault) past may = (tt, losses_taken (Dropped fault ∷ past) view)
  says_taken view Lost past may = losses_taken (Lost ∷ past) view
  says_taken view (Asked ticket call) past may = (tt, tt)
  says_taken view (Denied ticket why) past may = (denied_taken (Denied ticket why ∷ past) ticket why may, tt)
  says_taken view Pinged past may = (tt, tt)
  says_taken view (Took (Accepted welcome)) past may =
      (tt, parts_taken (Took (Accepted welcome) ∷ past) view.saved.last (parts view.lists))
  says_taken view (Took Expiry) past may = (tt, tt)
  says_taken view (Took (Replies ticket question zxid result)) past may = (
    (question, may.0, may.1, inl refl),
    closing_taken (Took (Replies ticket question zxid result) ∷ past) question,
  )
  says_taken view (Took (Notifies event path)) past may =
      each_both (IsTaken (Took (Notifies event path) ∷ past)) (report view event path Data) (report view event path Child)
      (report_taken (Took (Notifies event path) ∷ past) view event path Data)
      (report_taken (Took (Notifies event path) ∷ past) view event path Child)
  says_taken view _ past may = tt

  record IsKnown (past : Past) (said : List Output) : Type 0 where
    asking : AreAsking past
    taken : AreTaken past said

  module _ (start : Start) where
    cutting_may : (cutting : Cutting) (byte : ℕ) (past : Past) → AreAsking past → AllMay (of_cutting (view_at start past) cutting)
    cutting_may Unfinished byte past all = tt
    cutting_may (Bad fault) byte past all = (tt, tt)
    cutting_may (Payload payload) byte past all =
        (reading_may (state_of past) (pending_of past) (view_at start past).saved.last payload (all_pending past all), tt)

    opens_may : (state : State) → AllMay (opens state)
    opens_may Idle = (tt, tt)
    opens_may Connecting = (tt, (tt, tt))
    opens_may Connected = (tt, (tt, tt))
    opens_may _ = tt

    caused_may : (signal : Signal) (past : Past) → AreAsking past → AsksBy signal → AllMay (caused (view_at start past) signal)
    caused_may Opens past all asks = opens_may (state_of past)
    caused_may (Comes byte) past all asks = by_open AllMay (state_of past) (comes (view_at start past) byte) tt
        (tt, cutting_may (cut (longest start.limits (state_of past)) (held_of past ++ byte ∷ [])) byte past all)
    caused_may Cuts past all asks = by_open AllMay (state_of past) (Lost ∷ []) tt (tt, tt)
    caused_may (Ticks moment) past all asks =
        (tt, by_open AllMay (state_of past) _ tt (by_due AllMay (view_at start past) _ (tt, tt) (tt, tt) tt))
    caused_may (Calls ticket call) past all asks =
        call_may ticket call (refusal (view_at start past) call) (refuses_in (state_of past) (view_at start past) call) asks
    caused_may Forget past all asks = (tt, tt)
    caused_may Halt past all asks = (tt, tt)

    all_may : (signal : Signal) (past : Past) → AreAsking past → AsksBy signal → AllMay (happenings (view_at start past) signal)
    all_may Forget past all asks = (tt, tt)
    all_may Halt past all asks = (tt, tt)
    all_may signal past all asks =
        by_cond AllMay (has_halted past) [] (caused (view_at start past) signal) tt (caused_may signal past all asks)

    known_next : (happening : Happening) (past : Past) (said : List Output) → May happening → IsKnown past said
        → IsKnown (happening ∷ past) (onto (says (view_at start past) happening) said)
    known_next happening past said may known = record {
      asking = asking_next happening past may known.asking;
      taken = each_onto (IsTaken (happening ∷ past)) (says (view_at start past) happening) said
          (says_taken (view_at start past) happening past may)
          (each_weaker (IsTaken past) (IsTaken (happening ∷ past)) (taken_on happening past) said known.taken);
    }

    known_all : (more : List Happening) (past : Past) (said : List Output) → AllMay more → IsKnown past said
        → IsKnown (joined past more) (onto (due_happenings start past more) said)
    known_all [] past said may known = known
    known_all (happening ∷ more) past said may known =
        subst (IsKnown (joined (happening ∷ past) more))
        (sym (onto-append (says (view_at start past) happening) (due_happenings start (happening ∷ past) more) said))
        (known_all more (happening ∷ past) (onto (says (view_at start past) happening) said) may.1
        (known_next happening past said may.0 known))

    known_signals : (more : List Signal) (past : Past) (said : List Output) → AllByRecursion AsksBy more → IsKnown past said
        → IsKnown (past_after start past more) (onto (due_signals start past more) said)
    known_signals [] past said asks known = known
    known_signals (signal ∷ more) past said asks known =
        let now = joined past (happenings (view_at start past) signal) in
        subst (IsKnown (past_after start now more))
        (sym (onto-append (due_happenings start past (happenings (view_at start past) signal)) (due_signals start now more) said))
        (known_signals more now (onto (due_happenings start past (happenings (view_at start past) signal)) said) asks.1
        (known_all (happenings (view_at start past) signal) past said (all_may signal past known.asking asks.0) known))

    known_items : (items : List Item) → AllByRecursion ItemAsks items → AllSaid start items
        → IsKnown (past_of start items) (outputs_of items)
    known_items [] asks said = record { asking = tt; taken = tt }
    known_items (Turned turn ∷ items) asks said =
        subst (IsKnown (past_of start (Turned turn ∷ items)))
        (sym (outputs_onto turn items ∙ ap (λ t. onto t (outputs_of items)) said.0))
        (known_signals (signals_of turn.input) (past_of start items) (outputs_of items) (input_asks turn.input asks.0)
        (known_items items asks.1 said.1))
    known_items (Forgets ∷ items) asks said =
        known_next Forgot (past_of start items) (outputs_of items) tt (known_items items asks.1 said)
    known_items (Halts ∷ items) asks said =
        known_next Halted (past_of start items) (outputs_of items) tt (known_items items asks.1 said)

    -- a call that lists a path, with a watch or without, whose reply was taken
    abbrev pub WasListed : (past : Past) (ticket : ℕ) (zxid : ℤ) (names : List Text) (stat : Stat) → Type 0
    WasListed past ticket zxid names stat = (path : Text) × (watch : Bool) × IsAsked ticket (GetChildren path watch)
        × Among (Took (Replies ticket (GetChildren path watch) zxid (Listing names stat))) past

    by_question : (past : Past) (ticket : ℕ) (zxid : ℤ) (names : List Text) (stat : Stat) (question : Question) → lists question ≡ true
        → IsAsked ticket question → Among (Took (Replies ticket question zxid (Listing names stat))) past
        → WasListed past ticket zxid names stat
    by_question past ticket zxid names stat (GetChildren path watch) is asked among = (path, watch, asked, among)
    by_question past ticket zxid names stat _ is asked among = absurd (true≢false (sym is))

    -- Names that a client answered to a ticket are those of a listing, asked with that ticket, whose reply it took.
    pub listed_so : (items : List Item) → AllByRecursion ItemAsks items → AllSaid start items → (ticket : ℕ) (zxid : ℤ) (names : List Text)
        (stat : Stat) → Among (Answer ticket (Replied zxid (Listing names stat))) (outputs_of items)
        → WasListed (past_of start items) ticket zxid names stat
    listed_so items asks said ticket zxid names stat among =
        let taken = each_among (IsTaken (past_of start items)) (Answer ticket (Replied zxid (Listing names stat))) (outputs_of items)
        (known_items items asks said).taken among in
        by_question (past_of start items) ticket zxid names stat taken.0 (taken.2 refl) taken.1 taken.3
