-- What each signal makes happen: what is taken from the bytes that come, when a connection ends and why, which calls
-- are refused. It depends on the view alone.
use Rattle.zk_watches.specs.Lists.{count_of}
use Rattle.zk_turns.specs.Turns.{Framed, Talked, Outcome, SessionExpired, SessionClosed, NotConnected, TooManyWatches, TooLarge}
use Rattle.zk_turns.specs.Turns.{TooManyPending, Silent, Behind, WatchesRefused, Start, Item, signals, Signal, Opens, Comes, Cuts, Ticks}
use Rattle.zk_turns.specs.Turns.{Calls, Forget, Halt}
use Rattle.zk_frames.specs.declared.fault.FrameFault.{FrameFault}
use Rattle.zk_frames.specs.declared.limits.FrameLimits.{FrameLimits}
use Rattle.zk_conversation.specs.declared.phase.Phase.TheVariants.{Opening, Talking, Closed as Nowhere}
use Rattle.zk_conversation.specs.declared.phase.Phase.{Phase}
use Rattle.zk_conversation.specs.Arriving.{Arrived, Connected as Welcomed, Replied, Watches_set as Part_set, Notice, Pong as Ponged}
use Rattle.zk_conversation.specs.Arriving.{Skipped as Passed, arriving}
use Rattle.zk_conversation.specs.Results.{response_timeout, response_session, response_password, Result}
use Rattle.zk_conversation.specs.Questions.{question_of, watched_side, Question}
use Rattle.zk_conversation.specs.Pending.{calls_pending, watches_pending, is_close_pending, Pending}
use Rattle.zk_conversation.specs.Calls.{Call, call_payload}
use Rattle.zk_frames.specs.Frame.{length_field}
use Rattle.std.specs.Prelude.{◌≡◌, ℕ, ℤ, pos, negsuc, ◌+◌, ◌-◌, ◌*◌, ◌^◌, Bool, false, ◌&&◌, ◌||◌, ◌==◌, nat_lt, nat_le, int_lt, max, List}
use Rattle.std.specs.Prelude.{[], ◌∷◌, ◌++◌, length, drop, Option, Some, None, Ok, Err, is_some, if◌then◌else◌}
use Rattle.std.specs.List.{flat_map, AllByRecursion}
use Rattle.std.specs.Ordering.{int_eq}
use Rattle.zk_nodes.specs.declared.side.Side.{Side}
use Rattle.zk_frames.specs.declared.fault.FrameFault.TheVariants.{Negative, TooLong}
use Rattle.zk_session.specs.declared.states.State.{State}
use Rattle.zk_session.specs.declared.states.State.TheVariants.{Idle, Connecting, Connected, Expired, Closed}
use Rattle.zk_records.specs.Response.{Response}
use Rattle.zk_turns.specs.Past.{Happening, Began, Came, Took, Dropped, Lost, Asked, Denied, Pinged, Ticked, Forgot, Halted, Past, Message}
use Rattle.zk_turns.specs.Past.{Accepted, Expiry, Replies, Watches_set, Notifies, Pong, Skipped, is_talking, is_open, leaves_data}
use Rattle.zk_turns.specs.Past.{leaves_child, held_of}
use Rattle.zk_turns.specs.View.{View, view_at}
use Rattle.zk_limits.specs.declared.limits.TheConstants.{LONGEST_INCOMING, MOST_PATHS, MOST_PENDING}

-- Payloads

-- what the bytes since the last payload are
pub data Cutting : Type 0 where
  Unfinished : Cutting
  Bad : FrameFault → Cutting
  Payload : List ℕ → Cutting

-- a length below 0 has its sign bit set
abbrev pub cut_at : (most : ℕ) → ℕ → List ℕ → Cutting
cut_at most n bytes =
    if nat_le (2 ^ 31) n then Bad Negative
    else (if nat_lt most n then Bad TooLong
    else (if length bytes == 4 + n then Payload (drop 4 bytes) else Unfinished))

-- four bytes of length, and then that many bytes; the length is looked at as soon as it is there
unfoldable pub cut : (most : ℕ) → List ℕ → Cutting
cut most bytes = if nat_lt (length bytes) 4 then Unfinished else cut_at most (length_field bytes) bytes

-- How many bytes a payload may have: once the session is accepted, as many as its limit says, and before that as many as that of
-- every session.
abbrev pub longest : FrameLimits → State → ℕ
longest limits Connected = limits.incoming
longest limits _ = LONGEST_INCOMING

abbrev pub longest_of : View → ℕ
longest_of view = longest view.limits view.standing.state

-- Readings

-- where a connection is, by the state
abbrev pub phase_of : State → Phase
phase_of Connecting = Opening
phase_of Connected = Talking
phase_of _ = Nowhere

-- a timeout of 0 or less says that the session has expired
abbrev pub welcome_by : (timeout session : ℤ) (password : List ℕ) → Message
welcome_by (pos n) session password = if n == 0 then Expiry else Accepted (record { timeout = n; session = session; password = password })
welcome_by (negsuc n) session password = Expiry

abbrev pub accepted_or_expired : Response → Message
accepted_or_expired response = welcome_by (response_timeout response) (response_session response) (response_password response)

abbrev pub leaves_watch : Question → Result → Bool
leaves_watch question result = is_some (leaves_data question result) || is_some (leaves_child question result)

-- A payload that reads is taken, except for two: a reply that leaves a watch must not be behind the last seen zxid, and that to a
-- part of setWatches has no error.
abbrev pub taken_of : (last : ℤ) → Arrived → Happening
taken_of last (Welcomed response) = Took (accepted_or_expired response)
taken_of last (Replied ticket question zxid result) =
    if leaves_watch question result && int_lt zxid last then Dropped (Behind last zxid) else Took (Replies ticket question zxid result)
taken_of last (Part_set final zxid err) = if int_eq err (pos 0) then Took (Watches_set final zxid) else Dropped (WatchesRefused err)
taken_of last (Notice event path) = Took (Notifies event path)
taken_of last Ponged = Took Pong
taken_of last Passed = Took Skipped

-- what a payload makes happen, by the state, what is pending and the last seen zxid
abbrev pub reading : State → List Pending → (last : ℤ) → List ℕ → Happening
reading state pending last payload =
    elim (arriving (phase_of state) pending payload) [ Ok arrived ↦ taken_of last arrived | Err fault ↦ Dropped (Talked fault) ]

abbrev pub of_cutting : View → Cutting → List Happening
of_cutting view Unfinished = []
of_cutting view (Bad fault) = Dropped (Framed fault) ∷ []
of_cutting view (Payload payload) = reading view.standing.state view.pending view.saved.last payload ∷ []

-- a byte, and what it makes whole
abbrev pub comes : View → ℕ → List Happening
comes view byte = Came byte ∷ of_cutting view (cut (longest_of view) (view.held ++ byte ∷ []))

-- Moments

abbrev pub if_open : State → List Happening → List Happening
if_open state happenings = if is_open state then happenings else []

abbrev pub timeout_of : View → ℕ
timeout_of view = elim view.standing.state [ Connecting ↦ view.saved.asked | _ ↦ view.saved.session.timeout ]

-- Two thirds of the timeout with nothing heard is silence, a third with nothing sent asks for a ping.
abbrev pub due : View → (now : ℕ) → List Happening
due view now =
    if nat_le (2 * timeout_of view) (3 * (now - view.moments.heard)) then Dropped Silent ∷ []
    else (if is_talking view.standing.state && nat_le (timeout_of view) (3 * (now - view.moments.sent)) then Pinged ∷ [] else [])

-- what falls due once a moment is told: to a client that has halted nothing, nor without a connection
abbrev pub due_at : View → (moment : ℕ) → List Happening
due_at view moment = if view.standing.halted then [] else if_open view.standing.state (due view (max moment view.moments.now))

abbrev pub NothingIsDue : View → (moment : ℕ) → Type 0
NothingIsDue view moment = due_at view moment ≡ []

-- Calls

abbrev pub is_full_on : View → Option Side → Bool
is_full_on view None = false
is_full_on view (Some side) = nat_le MOST_PATHS (count_of view.lists side + watches_pending side view.pending)

-- why a call that could be sent is not: a close is pending, too many calls are, too many paths are watched, or it is too long
abbrev pub refusal_when_connected : View → Call → Option Outcome
refusal_when_connected view call =
    if is_close_pending view.pending then Some SessionClosed
    else (if nat_le MOST_PENDING (calls_pending view.pending) then Some TooManyPending
    else (if is_full_on view (watched_side (question_of call)) then Some TooManyWatches
    else (if nat_lt view.limits.outgoing (length (call_payload (pos view.xid) call)) then Some TooLarge else None)))

-- why a call is not sent
abbrev pub refusal : View → Call → Option Outcome
refusal view call = elim view.standing.state [
  | Connected ↦ refusal_when_connected view call
  | Expired ↦ Some SessionExpired
  | Closed ↦ Some SessionClosed
  | _ ↦ Some NotConnected
]

-- What a signal makes happen, in order.

abbrev pub opens : State → List Happening
opens Idle = Began ∷ []
opens state = if_open state (Lost ∷ Began ∷ [])

abbrev pub caused : View → Signal → List Happening
caused view Opens = opens view.standing.state
caused view (Comes byte) = if_open view.standing.state (comes view byte)
caused view Cuts = if_open view.standing.state (Lost ∷ [])
caused view (Ticks moment) = Ticked moment ∷ if_open view.standing.state (due view (max moment view.moments.now))
caused view (Calls ticket call) = elim (refusal view call) [ None ↦ Asked ticket call ∷ [] | Some why ↦ Denied ticket why ∷ [] ]
caused view Forget = Forgot ∷ []
caused view Halt = Halted ∷ []

-- to a client that has halted nothing happens any more
abbrev pub happenings : View → Signal → List Happening
happenings view Forget = Forgot ∷ []
happenings view Halt = Halted ∷ []
happenings view signal = if view.standing.halted then [] else caused view signal

-- The past of a list of items

abbrev pub joined : Past → List Happening → Past
joined past [] = past
joined past (happening ∷ more) = joined (happening ∷ past) more

module _ (start : Start) where
  abbrev pub past_after : Past → List Signal → Past
  past_after past [] = past
  past_after past (signal ∷ more) = past_after (joined past (happenings (view_at start past) signal)) more

  -- items are listed with the newest first, too
  abbrev pub past_of : List Item → Past
  past_of [] = []
  past_of (item ∷ items) = past_after (past_of items) (signals item)

-- The stream

-- the bytes of the newest connection
abbrev pub received : Past → List ℕ
received [] = []
received (Began ∷ past) = []
received (Came byte ∷ past) = received past ++ byte ∷ []
received (_ ∷ past) = received past

-- its whole frames, in order
abbrev pub frames_of : Past → List (List ℕ)
frames_of [] = []
frames_of (Began ∷ past) = []
frames_of (Took message ∷ past) = frames_of past ++ held_of past ∷ []
frames_of (_ ∷ past) = frames_of past

-- The bytes that came are whole frames, and then less than one.
pub record IsStream (limits : FrameLimits) (past : Past) : Type 0 where
  pub whole : received past ≡ flat_map (λ frame. frame) (frames_of past) ++ held_of past
  pub each : AllByRecursion (λ bytes. cut limits.incoming bytes ≡ Payload (drop 4 bytes)) (frames_of past)
  pub rest : cut limits.incoming (held_of past) ≡ Unfinished
