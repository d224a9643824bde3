-- The bytes that came are whole frames, and then less than one: by induction on the items, as each byte either makes what is held longer or
-- ends a frame, which is cut off.
use Rattle.zk_conversation.specs.Calls.{Call}
use Rattle.zk_turns.specs.Taken.{phase_of, taken_of}
use Rattle.zk_conversation.specs.Arriving.{Arrived, Connected as Welcomed, Replied, Watches_set as Part_set, Notice, Pong as Ponged}
use Rattle.zk_conversation.specs.Arriving.{Skipped as Passed, arriving}
use Rattle.zk_conversation.specs.declared.fault.TalkFault.{TalkFault}
use Rattle.std.proofs.Common.{◌≡◌, ◌≢◌, ◌≤◌, ℕ, ◌+◌, ◌^◌, ℤ, pos, Bool, true, false, cond, ◌&&◌, List, [], ◌∷◌, ◌++◌, drop, length, Option}
use Rattle.std.proofs.Common.{Some}
use Rattle.std.proofs.Common.{None, Ok, Err, refl, sym, ap, ◌∙◌, append_assoc, arith, ltb-false}
use Rattle.std.specs.Prelude.{int_lt, nat_lt, nat_le, ◌==◌, if◌then◌else◌, Result as Reading}
use Rattle.std.specs.List.{flat_map, AllByRecursion}
use Rattle.std.specs.Ordering.{int_eq}
use Rattle.std.proofs.lemmas.List.{append-nil}
use Rattle.std.proofs.lemmas.Bool.{le-ltb}
use Rattle.zk_turns.specs.Turns.{Start, Outcome, Fault, Behind, WatchesRefused, Signal, Opens, Comes, Cuts, Ticks, Calls, Forget, Halt}
use Rattle.zk_turns.specs.Turns.{Item, signals}
use Rattle.zk_frames.specs.declared.fault.FrameFault.TheVariants.{Negative, TooLong}
use Rattle.zk_session.specs.declared.states.State.{State}
use Rattle.zk_session.specs.declared.states.State.TheVariants.{Idle, Connecting, Connected}
use Rattle.zk_turns.specs.Past.{Past, Happening, Began, Came, Took, Dropped, Lost, Pinged, Ticked, Message, Replies, Watches_set, state_of}
use Rattle.zk_turns.specs.Past.{held_of, has_halted}
use Rattle.zk_conversation.specs.Pending.{Pending}
use Rattle.zk_turns.specs.View.{View, view_at}
use Rattle.zk_turns.specs.Taken.{reading, leaves_watch, refusal, caused, happenings, opens, of_cutting, cut, longest, Cutting, Unfinished}
use Rattle.zk_turns.specs.Taken.{Bad}
use Rattle.zk_turns.specs.Taken.{Payload, due, joined, past_after, past_of, comes, if_open, cut_at, received, frames_of, IsStream}
use Rattle.zk_frames.specs.Frame.{length_field}
use Rattle.zk_turns.specs.Rule.{IsOpen}
use Rattle.zk_turns.proofs.Cases.{by_cond, by_open, by_due}
use Rattle.zk_turns.proofs.Words.{happening_of, calls}
use Rattle.zk_frames.specs.declared.limits.FrameLimits.{FrameLimits}

-- ---- a payload is taken, or the connection is dropped

module _ (P : Happening → Type 0) (takes : (message : Message) → P (Took message)) (drops : (fault : Fault) → P (Dropped fault)) where
  of_arrived : (last : ℤ) (arrived : Arrived) → P (taken_of last arrived)
  of_arrived last (Welcomed response) = takes _
  of_arrived last (Replied ticket question zxid result) = by_cond P (leaves_watch question result && int_lt zxid last)
      (Dropped (Behind last zxid)) (Took (Replies ticket question zxid result)) (drops _) (takes _)
  of_arrived last (Part_set final zxid err) =
      by_cond P (int_eq err (pos 0)) (Took (Watches_set final zxid)) (Dropped (WatchesRefused err)) (takes _) (drops _)
  of_arrived last (Notice event path) = takes _
  of_arrived last Ponged = takes _
  of_arrived last Passed = takes _

  of_result : (last : ℤ) (r : Reading Arrived TalkFault) → P (happening_of last r)
  of_result last (Ok arrived) = of_arrived last arrived
  of_result last (Err fault) = drops _

  pub of_reading : (state : State) (ps : List Pending) (last : ℤ) (payload : List ℕ) → P (reading state ps last payload)
  of_reading state ps last payload = of_result last (arriving (phase_of state) ps payload)

-- ---- the stream

abbrev IsFrame : (most : ℕ) → List ℕ → Type 0
IsFrame most bytes = cut most bytes ≡ Payload (drop 4 bytes)

abbrev StreamIfOpen : FrameLimits → Past → Type 0
StreamIfOpen limits past = IsOpen (state_of past) → IsStream limits past

joined_frames : (frames : List (List ℕ)) (held : List ℕ) → flat_map (λ f. f) (frames ++ held ∷ []) ≡ flat_map (λ f. f) frames ++ held
joined_frames [] held = append-nil held
joined_frames (f ∷ frames) held = ap (λ t. f ++ t) (joined_frames frames held) ∙ sym (append_assoc f (flat_map (λ t. t) frames) held)

all_push : (most : ℕ) (frames : List (List ℕ)) (frame : List ℕ) → AllByRecursion (IsFrame most) frames → IsFrame most frame
    → AllByRecursion (IsFrame most) (frames ++ frame ∷ [])
all_push most [] frame a f = (f, tt)
all_push most (g ∷ frames) frame a f = (a.0, all_push most frames frame a.1 f)

nothing_yet : (most : ℕ) → cut most [] ≡ Unfinished
unfolding cut
nothing_yet most = refl

byte_stream : (limits : FrameLimits) (byte : ℕ) (past : Past)
    → IsStream limits past → received (Came byte ∷ past) ≡ flat_map (λ f. f) (frames_of past) ++ (held_of past ++ byte ∷ [])
byte_stream limits byte past s = ap (λ t. t ++ byte ∷ []) s.whole
    ∙ append_assoc (flat_map (λ f. f) (frames_of past)) (held_of past) (byte ∷ [])

payload_at : (a b c : Bool) (bytes payload : List ℕ) (x y z : Cutting) → x ≢ Payload payload → y ≢ Payload payload → z ≢ Payload payload
    → cond a x (cond b y (cond c (Payload (drop 4 bytes)) z)) ≡ Payload payload → payload ≡ drop 4 bytes
payload_at true b c bytes payload x y z p q r e = absurd (p e)
payload_at false true c bytes payload x y z p q r e = absurd (q e)
payload_at false false true bytes payload x y z p q r e = cc
payload_at false false false bytes payload x y z p q r e = absurd (r e)

payload_or : (a : Bool) (bytes payload : List ℕ) (rest : Cutting) → (rest ≡ Payload payload → payload ≡ drop 4 bytes)
    → cond a Unfinished rest ≡ Payload payload → payload ≡ drop 4 bytes
payload_or true bytes payload rest h e = absurd cc
payload_or false bytes payload rest h e = h e

payload_is : (most : ℕ) (bytes payload : List ℕ) → cut most bytes ≡ Payload payload → payload ≡ drop 4 bytes
unfolding cut
payload_is most bytes payload e =
    payload_or (nat_lt (length bytes) 4) bytes payload (cut_at most (length_field bytes) bytes)
    (payload_at (nat_le (2 ^ 31) (length_field bytes)) (nat_lt most (length_field bytes))
    (length bytes == 4 + length_field bytes) bytes payload (Bad Negative) (Bad TooLong) Unfinished
    (λ f. cc) (λ f. cc) (λ f. cc))
    e

unfinished_stream : (limits : FrameLimits) (byte : ℕ) (past : Past) → IsStream limits past
    → cut limits.incoming (held_of past ++ byte ∷ []) ≡ Unfinished → IsStream limits (Came byte ∷ past)
unfinished_stream limits byte past s e = record { whole = byte_stream limits byte past s; each = s.each; rest = e }

taken_stream : (limits : FrameLimits) (message : Message) (byte : ℕ) (past : Past) (payload : List ℕ) → IsStream limits past
    → cut limits.incoming (held_of past ++ byte ∷ []) ≡ Payload payload → IsStream limits (Took message ∷ Came byte ∷ past)
taken_stream limits message byte past payload s e = record {
  whole =
      byte_stream limits byte past s
      ∙ sym (joined_frames (frames_of past) (held_of past ++ byte ∷ []))
      ∙ sym (append-nil (flat_map (λ f. f) (frames_of past ++ (held_of past ++ byte ∷ []) ∷ [])));
  each = all_push limits.incoming (frames_of past) (held_of past ++ byte ∷ []) s.each
      (e ∙ ap Payload (payload_is limits.incoming (held_of past ++ byte ∷ []) payload e));
  rest = nothing_yet limits.incoming;
}

begun_stream : (limits : FrameLimits) (past : Past) → IsStream limits (Began ∷ past)
begun_stream limits past = record { whole = refl; each = tt; rest = nothing_yet limits.incoming }

-- ---- what is admitted before a session is accepted is admitted after it

higher : (low high n : ℕ) → low ≤ high → nat_lt low n ≡ false → nat_lt high n ≡ false
higher low high n le e = le-ltb high n (let f = ltb-false low n e in omega arith)

raised_at : (low high n : ℕ) (a b : Bool) (bytes : List ℕ) (cutting rest : Cutting) → low ≤ high → nat_lt low n ≡ b
    → cutting ≢ Bad TooLong → cond a (Bad Negative) (cond b (Bad TooLong) rest) ≡ cutting
    → cond a (Bad Negative) (cond (nat_lt high n) (Bad TooLong) rest) ≡ cutting
raised_at low high n true b bytes cutting rest le f other e = e
raised_at low high n false true bytes cutting rest le f other e = absurd (other (sym e))
raised_at low high n false false bytes cutting rest le f other e =
    ap (λ t. cond t (Bad TooLong) rest) (higher low high n le f) ∙ e

raised_or : (a : Bool) (x y cutting : Cutting) → (x ≡ cutting → y ≡ cutting) → cond a Unfinished x ≡ cutting → cond a Unfinished y ≡ cutting
raised_or true x y cutting f e = e
raised_or false x y cutting f e = f e

raised : (low high : ℕ) (bytes : List ℕ) (cutting : Cutting)
    → low ≤ high → cutting ≢ Bad TooLong → cut low bytes ≡ cutting → cut high bytes ≡ cutting
unfolding cut
raised low high bytes cutting le other e =
    raised_or (nat_lt (length bytes) 4) (cut_at low (length_field bytes) bytes) (cut_at high (length_field bytes) bytes) cutting
    (raised_at low high (length_field bytes) (nat_le (2 ^ 31) (length_field bytes)) (nat_lt low (length_field bytes)) bytes cutting
    (if length bytes == 4 + length_field bytes then Payload (drop 4 bytes) else Unfinished) le refl other) e

within : (limits : FrameLimits) (state : State) → longest limits state ≤ limits.incoming
within limits Connected = omega arith
within limits _ = limits.least_incoming

module _ (start : Start) where
  cutting_stream : (cutting : Cutting) (byte : ℕ) (past : Past) → IsStream start.limits past
      → cut (longest start.limits (state_of past)) (held_of past ++ byte ∷ []) ≡ cutting
      → StreamIfOpen start.limits (joined (Came byte ∷ past) (of_cutting (view_at start past) cutting))
  cutting_stream Unfinished byte past s e up = unfinished_stream start.limits byte past s
      (raised (longest start.limits (state_of past)) start.limits.incoming (held_of past ++ byte ∷ []) Unfinished
      (within start.limits (state_of past)) (λ f. cc) e)
  cutting_stream (Bad fault) byte past s e up = absurd cc
  cutting_stream (Payload payload) byte past s e up =
      of_reading (λ h. StreamIfOpen start.limits (h ∷ Came byte ∷ past)) (λ message o. taken_stream start.limits message byte past payload s
      (raised (longest start.limits (state_of past)) start.limits.incoming (held_of past ++ byte ∷ []) (Payload payload)
      (within start.limits (state_of past)) (λ f. cc) e)) (λ fault o. absurd cc)
      (state_of past) (view_at start past).pending (view_at start past).saved.last payload up

  byte_open : (state : State) (byte : ℕ) (past : Past) → (IsOpen state → IsStream start.limits past)
      → StreamIfOpen start.limits past → StreamIfOpen start.limits (joined past (if_open state (comes (view_at start past) byte)))
  byte_open Connecting byte past s whole =
      cutting_stream (cut (longest start.limits (state_of past)) (held_of past ++ byte ∷ [])) byte past (s refl) refl
  byte_open Connected byte past s whole =
      cutting_stream (cut (longest start.limits (state_of past)) (held_of past ++ byte ∷ [])) byte past (s refl) refl
  byte_open _ byte past s whole = whole

  lost_open : (state : State) (past : Past) → StreamIfOpen start.limits past
      → StreamIfOpen start.limits (joined past (if_open state (Lost ∷ [])))
  lost_open Connecting past s up = absurd cc
  lost_open Connected past s up = absurd cc
  lost_open _ past s up = s up

  abbrev StreamBehind : Past → List Happening → Type 0
  StreamBehind past more = StreamIfOpen start.limits (joined past more)

  due_stream : (view : View) (now : ℕ) (past : Past) → StreamIfOpen start.limits past
      → StreamIfOpen start.limits (joined past (due view now))
  due_stream view now past s = by_due (StreamBehind past) view now (λ up. absurd cc) pinged s
    where
      pinged : StreamIfOpen start.limits (Pinged ∷ past)
      pinged up = record { whole = (s up).whole; each = (s up).each; rest = (s up).rest }

  opened_stream : (state : State) (past : Past) → StreamIfOpen start.limits past → StreamIfOpen start.limits (joined past (opens state))
  opened_stream Idle past s up = begun_stream start.limits past
  opened_stream Connecting past s up = begun_stream start.limits (Lost ∷ past)
  opened_stream Connected past s up = begun_stream start.limits (Lost ∷ past)
  opened_stream _ past s up = s up

  called_stream : (ticket : ℕ) (question : Call) (why : Option Outcome) (past : Past)
      → StreamIfOpen start.limits past → StreamIfOpen start.limits (joined past (calls ticket question why))
  called_stream ticket question None past s up = record { whole = (s up).whole; each = (s up).each; rest = (s up).rest }
  called_stream ticket question (Some why) past s up = record { whole = (s up).whole; each = (s up).each; rest = (s up).rest }

  ticked : (moment : ℕ) (past : Past) → StreamIfOpen start.limits past → StreamIfOpen start.limits (Ticked moment ∷ past)
  ticked moment past s up = record { whole = (s up).whole; each = (s up).each; rest = (s up).rest }

  caused_stream : (signal : Signal) (past : Past) → StreamIfOpen start.limits past
      → StreamIfOpen start.limits (joined past (caused (view_at start past) signal))
  caused_stream Opens past s = opened_stream (state_of past) past s
  caused_stream (Comes byte) past s = byte_open (state_of past) byte past s s
  caused_stream Cuts past s = lost_open (state_of past) past s
  caused_stream (Ticks moment) past s =
      by_open (StreamBehind (Ticked moment ∷ past)) (state_of past) _ (ticked moment past s)
      (due_stream (view_at start past) _ (Ticked moment ∷ past) (ticked moment past s))
  caused_stream (Calls ticket question) past s = called_stream ticket question (refusal (view_at start past) question) past s
  caused_stream Forget past s = λ up. record { whole = (s up).whole; each = (s up).each; rest = (s up).rest }
  caused_stream Halt past s = λ up. record { whole = (s up).whole; each = (s up).each; rest = (s up).rest }

  signal_stream : (signal : Signal) (past : Past) → StreamIfOpen start.limits past
      → StreamIfOpen start.limits (joined past (happenings (view_at start past) signal))
  signal_stream Forget past s = caused_stream Forget past s
  signal_stream Halt past s = caused_stream Halt past s
  signal_stream signal past s =
      by_cond (StreamBehind past) (has_halted past) [] (caused (view_at start past) signal) s (caused_stream signal past s)

  signals_stream : (more : List Signal) (past : Past) → StreamIfOpen start.limits past
      → StreamIfOpen start.limits (past_after start past more)
  signals_stream [] past s = s
  signals_stream (signal ∷ more) past s =
      signals_stream more (joined past (happenings (view_at start past) signal)) (signal_stream signal past s)

  pub stream : (items : List Item) → IsOpen (state_of (past_of start items)) → IsStream start.limits (past_of start items)
  stream [] up = absurd cc
  stream (item ∷ items) up = signals_stream (signals item) (past_of start items) (stream items) up
