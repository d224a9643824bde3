-- What happens to a client is in range: what it takes is read of a payload, and what it sends was not refused. By induction on the items,
-- signal by signal.
use Rattle.std.proofs.Common.{◌≡◌, ℕ, zero, suc, ℤ, pos, negsuc, ◌+◌, ◌≤◌, ◌^◌, Bool, true, false, cond, eqb, leb, ltb, ◌&&◌, List, [], ◌∷◌}
use Rattle.std.proofs.Common.{◌++◌, map, reverse, drop, length, Option, Some, None, Ok, Err, refl, sym, subst, ◌∙◌, arith, length-drop}
use Rattle.std.proofs.Common.{ltb-false, ltb-true}
use Rattle.std.specs.Prelude.{◌≢◌, FitsSigned, int_lt, nat_le, ◌==◌, filter, not, Result as Reading}
use Rattle.std.specs.List.{AllByRecursion}
use Rattle.std.specs.Int.{w64}
use Rattle.std.specs.Ordering.{int_eq}
use Rattle.std.proofs.lemmas.Bool.Decides.{Decides-eqb}
use Rattle.zk_jute.specs.declared.fault.TakeError.{TakeError}
use Rattle.zk_jute.specs.Layout.{Value}
use Rattle.zk_jute.specs.Reading.{reading}
use Rattle.zk_nodes.specs.Path.{Text}
use Rattle.zk_records.specs.Events.{event_of}
use Rattle.zk_records.specs.declared.event.Event.{Event}
use Rattle.zk_records.specs.declared.reply_header.ReplyHeader.{ReplyHeader}
use Rattle.zk_records.specs.Layouts.{reply_header, watcher_event}
use Rattle.zk_records.specs.Response.{Response, response_at}
use Rattle.zk_frames.specs.declared.limits.FrameLimits.{FrameLimits}
use Rattle.zk_frames.specs.Frame.{length_field}
use Rattle.zk_frames.specs.declared.fault.FrameFault.TheVariants.{Negative, TooLong}
use Rattle.zk_session.specs.declared.states.State.{State}
use Rattle.zk_session.specs.declared.states.State.TheVariants.{Idle, Connecting, Connected, Expired, Closed}
use Rattle.zk_conversation.specs.declared.fault.TalkFault.{TalkFault}
use Rattle.zk_conversation.specs.declared.fault.TalkFault.TheVariants.{OtherXid}
use Rattle.zk_conversation.specs.declared.phase.Phase.{Phase}
use Rattle.zk_conversation.specs.declared.phase.Phase.TheVariants.{Talking, Opening, Closed as Nowhere}
use Rattle.zk_conversation.specs.Calls.{Call, call_payload}
use Rattle.zk_conversation.specs.Questions.{Question, question_of, watched_side}
use Rattle.zk_conversation.specs.Results.{Result, result_of, response_timeout, response_session, response_password}
use Rattle.zk_conversation.specs.Pending.{Pending, Waiting, Part_waits, Call_waits, calls_pending, is_close_pending}
use Rattle.zk_conversation.specs.Arriving.{Arrived, Connected as Welcomed, Replied, Watches_set as Part_set, Notice, Pong as Ponged}
use Rattle.zk_conversation.specs.Arriving.{Skipped as Passed, header_of, first_arriving, noticed, notice_arriving, call_arriving}
use Rattle.zk_conversation.specs.Arriving.{reply_arriving, oldest_arriving, header_arriving, later_arriving, arriving}
use Rattle.zk_watches.specs.Lists.{Lists}
use Rattle.zk_watches.specs.Parts.{parts}
use Rattle.zk_turns.specs.Turns.{Start, Outcome, SessionClosed, TooManyWatches, TooLarge, TooManyPending, Behind, WatchesRefused, Input}
use Rattle.zk_turns.specs.Turns.{Opened, Bytes, Cut, Now, Call as Asks, Signal, Opens, Comes, Cuts, Ticks, Calls, Forget, Halt, Item}
use Rattle.zk_turns.specs.Turns.{Turned, Forgets, Halts, signals_of}
use Rattle.zk_turns.specs.Past.{Past, Happening, Began, Came, Took, Dropped, Lost, Asked, Ticked, Message, Accepted, Expiry, Replies}
use Rattle.zk_turns.specs.Past.{Watches_set, Notifies, Pong, Skipped, Asking, For_part, For_call, pending_for, parts_asked, questions}
use Rattle.zk_turns.specs.Past.{answered, awaited, pending_of, is_talking, state_of, held_of, has_halted, xid_of, lists_of, last_of}
use Rattle.zk_turns.specs.Past.{session_of, path_of_read, path_of_reply, arrivals, firsts, listed}
use Rattle.std.specs.Int.{int_max}
use Rattle.zk_turns.specs.View.{View, view_at}
use Rattle.zk_turns.specs.Taken.{cut, cut_at, longest, Cutting, Unfinished, Bad, Payload, of_cutting, comes, phase_of, welcome_by}
use Rattle.zk_turns.specs.Taken.{leaves_watch}
use Rattle.zk_turns.specs.Taken.{taken_of, is_full_on, refusal, opens, caused, happenings, joined, past_after, past_of}
use Rattle.zk_turns.specs.Ranges.{AsksOf, AllAskOf, IsResumable}
use Rattle.zk_turns.proofs.Cases.{by_cond, by_header, by_open, by_due}
use Rattle.zk_turns.proofs.Fields.{header_ok, response_ok}
use Rattle.zk_turns.proofs.Fitting.{IsShort, read_short}
use Rattle.zk_turns.proofs.Lists.{reverse-cons}
use Rattle.zk_turns.proofs.Pieces.{cut_there, cut_short}
use Rattle.zk_turns.proofs.Words.{happening_of, refusal_in, calls}
use Rattle.zk_frames.specs.declared.limits.TheConstants.{HIGHEST_LIMIT}
use Rattle.zk_limits.specs.declared.limits.TheConstants.{LONGEST_INCOMING, MOST_PENDING}

-- ---- all of a list

pub all_append : {A : Type 0} (Q : A → Type 0) (xs ys : List A) → AllByRecursion Q xs → AllByRecursion Q ys → AllByRecursion Q (xs ++ ys)
all_append Q [] ys a b = b
all_append Q (x ∷ xs) ys a b = (a.0, all_append Q xs ys a.1 b)

all_drop : {A : Type 0} (Q : A → Type 0) (n : ℕ) (xs : List A) → AllByRecursion Q xs → AllByRecursion Q (drop n xs)
all_drop Q zero [] a = tt
all_drop Q zero (x ∷ xs) a = a
all_drop Q (suc n) [] a = tt
all_drop Q (suc n) (x ∷ xs) a = all_drop Q n xs a.1

module _ (Q : Text → Type 0) where
  all_filter : (f : Text → Bool) (xs : List Text) → AllByRecursion Q xs → AllByRecursion Q (filter f xs)
  all_filter f [] a = tt
  all_filter f (x ∷ xs) a = by (f x) (all_filter f xs a.1)
    where
      by : (b : Bool) → AllByRecursion Q (filter f xs) → AllByRecursion Q (cond b (x ∷ filter f xs) (filter f xs))
      by true r = (a.0, r)
      by false r = r

  all_firsts : (xs : List Text) → AllByRecursion Q xs → AllByRecursion Q (firsts xs)
  all_firsts [] a = tt
  all_firsts (x ∷ xs) a = (a.0, all_filter _ (firsts xs) (all_firsts xs a.1))

  all_reverse : (xs : List Text) → AllByRecursion Q xs → AllByRecursion Q (reverse xs)
  all_reverse [] a = tt
  all_reverse (x ∷ xs) a =
      subst (AllByRecursion Q) (sym (reverse-cons x xs)) (all_append Q (reverse xs) (x ∷ []) (all_reverse xs a.1) (a.0, tt))

-- ---- what is in range

-- the question of one of these calls, whose request was not too long
pub record IsOfCall (P : Call → Type 0) (question : Question) : Type 0 where
  pub xid : ℤ
  pub call : Call
  pub of : P call
  pub short : length (call_payload xid call) ≤ HIGHEST_LIMIT
  pub is : question_of call ≡ question

module _ (P : Call → Type 0) where
  abbrev pub IsRangedMessage : Message → Type 0
  IsRangedMessage (Accepted welcome) = FitsSigned w64 welcome.session × (length welcome.password ≤ LONGEST_INCOMING)
  IsRangedMessage (Replies ticket question zxid result) = FitsSigned w64 zxid × IsOfCall P question
  IsRangedMessage (Watches_set last zxid) = FitsSigned w64 zxid
  IsRangedMessage _ = Unit {0}

  abbrev pub IsRanged : Happening → Past → Type 0
  IsRanged (Asked ticket call) past = P call × (length (call_payload (pos (xid_of past)) call) ≤ HIGHEST_LIMIT)
  IsRanged (Took message) past = IsRangedMessage message
  IsRanged _ past = Unit {0}

  abbrev pub AreRanged : Past → Type 0
  AreRanged [] = Unit {0}
  AreRanged (happening ∷ past) = IsRanged happening past × AreRanged past

  -- ---- what waits

  abbrev OfAsked : Asking → Type 0
  OfAsked (For_part last) = Unit {0}
  OfAsked (For_call xid ticket call) = P call × (length (call_payload (pos xid) call) ≤ HIGHEST_LIMIT)

  abbrev OfWaiting : Waiting → Type 0
  OfWaiting (Part_waits last) = Unit {0}
  OfWaiting (Call_waits ticket question) = IsOfCall P question

  abbrev OfPending : Pending → Type 0
  OfPending pending = OfWaiting pending.waiting

  parts_of : (ps : List Lists) → AllByRecursion OfAsked (parts_asked ps)
  parts_of [] = tt
  parts_of (part ∷ []) = (tt, tt)
  parts_of (part ∷ next ∷ more) = (tt, parts_of (next ∷ more))

  asked_of : (past : Past) → AreRanged past → AllByRecursion OfAsked (questions past)
  asked_of [] r = tt
  asked_of (Began ∷ past) r = tt
  asked_of (Took (Accepted welcome) ∷ past) r = parts_of (parts (lists_of past))
  asked_of (Asked ticket call ∷ past) r =
      all_append OfAsked (questions past) (For_call (xid_of past) ticket call ∷ []) (asked_of past r.1) (r.0, tt)
  asked_of (Took Expiry ∷ past) r = asked_of past r.1
  asked_of (Took (Replies ticket question zxid result) ∷ past) r = asked_of past r.1
  asked_of (Took (Watches_set last zxid) ∷ past) r = asked_of past r.1
  asked_of (Took (Notifies event path) ∷ past) r = asked_of past r.1
  asked_of (Took Pong ∷ past) r = asked_of past r.1
  asked_of (Took Skipped ∷ past) r = asked_of past r.1
  asked_of (_ ∷ past) r = asked_of past r.1

  waits_of : (asked : List Asking) → AllByRecursion OfAsked asked → AllByRecursion OfPending (map pending_for asked)
  waits_of [] a = tt
  waits_of (For_part last ∷ asked) a = (tt, waits_of asked a.1)
  waits_of (For_call xid ticket call ∷ asked) a =
      (record { xid = pos xid; call = call; of = a.0.0; short = a.0.1; is = refl }, waits_of asked a.1)

  pending_ranged : (past : Past) → AreRanged past → AllByRecursion OfPending (pending_of past)
  pending_ranged past r = waits_of (awaited past) (by (is_talking (state_of past)))
    where
      by : (b : Bool) → AllByRecursion OfAsked (cond b (drop (answered past) (questions past)) [])
      by true = all_drop OfAsked (answered past) (questions past) (asked_of past r)
      by false = tt

  -- ---- what arrives

  module _ (n : ℕ) where
    abbrev OfArrived : Arrived → Type 0
    OfArrived (Welcomed response) = FitsSigned w64 (response_session response) × (length (response_password response) ≤ n)
    OfArrived (Replied ticket question zxid result) = FitsSigned w64 zxid × IsOfCall P question
    OfArrived (Part_set last zxid err) = FitsSigned w64 zxid
    OfArrived _ = Unit {0}

    abbrev OfReading : Reading Arrived TalkFault → Type 0
    OfReading (Ok arrived) = OfArrived arrived
    OfReading (Err fault) = Unit {0}

    of_event : (event : Option Event) (path : Text) → OfArrived (noticed event path)
    of_event (Some event) path = tt
    of_event None path = tt

    of_notice : (r : Reading (Value watcher_event × List ℕ) TakeError) → OfReading (notice_arriving r)
    of_notice (Ok found) = of_event (event_of found.0.0) _
    of_notice (Err fault) = tt

    of_call : (ticket : ℕ) (question : Question) (zxid : ℤ) (r : Reading Result TakeError)
        → FitsSigned w64 zxid → IsOfCall P question → OfReading (call_arriving ticket question zxid r)
    of_call ticket question zxid (Ok result) z q = (z, q)
    of_call ticket question zxid (Err fault) z q = tt

    of_reply : (waiting : Waiting) (header : ReplyHeader) (end : ℕ) (bytes : List ℕ)
        → FitsSigned w64 header.zxid → OfWaiting waiting → OfReading (reply_arriving waiting header end bytes)
    of_reply (Part_waits last) header end bytes z w = z
    of_reply (Call_waits ticket question) header end bytes z w =
        of_call ticket question header.zxid (result_of question header.err end bytes) z w

    of_oldest : (ps : List Pending) (header : ReplyHeader) (end : ℕ) (bytes : List ℕ)
        → FitsSigned w64 header.zxid → AllByRecursion OfPending ps → OfReading (oldest_arriving ps header end bytes)
    of_oldest [] header end bytes z w = tt
    of_oldest (oldest ∷ more) header end bytes z w =
        by_cond OfReading (int_eq oldest.xid header.xid) (reply_arriving oldest.waiting header end bytes)
        (Err (OtherXid oldest.xid header.xid)) (of_reply oldest.waiting header end bytes z w.0) tt

    of_header : (ps : List Pending) (header : ReplyHeader) (end : ℕ) (bytes : List ℕ)
        → FitsSigned w64 header.zxid → AllByRecursion OfPending ps → OfReading (header_arriving ps header end bytes)
    of_header ps header end bytes z w =
        by_header OfReading ps header end bytes (of_notice (reading watcher_event end bytes)) tt tt (of_oldest ps header end bytes z w)

    of_later : (ps : List Pending) (end : ℕ) (payload : List ℕ) (r : Reading (Value reply_header × List ℕ) TakeError)
        → reading reply_header end payload ≡ r → AllByRecursion OfPending ps → OfReading (later_arriving ps end r)
    of_later ps end payload (Ok found) e w = of_header ps (header_of found.0) end found.1 (header_ok end payload found e) w
    of_later ps end payload (Err fault) e w = tt

    of_first : (end : ℕ) (payload : List ℕ) (r : Reading (Response × List ℕ) TakeError)
        → response_at end payload ≡ r → length payload ≤ n → OfReading (first_arriving r)
    of_first end payload (Ok found) e l = let s = response_ok end payload found e in let k = s.1 in (s.0, omega arith)
    of_first end payload (Err fault) e l = tt

    of_talk : (ps : List Pending) (payload : List ℕ) → AllByRecursion OfPending ps → OfReading (arriving Talking ps payload)
    unfolding arriving
    of_talk ps payload w = of_later ps (length payload) payload (reading reply_header (length payload) payload) refl w

    of_welcome : (phase : Phase) → phase ≢ Talking → (ps : List Pending) (payload : List ℕ)
        → length payload ≤ n → OfReading (arriving phase ps payload)
    unfolding arriving
    of_welcome Talking other ps payload l = absurd (other refl)
    of_welcome Opening other ps payload l = of_first (length payload) payload (response_at (length payload) payload) refl l
    of_welcome Nowhere other ps payload l = of_first (length payload) payload (response_at (length payload) payload) refl l

  -- a password comes with the first payload of a connection, whose limit is that of every session
  of_arriving : (limits : FrameLimits) (state : State) (ps : List Pending) (payload : List ℕ)
      → length payload ≤ longest limits state → AllByRecursion OfPending ps
      → OfReading LONGEST_INCOMING (arriving (phase_of state) ps payload)
  of_arriving limits Connected ps payload l w = of_talk LONGEST_INCOMING ps payload w
  of_arriving limits Connecting ps payload l w = of_welcome LONGEST_INCOMING Opening (λ e. cc) ps payload l
  of_arriving limits Idle ps payload l w = of_welcome LONGEST_INCOMING Nowhere (λ e. cc) ps payload l
  of_arriving limits Expired ps payload l w = of_welcome LONGEST_INCOMING Nowhere (λ e. cc) ps payload l
  of_arriving limits Closed ps payload l w = of_welcome LONGEST_INCOMING Nowhere (λ e. cc) ps payload l

  -- ---- what is taken

  module _ (past : Past) where
    welcome_ranged : (timeout session : ℤ) (password : List ℕ)
        → FitsSigned w64 session → length password ≤ LONGEST_INCOMING → IsRanged (Took (welcome_by timeout session password)) past
    welcome_ranged (pos n) session password s p = by (n == 0)
      where
        by : (b : Bool) → IsRanged (Took (cond b Expiry (Accepted (record { timeout = n; session = session; password = password })))) past
        by true = tt
        by false = (s, p)
    welcome_ranged (negsuc n) session password s p = tt

    taken_ranged : (last : ℤ) (arrived : Arrived) → OfArrived LONGEST_INCOMING arrived → IsRanged (taken_of last arrived) past
    taken_ranged last (Welcomed response) a =
        welcome_ranged (response_timeout response) (response_session response) (response_password response) a.0 a.1
    taken_ranged last (Replied ticket question zxid result) a =
        by_cond (λ h. IsRanged h past) (leaves_watch question result && int_lt zxid last) (Dropped (Behind last zxid))
        (Took (Replies ticket question zxid result)) tt a
    taken_ranged last (Part_set final zxid err) a =
        by_cond (λ h. IsRanged h past) (int_eq err (pos 0)) (Took (Watches_set final zxid)) (Dropped (WatchesRefused err)) a tt
    taken_ranged last (Notice event path) a = tt
    taken_ranged last Ponged a = tt
    taken_ranged last Passed a = tt

    result_ranged : (last : ℤ) (r : Reading Arrived TalkFault) → OfReading LONGEST_INCOMING r → IsRanged (happening_of last r) past
    result_ranged last (Ok arrived) a = taken_ranged last arrived a
    result_ranged last (Err fault) a = tt

  -- ---- what happens

  short_by : (most : ℕ) (bytes payload : List ℕ) (n : ℕ) (a b c : Bool) → ltb most n ≡ b → eqb (length bytes) (4 + n) ≡ c
      → cond a (Bad Negative) (cond b (Bad TooLong) (cond c (Payload (drop 4 bytes)) Unfinished)) ≡ Payload payload
      → length payload ≤ most
  short_by most bytes payload n true b c e f g = absurd cc
  short_by most bytes payload n false true c e f g = absurd cc
  short_by most bytes payload n false false true e f g =
      let l = ltb-false most n e in
      let whole = (Decides-eqb (length bytes) (4 + n)).0 f in
      let is : drop 4 bytes ≡ payload = cc in
      subst (λ p. length p ≤ most) is (omega (arith, length-drop 4 bytes))
  short_by most bytes payload n false false false e f g = absurd cc

  -- a payload is no longer than is admitted
  payload_short : (most : ℕ) (bytes payload : List ℕ) → cut most bytes ≡ Payload payload → length payload ≤ most
  payload_short most bytes payload e = by (ltb (length bytes) 4) refl
    where
      at : 4 ≤ length bytes → cut_at most (length_field bytes) bytes ≡ Payload payload
      at there = sym (cut_there most bytes there) ∙ e

      by : (b : Bool) → ltb (length bytes) 4 ≡ b → length payload ≤ most
      by true short = let f = cut_short most bytes (ltb-true (length bytes) 4 short) in absurd cc
      by false there =
          short_by most bytes payload (length_field bytes) (leb (2 ^ 31) (length_field bytes)) (ltb most (length_field bytes))
          (eqb (length bytes) (4 + length_field bytes)) refl refl
          (at (ltb-false (length bytes) 4 there))

  not_this : (b : Bool) (why : Outcome) (rest : Option Outcome) → cond b (Some why) rest ≡ None → rest ≡ None
  not_this true why rest e = absurd cc
  not_this false why rest e = e

  not_long : (b : Bool) → cond b (Some TooLarge) None ≡ None → b ≡ false
  not_long true e = absurd cc
  not_long false e = refl

  -- a call that is not refused is not too long
  pub sent_short : (state : State) (view : View) (call : Call)
      → refusal_in state view call ≡ None → length (call_payload (pos view.xid) call) ≤ HIGHEST_LIMIT
  sent_short Connected view call e =
      let long = ltb view.limits.outgoing (length (call_payload (pos view.xid) call)) in
      let third : Option Outcome = cond long (Some TooLarge) None in
      let second : Option Outcome = cond (is_full_on view (watched_side (question_of call))) (Some TooManyWatches) third in
      let first : Option Outcome = cond (nat_le MOST_PENDING (calls_pending view.pending)) (Some TooManyPending) second in
      let a = not_this (is_close_pending view.pending) SessionClosed first e in
      let b = not_this (nat_le MOST_PENDING (calls_pending view.pending)) TooManyPending second a in
      let c = not_this (is_full_on view (watched_side (question_of call))) TooManyWatches third b in
      let d = ltb-false view.limits.outgoing (length (call_payload (pos view.xid) call)) (not_long long c) in
      omega (arith, view.limits.most_outgoing)
  sent_short _ view call e = absurd cc

  abbrev OfSignal : Signal → Type 0
  OfSignal (Calls ticket call) = P call
  OfSignal _ = Unit {0}

  module _ (start : Start) where
    cutting_ranged : (cutting : Cutting) (byte : ℕ) (past : Past) → AreRanged past
        → cut (longest start.limits (state_of past)) (held_of past ++ byte ∷ []) ≡ cutting
        → AreRanged (joined (Came byte ∷ past) (of_cutting (view_at start past) cutting))
    cutting_ranged Unfinished byte past r e = (tt, r)
    cutting_ranged (Bad fault) byte past r e = (tt, (tt, r))
    cutting_ranged (Payload payload) byte past r e = (
      result_ranged (Came byte ∷ past) (last_of start past) (arriving (phase_of (state_of past)) (pending_of past) payload)
          (of_arriving start.limits (state_of past) (pending_of past) payload
          (payload_short (longest start.limits (state_of past)) (held_of past ++ byte ∷ []) payload e) (pending_ranged past r)),
      (tt, r),
    )

    abbrev RangedBehind : Past → List Happening → Type 0
    RangedBehind past more = AreRanged (joined past more)

    opens_ranged : (state : State) (past : Past) → AreRanged past → AreRanged (joined past (opens state))
    opens_ranged Idle past r = (tt, r)
    opens_ranged Connecting past r = (tt, (tt, r))
    opens_ranged Connected past r = (tt, (tt, r))
    opens_ranged _ past r = r

    calls_ranged : (ticket : ℕ) (call : Call) (why : Option Outcome) (past : Past)
        → P call → (why ≡ None → length (call_payload (pos (xid_of past)) call) ≤ HIGHEST_LIMIT)
        → AreRanged past → AreRanged (joined past (calls ticket call why))
    calls_ranged ticket call None past p short r = ((p, short refl), r)
    calls_ranged ticket call (Some why) past p short r = (tt, r)

    caused_ranged : (signal : Signal) (past : Past)
        → OfSignal signal → AreRanged past → AreRanged (joined past (caused (view_at start past) signal))
    caused_ranged Opens past o r = opens_ranged (state_of past) past r
    caused_ranged (Comes byte) past o r = by_open (RangedBehind past) (state_of past) (comes (view_at start past) byte) r
        (cutting_ranged (cut (longest start.limits (state_of past)) (held_of past ++ byte ∷ [])) byte past r refl)
    caused_ranged Cuts past o r = by_open (RangedBehind past) (state_of past) (Lost ∷ []) r (tt, r)
    caused_ranged (Ticks moment) past o r = by_open (RangedBehind (Ticked moment ∷ past)) (state_of past) _ (tt, r)
        (by_due (RangedBehind (Ticked moment ∷ past)) (view_at start past) _ (tt, (tt, r)) (tt, (tt, r)) (tt, r))
    caused_ranged (Calls ticket call) past o r =
        calls_ranged ticket call (refusal (view_at start past) call) past o (sent_short (state_of past) (view_at start past) call) r
    caused_ranged Forget past o r = (tt, r)
    caused_ranged Halt past o r = (tt, r)

    signal_ranged : (signal : Signal) (past : Past)
        → OfSignal signal → AreRanged past → AreRanged (joined past (happenings (view_at start past) signal))
    signal_ranged Forget past o r = (tt, r)
    signal_ranged Halt past o r = (tt, r)
    signal_ranged signal past o r =
        by_cond (RangedBehind past) (has_halted past) [] (caused (view_at start past) signal) r (caused_ranged signal past o r)

    signals_ranged : (more : List Signal) (past : Past)
        → AllByRecursion OfSignal more → AreRanged past → AreRanged (past_after start past more)
    signals_ranged [] past o r = r
    signals_ranged (signal ∷ more) past o r =
        signals_ranged more (joined past (happenings (view_at start past) signal)) o.1 (signal_ranged signal past o.0 r)

    bytes_of : (bytes : List ℕ) → AllByRecursion OfSignal (map Comes bytes)
    bytes_of [] = tt
    bytes_of (byte ∷ bytes) = (tt, bytes_of bytes)

    input_of : (input : Input) → AsksOf P input → AllByRecursion OfSignal (signals_of input)
    input_of Opened a = (tt, tt)
    input_of (Bytes bytes) a = bytes_of bytes
    input_of Cut a = (tt, tt)
    input_of (Now moment) a = (tt, tt)
    input_of (Asks ticket call) a = (a, tt)

    -- Where each call is of these, all that happened is in range.
    pub items_ranged : (items : List Item) → AllAskOf P items → AreRanged (past_of start items)
    items_ranged [] a = tt
    items_ranged (Turned turn ∷ items) a =
        signals_ranged (signals_of turn.input) (past_of start items) (input_of turn.input a.0) (items_ranged items a.1)
    items_ranged (Forgets ∷ items) a = signals_ranged (Forget ∷ []) (past_of start items) (tt, tt) (items_ranged items a)
    items_ranged (Halts ∷ items) a = signals_ranged (Halt ∷ []) (past_of start items) (tt, tt) (items_ranged items a)

    -- ---- what is asked for as a connection begins

    later_fits : (a b : ℤ) → FitsSigned w64 a → FitsSigned w64 b → FitsSigned w64 (int_max a b)
    later_fits a b p q = by (int_lt b a)
      where
        by : (c : Bool) → FitsSigned w64 (cond c a b)
        by true = p
        by false = q

    -- the last seen zxid
    pub last_fits : (past : Past) → FitsSigned w64 start.last → AreRanged past → FitsSigned w64 (last_of start past)
    last_fits [] l r = l
    last_fits (Took (Replies ticket question zxid result) ∷ past) l r = later_fits zxid (last_of start past) r.0.0 (last_fits past l r.1)
    last_fits (Took (Watches_set true zxid) ∷ past) l r = later_fits zxid (last_of start past) r.0 (last_fits past l r.1)
    last_fits (Took (Watches_set false zxid) ∷ past) l r = last_fits past l r.1
    last_fits (Took (Accepted welcome) ∷ past) l r = last_fits past l r.1
    last_fits (Took Expiry ∷ past) l r = last_fits past l r.1
    last_fits (Took (Notifies event path) ∷ past) l r = last_fits past l r.1
    last_fits (Took Pong ∷ past) l r = last_fits past l r.1
    last_fits (Took Skipped ∷ past) l r = last_fits past l r.1
    last_fits (_ ∷ past) l r = last_fits past l r.1

    -- the session and its password
    pub session_ranged : (past : Past) → IsResumable start → AreRanged past
        → FitsSigned w64 (session_of start past).session × (length (session_of start past).password ≤ LONGEST_INCOMING)
    session_ranged [] s r = let p = s.password in (s.session, omega arith)
    session_ranged (Took (Accepted welcome) ∷ past) s r = r.0
    session_ranged (Took (Replies ticket question zxid result) ∷ past) s r = session_ranged past s r.1
    session_ranged (Took (Watches_set last zxid) ∷ past) s r = session_ranged past s r.1
    session_ranged (Took Expiry ∷ past) s r = session_ranged past s r.1
    session_ranged (Took (Notifies event path) ∷ past) s r = session_ranged past s r.1
    session_ranged (Took Pong ∷ past) s r = session_ranged past s r.1
    session_ranged (Took Skipped ∷ past) s r = session_ranged past s r.1
    session_ranged (_ ∷ past) s r = session_ranged past s r.1

  -- ---- the lists

  module _ (Q : Text → Type 0) (paths_of : (call : Call) → P call → AllByRecursion Q (path_of_read (question_of call))) where
    question_short : (question : Question) → IsOfCall P question → AllByRecursion (IsShort Q) (path_of_read question)
    question_short question o =
        subst (λ q. AllByRecursion (IsShort Q) (path_of_read q)) o.is (read_short Q o.xid o.call o.short (paths_of o.call o.of))

    reply_short : (happening : Happening) (past : Past) → IsRanged happening past → AllByRecursion (IsShort Q) (path_of_reply happening)
    reply_short (Took (Replies ticket question zxid result)) past r = question_short question r.1
    reply_short (Took (Accepted welcome)) past r = tt
    reply_short (Took Expiry) past r = tt
    reply_short (Took (Watches_set last zxid)) past r = tt
    reply_short (Took (Notifies event path)) past r = tt
    reply_short (Took Pong) past r = tt
    reply_short (Took Skipped) past r = tt
    reply_short _ past r = tt

    arrivals_short : (is_in : Text → Past → Bool) (past : Past) → AreRanged past → AllByRecursion (IsShort Q) (arrivals is_in past)
    arrivals_short is_in [] r = tt
    arrivals_short is_in (happening ∷ past) r =
        all_append (IsShort Q) (filter (λ path. is_in path (happening ∷ past) && not (is_in path past)) (path_of_reply happening))
        (arrivals is_in past)
        (all_filter (IsShort Q) (λ path. is_in path (happening ∷ past) && not (is_in path past)) (path_of_reply happening)
        (reply_short happening past r.0))
        (arrivals_short is_in past r.1)

    -- The paths of a list were asked about, so they are short.
    pub listed_short : (is_in : Text → Past → Bool) (past : Past) → AreRanged past → AllByRecursion (IsShort Q) (listed is_in past)
    listed_short is_in past r =
        all_reverse (IsShort Q) (filter (λ path. is_in path past) (firsts (arrivals is_in past)))
        (all_filter (IsShort Q) (λ path. is_in path past) (firsts (arrivals is_in past))
        (all_firsts (IsShort Q) (arrivals is_in past) (arrivals_short is_in past r)))
