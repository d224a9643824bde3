-- Each request is told by its frame, and is read again: what was sent is of a length that a frame can tell, and fits its layout, so the
-- laws of layouts read it.
use Rattle.std.proofs.Common.{◌≡◌, ℕ, ℤ, pos, negsuc, ◌<◌, ◌^◌, ◌≤ℤ◌, Bool, true, false, List, [], ◌∷◌, ◌++◌, map, length, Some, Ok, refl}
use Rattle.std.proofs.Common.{sym, ap, subst, ◌∙◌, arith, append-nil}
use Rattle.std.specs.List.{AllByRecursion}
use Rattle.std.proofs.lemmas.Int.{ints}
use Rattle.zk_jute.specs.Layout.{Layout, Value}
use Rattle.zk_jute.specs.Reading.{reading}
use Rattle.zk_records.specs.Layouts.{connect_request}
use Rattle.zk_records.specs.Operations.{operation_number, request_layout}
use Rattle.zk_records.specs.declared.operation.Operation.TheVariants.{SetWatches, Ping as Pings}
use Rattle.zk_frames.specs.Frame.{joined}
use Rattle.zk_conversation.specs.Calls.{Call, wording, call_payload, connect_payload, part_xid, part_payload, ping_xid}
use Rattle.zk_conversation.specs.Calls.{ping_payload, texts_value}
use Rattle.zk_conversation.proofs.Lengths.{length-ping}
use Rattle.zk_watches.specs.Lists.{Lists}
use Rattle.zk_watches.specs.Parts.{parts}
use Rattle.zk_turns.specs.Turns.{Start, Item}
use Rattle.zk_turns.specs.View.{View}
use Rattle.zk_turns.specs.Rule.{Stands, IsOpen}
use Rattle.zk_turns.specs.Past.{Past, Happening, Began, Asked, Pinged, Took as Takes_in, Accepted as Accepts, Expiry}
use Rattle.zk_turns.specs.Past.{Replies as Answers_call, Watches_set as Sets_watches, Notifies as Tells, Pong as Echo, Skipped, last_of}
use Rattle.zk_turns.specs.Past.{session_of, lists_of, xid_of}
use Rattle.zk_turns.specs.Taken.{past_of}
use Rattle.zk_turns.specs.Ranges.{IsResumable, IsTyped, AllAskOf}
use Rattle.zk_turns.specs.Spelled.{WordingFits, ReadsAs}
use Rattle.zk_turns.proofs.Spelt.{call_read, part_read, connect_read, ping_read}
use Rattle.zk_turns.proofs.Fitting.{ping_fits}
use Rattle.zk_turns.proofs.Ranged.{all_append, AreRanged, items_ranged}
use Rattle.zk_turns.proofs.Requested.{Any, any_items, told_call, fits_call, IsTold, told_parts, PartFits, fits_parts, told_connect}
use Rattle.zk_turns.proofs.Requested.{fits_connect, connect_of}
use Rattle.zk_turns.proofs.Meant.{is_last_seen}
use Rattle.zk_laws.specs.Messages.{Connect, Restore, Ask, Ping, from_zero}
use Rattle.zk_laws.specs.Served.{Sent, part_requests, requests}
use Rattle.zk_laws.specs.Parsed.{AreTold, IsCutInto, stream_of, payloads_of, IsRecord, IsReadAs, AreReadAs}
use Rattle.zk_laws.proofs.Parsed.{beginning_found, all_found}

-- ---- lengths

abbrev IsToldOf : Sent → Type 0
IsToldOf sent = length sent.payload < 2 ^ 31

parts_told : (relative : ℤ) (ps : List Lists) → AllByRecursion (IsTold relative) ps → AllByRecursion IsToldOf (part_requests relative ps)
parts_told relative [] a = tt
parts_told relative (part ∷ []) a = (a.0, tt)
parts_told relative (part ∷ next ∷ more) a = (a.0, parts_told relative (next ∷ more) a.1)

ping_told : length ping_payload < 2 ^ 31
ping_told = let n = length-ping in omega arith

requests_told : (start : Start) (past : Past) → IsResumable start → AreRanged Any past → AllByRecursion IsToldOf (requests start past)
requests_told start [] s r = tt
requests_told start (Began ∷ past) s r = (told_connect start past s r.1, tt)
requests_told start (Takes_in (Accepts welcome) ∷ past) s r =
    all_append IsToldOf (requests start past) (part_requests (last_of start past) (parts (lists_of past))) (requests_told start past s r.1)
    (parts_told (last_of start past) (parts (lists_of past)) (told_parts (last_of start past) past r.1))
requests_told start (Asked ticket call ∷ past) s r =
    all_append IsToldOf (requests start past) _ (requests_told start past s r.1) (told_call past call r.0.1, tt)
requests_told start (Pinged ∷ past) s r = all_append IsToldOf (requests start past) _ (requests_told start past s r.1) (ping_told, tt)
requests_told start (Takes_in Expiry ∷ past) s r = requests_told start past s r.1
requests_told start (Takes_in (Answers_call ticket question zxid result) ∷ past) s r = requests_told start past s r.1
requests_told start (Takes_in (Sets_watches last zxid) ∷ past) s r = requests_told start past s r.1
requests_told start (Takes_in (Tells event path) ∷ past) s r = requests_told start past s r.1
requests_told start (Takes_in Echo ∷ past) s r = requests_told start past s r.1
requests_told start (Takes_in Skipped ∷ past) s r = requests_told start past s r.1
requests_told start (_ ∷ past) s r = requests_told start past s r.1

payloads_told : (sent : List Sent) → AllByRecursion IsToldOf sent → AreTold (map (λ s. s.payload) sent)
payloads_told [] a = tt
payloads_told (s ∷ sent) a = (a.0, payloads_told sent a.1)

-- Each payload is of a length that a frame can tell.
pub all_told : (start : Start) (items : List Item) → IsResumable start → AreTold (payloads_of start items)
all_told start items s = payloads_told (requests start (past_of start items))
    (requests_told start (past_of start items) s (items_ranged Any start items (any_items items)))

-- ---- readings

abbrev IsRead : Sent → Type 0
IsRead sent = IsReadAs sent.request sent.xid sent.payload

-- a record that is read again whatever follows is read where nothing does
alone : (layout : Layout) (value : Value layout) (payload : List ℕ) → reading layout (length payload) (payload ++ []) ≡ Ok (value, [])
    → IsRecord layout value payload
alone layout value payload e = ap (reading layout (length payload)) (sym (append-nil payload)) ∙ e

counted : (z : ℤ) → pos 0 ≤ℤ z → z ≡ pos (from_zero z)
counted (pos n) l = refl
counted (negsuc n) l = absurd (omega (arith, ints))

pub last_counted : (start : Start) (past : Past) → IsResumable start → last_of start past ≡ pos (from_zero (last_of start past))
last_counted start past s =
    let saved = (is_last_seen start past).saved in
    let counts = s.counts in
    counted (last_of start past) (omega (arith, ints))

call_is_read : (past : Past) (call : Call)
    → WordingFits (pos (xid_of past)) (wording call)
    → IsReadAs (Ask call) (pos (xid_of past)) (call_payload (pos (xid_of past)) call)
call_is_read past call f =
    subst (λ bytes. ReadsAs (pos (xid_of past)) (wording call) (length (call_payload (pos (xid_of past)) call)) bytes [])
    (append-nil (call_payload (pos (xid_of past)) call))
    (call_read (pos (xid_of past)) call (length (call_payload (pos (xid_of past)) call)) [] f)

abbrev payload_of_part : ℤ → Lists → List ℕ
payload_of_part relative part = part_payload relative part.data_watches part.exist_watches part.child_watches

part_is_read : (is_last : Bool) (relative : ℤ) (part : Lists) → relative ≡ pos (from_zero relative)
    → PartFits relative part → IsReadAs (Restore is_last (from_zero relative) part) part_xid (payload_of_part relative part)
part_is_read is_last relative part e f =
    subst (λ z. IsRecord (request_layout SetWatches) (
      part_xid,
      (
        operation_number SetWatches,
        (z, (texts_value part.data_watches, (texts_value part.exist_watches, texts_value part.child_watches))),
      ),
    )
    (payload_of_part relative part)) e
    (alone (request_layout SetWatches) (
      part_xid,
      (
        operation_number SetWatches,
        (
          relative,
          (texts_value part.data_watches, (texts_value part.exist_watches, texts_value part.child_watches)),
        ),
      ),
    ) (payload_of_part relative part)
    (part_read relative part.data_watches part.exist_watches part.child_watches (length (payload_of_part relative part)) [] f))

parts_read : (relative : ℤ) (ps : List Lists) → relative ≡ pos (from_zero relative)
    → AllByRecursion (PartFits relative) ps → AllByRecursion IsRead (part_requests relative ps)
parts_read relative [] e a = tt
parts_read relative (part ∷ []) e a = (part_is_read true relative part e a.0, tt)
parts_read relative (part ∷ next ∷ more) e a = (part_is_read false relative part e a.0, parts_read relative (next ∷ more) e a.1)

ping_is_read : IsReadAs Ping ping_xid ping_payload
ping_is_read =
    alone (request_layout Pings) (ping_xid, (operation_number Pings, tt)) ping_payload (ping_read (length ping_payload) [] ping_fits)

connect_is_read : (start : Start) (past : Past) → IsResumable start → AreRanged Any past
    → IsReadAs (Connect (from_zero (last_of start past))) (pos 0)
    (connect_payload (last_of start past) (pos start.timeout) (session_of start past).session (session_of start past).password)
connect_is_read start past s r =
    let last = last_of start past in
    let timeout = pos start.timeout in
    let session = (session_of start past).session in
    let password = (session_of start past).password in (
      timeout,
      session,
      password,
      subst (λ z. IsRecord connect_request (pos 0, (z, (timeout, (session, (Some password, false)))))
          (connect_payload last timeout session password)) (last_counted start past s)
          (alone connect_request (pos 0, (last, (timeout, (session, (Some password, false)))))
          (connect_payload last timeout session password)
          (connect_read last timeout session password (length (connect_payload last timeout session password)) []
          (fits_connect start past s r))),
    )

requests_read : (start : Start) (past : Past)
    → IsResumable start → AreRanged Any past → AreRanged IsTyped past → AllByRecursion IsRead (requests start past)
requests_read start [] s r t = tt
requests_read start (Began ∷ past) s r t = (connect_is_read start past s r.1, tt)
requests_read start (Takes_in (Accepts welcome) ∷ past) s r t =
    all_append IsRead (requests start past) (part_requests (last_of start past) (parts (lists_of past)))
    (requests_read start past s r.1 t.1)
    (parts_read (last_of start past) (parts (lists_of past)) (last_counted start past s) (fits_parts start past s t.1))
requests_read start (Asked ticket call ∷ past) s r t =
    all_append IsRead (requests start past) _ (requests_read start past s r.1 t.1)
    (call_is_read past call (fits_call past call t.0.0 t.0.1), tt)
requests_read start (Pinged ∷ past) s r t =
    all_append IsRead (requests start past) _ (requests_read start past s r.1 t.1) (ping_is_read, tt)
requests_read start (Takes_in Expiry ∷ past) s r t = requests_read start past s r.1 t.1
requests_read start (Takes_in (Answers_call ticket question zxid result) ∷ past) s r t = requests_read start past s r.1 t.1
requests_read start (Takes_in (Sets_watches last zxid) ∷ past) s r t = requests_read start past s r.1 t.1
requests_read start (Takes_in (Tells event path) ∷ past) s r t = requests_read start past s r.1 t.1
requests_read start (Takes_in Echo ∷ past) s r t = requests_read start past s r.1 t.1
requests_read start (Takes_in Skipped ∷ past) s r t = requests_read start past s r.1 t.1
requests_read start (_ ∷ past) s r t = requests_read start past s r.1 t.1

found_read : (sent : List Sent) (found more : List (List ℕ))
    → map (λ s. s.payload) sent ≡ found ++ more → AllByRecursion IsRead sent → AreReadAs sent found
found_read [] [] more e a = tt
found_read (s ∷ sent) [] more e a = tt
found_read [] (payload ∷ found) more e a = absurd cc
found_read (s ∷ sent) (payload ∷ found) more e a =
    let here : s.payload ≡ payload = cc in
    let rest : map (λ s. s.payload) sent ≡ found ++ more = cc in
    (subst (IsReadAs s.request s.xid) here a.0, found_read sent found more rest a.1)

-- ---- what a server finds

pub first_found : (start : Start) (items : List Item) (view : View) (found : List (List ℕ)) (rest : List ℕ)
    → Stands start items view → IsOpen view.standing.state
    → IsResumable start → AreTold found → joined found ++ rest ≡ stream_of items
    → (more : List (List ℕ)) × (payloads_of start items ≡ found ++ more) × (rest ≡ joined more)
first_found start items view found rest s up from told e =
    beginning_found start items view found rest s up (all_told start items from) told e

pub each_found : (start : Start) (items : List Item) (view : View) (found : List (List ℕ)) (rest : List ℕ)
    → Stands start items view → IsOpen view.standing.state
    → IsResumable start → IsCutInto found rest (stream_of items) → (found ≡ payloads_of start items) × (rest ≡ [])
each_found start items view found rest s up from cut = all_found start items view found rest s up (all_told start items from) cut

-- In each payload found the request that was asked is read.
pub each_read : (start : Start) (items : List Item) (view : View) (found : List (List ℕ)) (rest : List ℕ)
    → Stands start items view → IsOpen view.standing.state
    → IsResumable start → AllAskOf IsTyped items → AreTold found → joined found ++ rest ≡ stream_of items
    → AreReadAs (requests start (past_of start items)) found
each_read start items view found rest s up from typed told e =
    let f = first_found start items view found rest s up from told e in
    found_read (requests start (past_of start items)) found f.0 f.1
    (requests_read start (past_of start items) from (items_ranged Any start items (any_items items))
    (items_ranged IsTyped start items typed))

-- And in the first payload of a connection the session that it was begun with.
pub connect_found : (start : Start) (items : List Item) (since : List Happening) (before : Past)
    → IsResumable start → past_of start items ≡ since ++ Began ∷ before
    → IsRecord connect_request (
      pos 0,
      (last_of start before, (pos start.timeout, ((session_of start before).session, (Some (session_of start before).password, false)))),
    )
    (connect_payload (last_of start before) (pos start.timeout) (session_of start before).session (session_of start before).password)
connect_found start items since before from e =
    let last = last_of start before in
    let timeout = pos start.timeout in
    let session = (session_of start before).session in
    let password = (session_of start before).password in
    alone connect_request (pos 0, (last, (timeout, (session, (Some password, false))))) (connect_payload last timeout session password)
    (connect_read last timeout session password (length (connect_payload last timeout session password)) []
    (connect_of start items since before from e))
