-- What stands first in the bytes that wait is the frame of the first request that is not processed: the bytes that were sent are frames,
-- and whole frames are cut off them.
use Rattle.std.proofs.Common.{ℕ, zero, suc, ℤ, pos, ◌≡◌, ◌<◌, ◌≤◌, ◌^◌, Bool, true, false, List, [], ◌∷◌, ◌++◌, map, drop, take, length}
use Rattle.std.proofs.Common.{Some, refl, ap, sym, ◌∙◌, subst, arith, append_assoc}
use Rattle.std.specs.Prelude.{◌&&◌}
use Rattle.std.specs.List.{AllByRecursion}
use Rattle.std.proofs.lemmas.List.{append-nil, take-append-drop}
use Rattle.zk_frames.specs.Frame.{joined}
use Rattle.zk_records.specs.Layouts.{connect_request}
use Rattle.zk_nodes.specs.Path.{Text}
use Rattle.zk_nodes.specs.PathFault.{IsPath}
use Rattle.zk_conversation.specs.Calls as call
use Rattle.zk_conversation.specs.Calls.{Call, connect_payload}
use Rattle.zk_conversation.specs.Questions.{question_of}
use Rattle.zk_watches.specs.Lists.{Lists}
use Rattle.zk_watches.specs.Parts.{parts}
use Rattle.zk_turns.specs.Turns.{Start, Item}
use Rattle.zk_turns.specs.View.{View}
use Rattle.zk_turns.specs.Past.{Past, Happening, Began, Asked, Pinged, Took as Takes_in, Accepted as Accepts, Expiry}
use Rattle.zk_turns.specs.Past.{Replies as Answers_call, Watches_set as Sets_watches, Notifies as Tells, Pong as Echo, Skipped, is_open}
use Rattle.zk_turns.specs.Past.{state_of, last_of, session_of, lists_of, in_known, in_missing, in_parents, path_of_read}
use Rattle.zk_turns.specs.Taken.{past_of}
use Rattle.zk_turns.specs.Rule.{Stands, IsOpen}
use Rattle.zk_turns.specs.Ranges.{IsResumable, IsTyped, IsPathCall, AllAskOf}
use Rattle.zk_turns.proofs.Ranged.{all_append, AreRanged, items_ranged, listed_short}
use Rattle.zk_turns.proofs.Fitting.{IsShort, IsSmall, parts_small}
use Rattle.zk_laws.specs.Messages.{Connect, from_zero}
use Rattle.zk_laws.specs.Served.{Sent, Entry, items_in, Wire, wire_of, is_going, unread, requests, part_requests}
use Rattle.zk_laws.specs.Parsed.{AreTold, IsRecord, IsReadAs, AreReadAs, stream_of, payloads_of}
use Rattle.zk_laws.proofs.Found.{all_told, first_found, each_read, connect_found, last_counted}
use Rattle.theory_serving.specs.Shown.{Shown, Open}
use Rattle.theory_serving.specs.Wires.{Shows, IsFit, StandsFirst, IsCutAt}
use Rattle.theory_serving.proofs.Turning.{framed, framed_more}
use Rattle.theory_serving.proofs.Asked.{all_typed, all_paths}

-- ---- what is known of each request

abbrev IsSentFit : Sent → Type 0
IsSentFit sent = IsFit sent.request sent.payload

path_of_call : (asked : Call) → IsPathCall asked → AllByRecursion IsPath (path_of_read (question_of asked))
path_of_call (call.Exists path watch) p = (p, tt)
path_of_call (call.GetData path watch) p = (p, tt)
path_of_call (call.GetChildren path watch) p = (p, tt)
path_of_call (call.SetData path content version) p = tt
path_of_call (call.Create path content mode) p = tt
path_of_call (call.Delete path version) p = tt
path_of_call call.Close p = tt
path_of_call (call.Raw operation bytes) p = tt

short_paths : (texts : List Text) → AllByRecursion (IsShort IsPath) texts → AllByRecursion IsPath texts
short_paths [] a = tt
short_paths (text ∷ texts) a = (a.0.1, short_paths texts a.1)

parts_fit : (relative : ℤ) (ps : List Lists) → AllByRecursion (IsSmall IsPath) ps → AllByRecursion IsSentFit (part_requests relative ps)
parts_fit relative [] a = tt
parts_fit relative (part ∷ []) a =
    ((short_paths part.data_watches a.0.known, short_paths part.exist_watches a.0.missing, short_paths part.child_watches a.0.parents), tt)
parts_fit relative (part ∷ next ∷ more) a = (
  (short_paths part.data_watches a.0.known, short_paths part.exist_watches a.0.missing, short_paths part.child_watches a.0.parents),
  parts_fit relative (next ∷ more) a.1,
)

-- the texts of the parts are paths that callers asked about
parts_paths : (past : Past) → AreRanged IsPathCall past → AllByRecursion (IsSmall IsPath) (parts (lists_of past))
parts_paths past r =
    parts_small IsPath (lists_of past) (listed_short IsPathCall IsPath path_of_call in_known past r)
    (listed_short IsPathCall IsPath path_of_call in_missing past r)
    (listed_short IsPathCall IsPath path_of_call in_parents past r)

module _ (start : Start) (items : List Item) (from : IsResumable start) (timed : 0 < start.timeout) where
  connects : (since : List Happening) (before : Past) → past_of start items ≡ since ++ Began ∷ before
      → IsFit (Connect (from_zero (last_of start before)))
      (connect_payload (last_of start before) (pos start.timeout) (session_of start before).session (session_of start before).password)
  connects since before e =
      let session = (session_of start before).session in
      let password = (session_of start before).password in (
        start.timeout,
        timed,
        session,
        password,
        subst (λ z. IsRecord connect_request (pos 0, (z, (pos start.timeout, (session, (Some password, false)))))
            (connect_payload (last_of start before) (pos start.timeout) session password)) (last_counted start before from)
            (connect_found start items since before from e),
      )

  behind_one : (since : List Happening) (x : Happening) (before : Past)
      → past_of start items ≡ since ++ x ∷ before → past_of start items ≡ (since ++ x ∷ []) ++ before
  behind_one since x before e = e ∙ sym (append_assoc since (x ∷ []) before)

  sent_fit : (since : List Happening) (past : Past) → past_of start items ≡ since ++ past → AreRanged IsPathCall past
      → AreRanged IsTyped past → AllByRecursion IsSentFit (requests start past)
  sent_fit since [] e r t = tt
  sent_fit since (Began ∷ past) e r t = (connects since past e, tt)
  sent_fit since (Takes_in (Accepts welcome) ∷ past) e r t =
      all_append IsSentFit (requests start past) (part_requests (last_of start past) (parts (lists_of past)))
      (sent_fit (since ++ Takes_in (Accepts welcome) ∷ []) past (behind_one since (Takes_in (Accepts welcome)) past e) r.1 t.1)
      (parts_fit (last_of start past) (parts (lists_of past)) (parts_paths past r.1))
  sent_fit since (Asked ticket call ∷ past) e r t =
      all_append IsSentFit (requests start past) _
      (sent_fit (since ++ Asked ticket call ∷ []) past (behind_one since (Asked ticket call) past e) r.1 t.1) ((t.0.0, r.0.0), tt)
  sent_fit since (Pinged ∷ past) e r t =
      all_append IsSentFit (requests start past) _ (sent_fit (since ++ Pinged ∷ []) past (behind_one since Pinged past e) r.1 t.1) (tt, tt)
  sent_fit since (Takes_in Expiry ∷ past) e r t =
      sent_fit (since ++ Takes_in Expiry ∷ []) past (behind_one since (Takes_in Expiry) past e) r.1 t.1
  sent_fit since (Takes_in (Answers_call ticket question zxid result) ∷ past) e r t =
      sent_fit (since ++ Takes_in (Answers_call ticket question zxid result) ∷ []) past
      (behind_one since (Takes_in (Answers_call ticket question zxid result)) past e) r.1 t.1
  sent_fit since (Takes_in (Sets_watches last zxid) ∷ past) e r t =
      sent_fit (since ++ Takes_in (Sets_watches last zxid) ∷ []) past (behind_one since (Takes_in (Sets_watches last zxid)) past e) r.1 t.1
  sent_fit since (Takes_in (Tells event path) ∷ past) e r t =
      sent_fit (since ++ Takes_in (Tells event path) ∷ []) past (behind_one since (Takes_in (Tells event path)) past e) r.1 t.1
  sent_fit since (Takes_in Echo ∷ past) e r t =
      sent_fit (since ++ Takes_in Echo ∷ []) past (behind_one since (Takes_in Echo) past e) r.1 t.1
  sent_fit since (Takes_in Skipped ∷ past) e r t =
      sent_fit (since ++ Takes_in Skipped ∷ []) past (behind_one since (Takes_in Skipped) past e) r.1 t.1
  sent_fit since (x ∷ past) e r t = sent_fit (since ++ x ∷ []) past (behind_one since x past e) r.1 t.1

-- ---- the first that is not processed

pub first_all : {A : Type 0} (Q : A → Type 0) (n : ℕ) (xs : List A) (first : A) (more : List A)
    → drop n xs ≡ first ∷ more → AllByRecursion Q xs → Q first
first_all Q zero [] first more e a = absurd cc
first_all Q zero (x ∷ xs) first more e a = let same : x ≡ first = cc in subst Q same a.0
first_all Q (suc n) [] first more e a = absurd cc
first_all Q (suc n) (x ∷ xs) first more e a = first_all Q n xs first more e a.1

first_read : (n : ℕ) (sent : List Sent) (first : Sent) (more : List Sent)
    → drop n sent ≡ first ∷ more → AreReadAs sent (map (λ s. s.payload) sent) → IsReadAs first.request first.xid first.payload
first_read zero [] first more e a = absurd cc
first_read zero (s ∷ sent) first more e a = let same : s ≡ first = cc in subst (λ x. IsReadAs x.request x.xid x.payload) same a.0
first_read (suc n) [] first more e a = absurd cc
first_read (suc n) (s ∷ sent) first more e a = first_read n sent first more e a.1

first_told : (n : ℕ) (sent : List Sent) (first : Sent) (more : List Sent) → drop n sent ≡ first ∷ more → AreTold (map (λ s. s.payload) sent)
    → length first.payload < 2 ^ 31
first_told zero [] first more e a = absurd cc
first_told zero (s ∷ sent) first more e a = let same : s ≡ first = cc in subst (λ x. length x.payload < 2 ^ 31) same a.0
first_told (suc n) [] first more e a = absurd cc
first_told (suc n) (s ∷ sent) first more e a = first_told n sent first more e a.1

left_true : (b c : Bool) → (b && c) ≡ true → b ≡ true
left_true true c e = refl
left_true false c e = absurd cc

-- a client that has a connection takes bytes
pub going_open : (start : Start) (items : List Item) (view : View)
    → Stands start items view → is_going (past_of start items) ≡ true → IsOpen view.standing.state
going_open start items view s going = ap (λ t. is_open t.state) s.standing ∙ left_true (is_open (state_of (past_of start items))) _ going

all_read : (start : Start) (items : List Item) (view : View) → Stands start items view → IsOpen view.standing.state → IsResumable start
    → AllAskOf IsTyped items → AreReadAs (requests start (past_of start items)) (payloads_of start items)
all_read start items view s up from typed =
    let told : AreTold (payloads_of start items) = all_told start items from in
    let f = first_found start items view [] (stream_of items) s up from tt refl in
    let whole : joined (payloads_of start items) ++ [] ≡ stream_of items =
    append-nil (joined (payloads_of start items)) ∙ ap joined f.1 ∙ sym f.2 in
    each_read start items view (payloads_of start items) [] s up from typed told whole

pub first_stands : (start : Start) (entries : List Entry) (view : View) (shown : Shown) (first : Sent) (more : List Sent)
    → IsResumable start → 0 < start.timeout → Stands start (items_in entries) view → Shows start entries shown
    → is_going (past_of start (items_in entries)) ≡ true → shown.phase ≡ Open
    → unread start (past_of start (items_in entries)) (wire_of shown.history entries) ≡ first ∷ more
    → StandsFirst first.request first.xid first.payload (framed more) shown.requests
first_stands start entries view shown first more from timed s shows going was e =
    let items : List Item = items_in entries in
    let past : Past = past_of start items in
    let wire : Wire = wire_of shown.history entries in
    let up = going_open start items view s going in
    let typed : AllAskOf IsTyped items = all_typed items s.asked in
    record {
      whole = (shows.wire going).waiting was ∙ ap framed e;
      small = first_told wire.processed (requests start past) first more e (all_told start items from);
      read = first_read wire.processed (requests start past) first more e (all_read start items view s up from typed);
      fit = first_all IsSentFit wire.processed (requests start past) first more e
          (sent_fit start items from timed [] past refl (items_ranged IsPathCall start items (all_paths items s.asked))
          (items_ranged IsTyped start items typed));
    }

-- ---- the bytes that were sent

-- the first frames and those after them
cut_at : (n : ℕ) (sent : List Sent) → joined (map (λ s. s.payload) (take n sent)) ++ framed (drop n sent) ≡ framed sent
cut_at n sent = sym (framed_more (take n sent) (drop n sent)) ∙ ap framed (take-append-drop n sent)

first_told_all : (n : ℕ) (sent : List Sent) → AreTold (map (λ s. s.payload) sent) → AreTold (map (λ s. s.payload) (take n sent))
first_told_all zero sent a = tt
first_told_all (suc n) [] a = tt
first_told_all (suc n) (s ∷ sent) a = (a.0, first_told_all n sent a.1)

so_many : (n : ℕ) (sent : List Sent) → n ≤ length sent → length (map (λ s. s.payload) (take n sent)) ≡ n
so_many zero sent low = refl
so_many (suc n) [] low = absurd (omega (arith, low))
so_many (suc n) (s ∷ sent) low = ap suc (so_many n sent (omega (arith, low)))

-- The bytes that were sent are the frames of what was processed, and what waits.
pub stream_cut : (start : Start) (entries : List Entry) (view : View) (shown : Shown)
    → IsResumable start → Stands start (items_in entries) view → Shows start entries shown
    → is_going (past_of start (items_in entries)) ≡ true → shown.phase ≡ Open
    → IsCutAt (items_in entries) (wire_of shown.history entries).processed shown.requests
stream_cut start entries view shown from s shows going up =
    let items : List Item = items_in entries in
    let sent : List Sent = requests start (past_of start items) in
    let wire : Wire = wire_of shown.history entries in
    let f = first_found start items view [] (stream_of items) s (going_open start items view s going) from tt refl in
    record {
      found = map (λ s. s.payload) (take wire.processed sent);
      told = first_told_all wire.processed sent (all_told start items from);
      count = so_many wire.processed sent (shows.wire going).processed;
      stream = ap (λ t. joined (map (λ s. s.payload) (take wire.processed sent)) ++ t) ((shows.wire going).waiting up)
          ∙ cut_at wire.processed sent ∙ ap joined f.1 ∙ sym f.2;
    }
