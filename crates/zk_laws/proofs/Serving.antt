-- Each step of a server keeps what is between it and the client, since its messages spell letters that are put in flight.
use Rattle.std.proofs.Common.{◌≡◌, ℕ, ◌+◌, ◌≤◌, ℤ, true, List, [], ◌∷◌, ◌++◌, map, drop, length, refl, sym, ap, subst, ◌∙◌, arith}
use Rattle.std.proofs.Common.{append_assoc, inl}
use Rattle.std.specs.Prelude.{◌≢◌}
use Rattle.std.specs.List.{flat_map, AllByRecursion}
use Rattle.std.proofs.lemmas.List.{append-nil, map-append}
use Rattle.zk_nodes.specs.History.{History}
use Rattle.zk_conversation.specs.Questions.{question_of}
use Rattle.zk_conversation.specs.Results.{Refused}
use Rattle.zk_frames.specs.Frame.{frame}
use Rattle.zk_turns.specs.Turns.{Start}
use Rattle.zk_turns.specs.Past.{Asking, Past, is_talking, state_of, held_of}
use Rattle.zk_turns.proofs.Ranged.{all_append}
use Rattle.zk_laws.specs.Server.{Notice, zxid_held}
use Rattle.zk_laws.specs.Messages.{Message, Accepted, Replies, Watches_set, Notifies, Pong, Request, Connect, Restore, Ask, Ping}
use Rattle.zk_laws.specs.Messages.{Expired as Expires, from_zero}
use Rattle.zk_laws.specs.ServerSteps.{Stage, ServerEnd, ServerStep, messages_by, end_after, Waiting, Ended, Advances, Admits, Refuses}
use Rattle.zk_laws.specs.ServerSteps.{Answers, Restores, Pongs, IsNext}
use Rattle.zk_laws.specs.Served.{Sent, requests, unread, Wire, ArePayloads, IsPayload, first_xid, wire_on, is_going}
use Rattle.zk_laws.proofs.Steps.{rest_of, left_over}
use Rattle.zk_laws.proofs.Seen.{seen}
use Rattle.zk_laws.proofs.Flight.{drop_one}
use Rattle.zk_laws.proofs.Between.{Invariant, IsInvariant, Allows}
use Rattle.zk_laws.proofs.Matching.{Letter, frames, messages, answers, AreLater, WaitsFor, Owes, Tail, Nothing_more, Failure}
use Rattle.zk_laws.proofs.Matching.{IsSpelt, IsFor, IsLetter, IsTail, IsKeptFor, InFlight, Meets}
use Rattle.zk_laws.proofs.Taking.{talking_of}
use Rattle.zk_laws.proofs.Meeting.{later_notices}

-- ---- letters

-- what waits for a message
abbrev mine_of : List Asking → Message → List Asking
mine_of mine (Replies q z r) = mine
mine_of mine (Watches_set b z) = mine
mine_of mine _ = []

flat-more : {A B : Type 0} (f : A → List B) (a b : List A) → flat_map f (a ++ b) ≡ flat_map f a ++ flat_map f b
flat-more f [] b = refl
flat-more f (l ∷ a) b = ap (λ t. f l ++ t) (flat-more f a b) ∙ sym (append_assoc (f l) (flat_map f a) (flat_map f b))

later_append : (a b : List Message) → AreLater a → AreLater b → AreLater (a ++ b)
later_append [] b p q = q
later_append (Accepted ∷ a) b p q = absurd p
later_append (Expires ∷ a) b p q = absurd p
later_append (Replies x z r ∷ a) b p q = later_append a b p q
later_append (Watches_set x z ∷ a) b p q = later_append a b p q
later_append (Notifies n ∷ a) b p q = later_append a b p q
later_append (Pong ∷ a) b p q = later_append a b p q

pub notices_mine : (mine : List Asking) (ns : List Notice) → flat_map (mine_of mine) (map Notifies ns) ≡ []
notices_mine mine [] = refl
notices_mine mine (n ∷ ns) = notices_mine mine ns

pub next_sent : (r : Request) (us : List Sent) → IsNext r (map (λ s. s.request) us)
    → (s : Sent) × (ss : List Sent) × (us ≡ s ∷ ss) × (r ≡ s.request)
next_sent r [] n = absurd n
next_sent r (s ∷ ss) n = (s, ss, refl, n)

-- the payload of a message spells it
spelt_by : (v : Invariant) (xid : ℤ) (m : Message) (p : List ℕ) → IsPayload xid m p → IsSpelt v xid m p
spelt_by v xid (Replies q z (Refused code)) p s = inl s
spelt_by v xid _ p s = s

module _ (v : Invariant) (start : Start) (Was : List ℕ → Type 0) where
  abbrev AllFor : ℤ → List Asking → List Message → Type 0
  AllFor xid mine ms = AllByRecursion (λ m. IsFor v xid m (mine_of mine m)) ms

  pub notices_for : (xid : ℤ) (mine : List Asking) (ns : List Notice) → AllFor xid mine (map Notifies ns)
  notices_for xid mine [] = tt
  notices_for xid mine (n ∷ ns) = (refl, notices_for xid mine ns)

  -- the letters of some messages
  pub record AreTheLetters (mine : List Asking) (ms : List Message) (payloads : List (List ℕ)) (ls : List Letter) : Type 0 where
    pub told : messages ls ≡ ms
    pub are : AllByRecursion (IsLetter v start Was) ls
    pub bytes : frames ls ≡ flat_map frame payloads
    pub ask : answers ls ≡ flat_map (mine_of mine) ms

  pub letters_for : (xid : ℤ) (mine : List Asking) (ms : List Message) (ps : List (List ℕ))
      → AllByRecursion Was ps → ArePayloads xid ms ps → AllFor xid mine ms → (ls : List Letter) × AreTheLetters mine ms ps ls
  letters_for xid mine [] [] w a f = ([], record { told = refl; are = tt; bytes = refl; ask = refl })
  letters_for xid mine [] (p ∷ ps) w a f = absurd a
  letters_for xid mine (m ∷ ms) [] w a f = absurd a
  letters_for xid mine (m ∷ ms) (p ∷ ps) w a f =
      let more = letters_for xid mine ms ps w.1 a.2 f.1 in
      let l : Letter = record { message = m; payload = p; xid = xid; asked = mine_of mine m } in (
        l ∷ more.0,
        record {
          told = ap (λ t. m ∷ t) more.1.told;
          are = (record { was_sent = w.0; short = a.0; spelt = spelt_by v xid m p a.1; is_for = f.0 }, more.1.are);
          bytes = ap (λ t. frame p ++ t) more.1.bytes;
          ask = ap (λ t. mine_of mine m ++ t) more.1.ask;
        },
      )

  -- where the server has not ended, no part was refused
  pub going_on : (tail : Tail) (stage : Stage) (owed : List Asking)
      → IsTail v start Was tail stage owed → stage ≢ Ended → tail ≡ Nothing_more
  going_on Nothing_more stage owed t n = refl
  going_on (Failure payload rest) stage owed t n = absurd (n t.3)

  abbrev pub Flows : Past → Wire → Type 0
  Flows past wire = (letters : List Letter) × (tail : Tail) × InFlight v start Was past wire letters tail

  -- messages are sent
  pub serve_going : (past : Past) (wire other : Wire) (letters : List Letter) (mine owed : List Asking) (ms : List Message)
      (payloads : List (List ℕ))
      → (g : InFlight v start Was past wire letters Nothing_more) → ((ls : List Letter) × AreTheLetters mine ms payloads ls)
      → other.coming ≡ wire.coming ++ flat_map frame payloads
      → other.processed ≤ length (requests start past) → Owes (unread start past other) owed → g.owed ≡ flat_map (mine_of mine) ms ++ owed
      → (is_talking (state_of past) ≡ true → AreLater ms)
      → IsKeptFor v start Was past other.server (map (λ s. s.request) (unread start past other)) (messages letters ++ ms)
      → Flows past other
  serve_going past wire other letters mine owed ms payloads g found coming enough owes split later kept =
      let new : List Letter = found.0 in
      let n = found.1 in
      let told : messages (letters ++ new) ≡ messages letters ++ ms =
      map-append (λ l. l.message) letters new ∙ ap (λ l. messages letters ++ l) n.told in (
        letters ++ new,
        Nothing_more,
        record {
          enough = enough;
          are = all_append (IsLetter v start Was) letters new g.are n.are;
          bytes = ap (λ l. held_of past ++ l) coming ∙ sym (append_assoc (held_of past) wire.coming (flat_map frame payloads))
              ∙ ap (λ l. l ++ flat_map frame payloads) (g.bytes ∙ append-nil (frames letters))
              ∙ ap (λ l. frames letters ++ l) (sym n.bytes) ∙ sym (flat-more (λ l. frame l.payload) letters new)
              ∙ sym (append-nil (frames (letters ++ new)));
          owed = owed;
          owes = owes;
          pending = g.pending ∙ ap (λ l. answers letters ++ l) split
              ∙ sym (append_assoc (answers letters) (flat_map (mine_of mine) ms) owed)
              ∙ ap (λ l. answers letters ++ l ++ owed) (sym n.ask) ∙ ap (λ l. l ++ owed) (sym (flat-more (λ l. l.asked) letters new));
          later = λ t. subst AreLater (sym told) (later_append (messages letters) ms (g.later t) (later t));
          ended = tt;
          kept =
              subst (λ l. IsKeptFor v start Was past other.server (map (λ s. s.request) (unread start past other)) l) (sym told) kept;
        },
      )

  -- one request is processed
  pub serve_next : (past : Past) (wire other : Wire) (letters : List Letter) (r : Request) (ms : List Message) (payloads : List (List ℕ))
      → (g : InFlight v start Was past wire letters Nothing_more) → IsNext r (map (λ s. s.request) (unread start past wire))
      → ((mine : List Asking) → WaitsFor (first_xid (unread start past wire)) r mine
      → ((ls : List Letter) × AreTheLetters mine ms payloads ls) × (flat_map (mine_of mine) ms ≡ mine))
      → other.processed ≡ wire.processed + 1 → other.coming ≡ wire.coming ++ flat_map frame payloads
      → (is_talking (state_of past) ≡ true → AreLater ms)
      → IsKeptFor v start Was past other.server (rest_of (map (λ s. s.request) (unread start past wire))) (messages letters ++ ms)
      → Flows past other
  serve_next past wire other letters r ms payloads g next for processed coming later kept =
      let n = next_sent r (unread start past wire) next in
      let s : Sent = n.0 in
      let ss : List Sent = n.1 in
      let d = drop_one wire.processed (requests start past) s ss n.2 in
      let here : unread start past other ≡ ss = ap (λ m. drop m (requests start past)) processed ∙ d.0 in
      let le = d.1 in
      let o : Owes (s ∷ ss) g.owed = subst (λ l. Owes l g.owed) n.2 g.owes in
      let w : WaitsFor s.xid r o.0 = subst (λ t. WaitsFor s.xid t o.0) (sym n.3) o.2 in
      let f = for o.0 (subst (λ l. WaitsFor (first_xid l) r o.0) (sym n.2) w) in
      serve_going past wire other letters o.0 o.1 ms payloads g f.0 coming
      (subst (λ m. m ≤ length (requests start past)) (sym processed) le) (subst (λ l. Owes l o.1) (sym here) o.4)
      (o.3 ∙ ap (λ l. l ++ o.1) (sym f.1)) later
      (subst (λ l. IsKeptFor v start Was past other.server l (messages letters ++ ms))
      (ap (λ l. rest_of (map (λ s. s.request) l)) n.2 ∙ ap (λ l. map (λ s. s.request) l) (sym here)) kept)

  -- the messages have these payloads
  serve_one : (past : Past) (wire other : Wire) (letters : List Letter) (r : Request) (ms : List Message) (payloads : List (List ℕ))
      → (g : InFlight v start Was past wire letters Nothing_more) → AllByRecursion Was payloads
      → IsNext r (map (λ s. s.request) (unread start past wire)) → ArePayloads (first_xid (unread start past wire)) ms payloads
      → ((xid : ℤ) (mine : List Asking) → WaitsFor xid r mine → AllFor xid mine ms × (flat_map (mine_of mine) ms ≡ mine))
      → other.processed ≡ wire.processed + 1 → other.coming ≡ wire.coming ++ flat_map frame payloads
      → (is_talking (state_of past) ≡ true → AreLater ms)
      → IsKeptFor v start Was past other.server (rest_of (map (λ s. s.request) (unread start past wire))) (messages letters ++ ms)
      → Flows past other
  serve_one past wire other letters r ms payloads g was next a for processed coming later kept =
      serve_next past wire other letters r ms payloads g next
      (λ mine w. let f = for (first_xid (unread start past wire)) mine w in
      (letters_for (first_xid (unread start past wire)) mine ms payloads was a f.0, f.1)) processed coming later kept

module _ (h : History) (start : Start) (v : Invariant) (keeps : IsInvariant h (from_zero start.last) v) (Was : List ℕ → Type 0) where
  -- what holds after a step
  kept_on : (step : ServerStep) (past : Past) (wire : Wire) (letters : List Letter) → InFlight v start Was past wire letters Nothing_more
      → v.may step wire.server (map (λ s. s.request) (unread start past wire))
      → IsKeptFor v start Was past (end_after h step wire.server) (left_over step (map (λ s. s.request) (unread start past wire)))
      (messages letters ++ messages_by h step wire.server.place)
  kept_on step past wire letters g may = keeps.serves step (is_talking (state_of past)) (seen start past)
      (map (λ s. s.request) (unread start past wire)) (messages letters) wire.server may g.kept

  -- while the client talks, no ConnectRequest is to be processed
  past_waiting : (past : Past) (wire : Wire) (letters : List Letter) → InFlight v start Was past wire letters Nothing_more
      → is_talking (state_of past) ≡ true → wire.server.stage ≡ Waiting → ⊥
  past_waiting past wire letters g talks waits =
      keeps.waits (seen start past) (map (λ s. s.request) (unread start past wire)) (messages letters) wire.server
      (talking_of h start v keeps Was past wire letters Nothing_more talks g) waits

  serve_by : (step : ServerStep) (payloads : List (List ℕ)) (past : Past) (wire : Wire) (letters : List Letter)
      → (g : InFlight v start Was past wire letters Nothing_more)
      → AllByRecursion Was payloads → v.may step wire.server (map (λ s. s.request) (unread start past wire))
      → Allows h v step wire.server (map (λ s. s.request) (unread start past wire))
      → ArePayloads (first_xid (unread start past wire)) (messages_by h step wire.server.place) payloads
      → Flows v start Was past (wire_on h step payloads wire)
  serve_by (Advances sent) payloads past wire letters g was may allowed a =
      let other : Wire = wire_on h (Advances sent) payloads wire in
      let same : other.processed ≡ wire.processed = omega arith in
      let back : unread start past other ≡ unread start past wire = ap (λ m. drop m (requests start past)) same in
      serve_going v start Was past wire other letters [] g.owed (map Notifies sent) payloads g
      (letters_for v start Was (first_xid (unread start past wire)) [] (map Notifies sent) payloads was a
      (notices_for v start Was (first_xid (unread start past wire)) [] sent)) refl
      (subst (λ m. m ≤ length (requests start past)) (sym same) g.enough) (subst (λ l. Owes l g.owed) (sym back) g.owes)
      (ap (λ l. l ++ g.owed) (sym (notices_mine [] sent))) (λ t. later_notices sent)
      (subst (λ l. IsKeptFor v start Was past other.server (map (λ s. s.request) l) (messages letters ++ map Notifies sent))
      (sym back) (kept_on (Advances sent) past wire letters g may))
  serve_by (Admits z) payloads past wire letters g was may allowed a =
      serve_one v start Was past wire (wire_on h (Admits z) payloads wire) letters (Connect z) (Accepted ∷ []) payloads g was allowed.1 a
      (λ xid mine w. ((refl, tt), sym w)) refl refl
      (λ t. absurd (past_waiting past wire letters g t allowed.0)) (kept_on (Admits z) past wire letters g may)
  serve_by (Refuses z) payloads past wire letters g was may allowed a =
      serve_one v start Was past wire (wire_on h (Refuses z) payloads wire) letters (Connect z) (Expires ∷ []) payloads g was allowed.1 a
      (λ xid mine w. ((refl, tt), sym w)) refl refl
      (λ t. absurd (past_waiting past wire letters g t allowed.0)) (kept_on (Refuses z) past wire letters g may)
  serve_by (Answers q r) payloads past wire letters g was may allowed a =
      serve_one v start Was past wire (wire_on h (Answers q r) payloads wire) letters (Ask q)
      (Replies (question_of q) (zxid_held h wire.server.place) r ∷ []) payloads g was allowed.1 a
      (λ xid mine w. (((w.0, w.1, q, w.2, refl, w.3, allowed.2), tt), append-nil mine)) refl refl (λ t. tt)
      (kept_on (Answers q r) past wire letters g may)
  serve_by (Restores b z part sent) payloads past wire letters g was may allowed a =
      serve_one v start Was past wire (wire_on h (Restores b z part sent) payloads wire) letters (Restore b z part)
      (map Notifies sent ++ Watches_set b (zxid_held h wire.server.place) ∷ []) payloads g was allowed.1 a
      (λ xid mine w. (
        all_append (λ m. IsFor v xid m (mine_of mine m)) (map Notifies sent) (Watches_set b (zxid_held h wire.server.place) ∷ [])
            (notices_for v start Was xid mine sent) ((w.0, w.1), tt),
        flat-more (mine_of mine) (map Notifies sent) (Watches_set b (zxid_held h wire.server.place) ∷ [])
            ∙ ap (λ l. l ++ (mine ++ [])) (notices_mine mine sent) ∙ append-nil mine,
      ))
      refl refl (λ t. later_append (map Notifies sent) (Watches_set b (zxid_held h wire.server.place) ∷ []) (later_notices sent) tt)
      (kept_on (Restores b z part sent) past wire letters g may)
  serve_by Pongs payloads past wire letters g was may allowed a =
      serve_one v start Was past wire (wire_on h Pongs payloads wire) letters Ping (Pong ∷ []) payloads g was allowed.1 a
      (λ xid mine w. ((refl, tt), sym w)) refl refl (λ t. tt) (kept_on Pongs past wire letters g may)

  -- a server that may take a step has not ended
  unended : (step : ServerStep) (server : ServerEnd) (rs : List Request) → Allows h v step server rs → server.stage ≢ Ended
  unended (Advances sent) server rs allowed e = allowed e
  unended (Admits z) server rs allowed e = let f = sym allowed.0 ∙ e in cc
  unended (Refuses z) server rs allowed e = let f = sym allowed.0 ∙ e in cc
  unended (Answers q r) server rs allowed e = let f = sym allowed.0 ∙ e in cc
  unended (Restores b z part sent) server rs allowed e = let f = sym allowed.0 ∙ e in cc
  unended Pongs server rs allowed e = let f = sym allowed.0 ∙ e in cc

  -- a server that has not ended sends more
  pub sends_on : (past : Past) (wire other : Wire) → is_going past ≡ true → wire.server.stage ≢ Ended
      → ((letters : List Letter) → InFlight v start Was past wire letters Nothing_more → Flows v start Was past other)
      → Meets v start Was past wire → Meets v start Was past other
  sends_on past wire other on going next s = let g = s.going on in
      record {
        right = s.right;
        calm = s.calm;
        counted = s.counted;
        going = λ e. next g.0
            (subst (λ t. InFlight v start Was past wire g.0 t) (going_on v start Was g.1 wire.server.stage g.2.owed g.2.ended going) g.2);
      }

  -- A server's step.
  pub served_here : (step : ServerStep) (payloads : List (List ℕ)) (past : Past) (wire : Wire) → is_going past ≡ true
      → AllByRecursion Was payloads → v.may step wire.server (map (λ s. s.request) (unread start past wire))
      → ArePayloads (first_xid (unread start past wire)) (messages_by h step wire.server.place) payloads
      → Meets v start Was past wire → Meets v start Was past (wire_on h step payloads wire)
  served_here step payloads past wire on was may a s =
      let rs : List Request = map (λ s. s.request) (unread start past wire) in
      let allowed = keeps.allows step wire.server rs may in
      sends_on past wire (wire_on h step payloads wire) on (unended step wire.server rs allowed)
      (λ letters g. serve_by step payloads past wire letters g was may allowed a) s
