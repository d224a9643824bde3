-- Each item of a client keeps what is between it and its servers: a turn goes byte by byte or signal by signal, and each of these is a
-- happening that keeps it.
use Rattle.zk_turns.specs.Turns.{Framed, WatchesRefused, IsAsked, Start, Outcome, Silent, Input, Bytes, Cut, Now, Call, Turned, Turn, Comes}
use Rattle.zk_turns.specs.Turns.{signals_of, signals, Opened as Opening, IsAskable}
use Rattle.zk_frames.specs.declared.fault.FrameFault.{FrameFault}
use Rattle.zk_frames.specs.Frame.{frame}
use Rattle.zk_conversation.specs.Calls.{Call as Asked_call, part_xid}
use Rattle.zk_conversation.specs.Pending.{Call_waits}
use Rattle.zk_turns.specs.Past.{is_open, Asking, For_call, For_part, parts_asked, awaited, pending_for, Happening, Past, Came, Dropped}
use Rattle.zk_turns.specs.Past.{Pinged, Ticked, is_talking, state_of, has_halted, held_of, pending_of, lists_of, last_of, Took as Takes_in}
use Rattle.zk_turns.specs.Past.{Lost as Loses_it, Accepted as Accepts, Expiry, Replies as Answers_call}
use Rattle.zk_watches.specs.Lists.{Lists}
use Rattle.zk_watches.specs.Parts.{parts}
use Rattle.std.proofs.Common.{◌≡◌, ℕ, zero, suc, ◌≤◌, ◌<◌, ℤ, pos, Bool, true, false, cond, ◌&&◌, List, [], ◌∷◌, ◌++◌, map, drop, length}
use Rattle.std.proofs.Common.{refl}
use Rattle.std.proofs.Common.{sym, ap, subst, ◌∙◌, arith, inl, inr, ◌⊎◌, Option, Some, None, append_assoc}
use Rattle.std.specs.Prelude.{⊤, nat_lt, nat_le, is_some, if◌then◌else◌, not, ◌*◌, ◌-◌, max}
use Rattle.std.specs.List.{AllByRecursion}
use Rattle.std.proofs.lemmas.List.{length-append, map-append}
use Rattle.zk_session.specs.declared.states.State.{State}
use Rattle.zk_session.specs.declared.states.State.TheVariants.{Idle, Connecting, Connected, Expired, Closed}
use Rattle.zk_session.specs.SessionView.{Welcome}
use Rattle.zk_turns.specs.View.{View, view_at}
use Rattle.zk_turns.specs.Taken.{reading, cut, longest, Cutting, Unfinished, Bad, Payload, of_cutting, happenings, joined, past_after}
use Rattle.zk_turns.specs.Taken.{opens}
use Rattle.zk_turns.specs.Taken.{if_open, due, timeout_of, refusal, comes}
use Rattle.zk_turns.specs.Rule.{IsOpen}
use Rattle.zk_turns.proofs.Stepped.{Counted, talks_in}
use Rattle.zk_turns.proofs.Pieces.{byte_happens}
use Rattle.zk_turns.proofs.Words.{calls}
use Rattle.zk_nodes.specs.History.{History}
use Rattle.zk_laws.specs.Server.{Notice, IsOther}
use Rattle.zk_laws.specs.Messages.{Message, Accepted, Replies, Watches_set, Notifies, Pong, Request, Expired as Expires, from_zero}
use Rattle.zk_laws.proofs.Log.{Item as Log_item, Took, last, left_by}
use Rattle.zk_laws.proofs.Steps.{is_behind, restores}
use Rattle.zk_laws.specs.ServerSteps.{Stage}
use Rattle.zk_laws.proofs.Seen.{seen}
use Rattle.zk_laws.specs.Served.{MayEnter, Goes_on, Sent, requests, part_requests, unread, Wire, new_wire, no_wire, is_going, IsPayload}
use Rattle.zk_laws.specs.Served.{wire_past}
use Rattle.zk_laws.specs.Headline.{IsTooLongFor}
use Rattle.zk_records.specs.Response.{Response, IsPayload as IsResponse}
use Rattle.zk_laws.proofs.Matching.{Letter, frames, messages, answers, AreLater, Owes}
use Rattle.zk_laws.proofs.Seeing.{last_is}
use Rattle.zk_laws.proofs.Ordering.{are_parts}
use Rattle.zk_laws.proofs.Framed.{taken_first, first_too_long, none_cut, reads_notice, reads_pong, reads_part, reads_reply, reads_accepted}
use Rattle.zk_laws.proofs.Framed.{reads_expired}
use Rattle.zk_laws.proofs.Flight.{owes_parts, requests_parts, unread_more}
use Rattle.zk_turns.specs.Spelled.{IsHeaded}
use Rattle.zk_conversation.specs.Questions.{Question}
use Rattle.zk_conversation.specs.Results.{Result, NoNode, Refused, Found, Read, Listing, Made, Done, Brought}
use Rattle.zk_laws.proofs.Between.{Invariant, IsInvariant, MayBeFirst, IsLow}
use Rattle.zk_laws.proofs.Matching.{Tail, Nothing_more, Failure, tail_bytes, IsFor, IsLetter, InFlight, IsTail, IsSpelt, IsAnsweredFor}
use Rattle.zk_laws.proofs.Matching.{IsCalm, Meets}
use Rattle.zk_laws.proofs.Refusing.{reads_refusal, reads_denial}
use Rattle.zk_laws.proofs.Taking.{ticked, denied, came, lost, dropped, began, asked, pinged, still, talking_of, took_notice, took_pong}
use Rattle.zk_laws.proofs.Taking.{took_part, took_reply, and_false}

and_two : (a b : Bool) → (a && b) ≡ true → (a ≡ true) × (b ≡ true)
and_two true b e = (refl, e)
and_two false b e = absurd cc

not_true : (b : Bool) → not b ≡ true → b ≡ false
not_true true e = absurd cc
not_true false e = refl

drop_less : (n : ℕ) (xs : List ℕ) → drop n (drop 1 xs) ≡ drop (suc n) xs
drop_less zero [] = refl
drop_less (suc n) [] = refl
drop_less n (x ∷ xs) = refl

nothing_left : (xs : List Sent) → map (λ s. s.request) xs ≡ [] → xs ≡ []
nothing_left [] e = refl
nothing_left (x ∷ xs) e = absurd cc

pub later_notices : (ns : List Notice) → AreLater (map Notifies ns)
later_notices [] = tt
later_notices (n ∷ ns) = later_notices ns

module _ (h : History) (start : Start) (v : Invariant) (keeps : IsInvariant h (from_zero start.last) v) (Was : List ℕ → Type 0) where
  starting_of : (past : Past) (wire : Wire) (letters : List Letter) (tail : Tail)
      → state_of past ≡ Connecting → InFlight v start Was past wire letters tail
      → v.kept false (seen start past) (map (λ s. s.request) (unread start past wire)) (messages letters) wire.server
  starting_of past wire letters tail st g = subst (λ s. v.kept (is_talking s) (seen start past)
      (map (λ s. s.request) (unread start past wire)) (messages letters) wire.server) st g.kept

  -- the letters of notices wait for nothing
  notices_ask : (ns : List Notice) (ls : List Letter)
      → messages ls ≡ map Notifies ns → AllByRecursion (IsLetter v start Was) ls → answers ls ≡ []
  notices_ask [] [] e a = refl
  notices_ask (n ∷ ns) [] e a = refl
  notices_ask [] (l ∷ ls) e a = absurd cc
  notices_ask (n ∷ ns) (l ∷ ls) e a =
      let f : l.message ≡ Notifies n = cc in
      let g : messages ls ≡ map Notifies ns = cc in
      let none : l.asked ≡ [] = subst (λ m. IsFor v l.xid m l.asked) f a.0.is_for in
      ap (λ l. l ++ answers ls) none ∙ notices_ask ns ls g a.1

  -- where nothing is asked no part was refused
  no_tail : (tail : Tail) (stage : Stage) (owed : List Asking) → IsTail v start Was tail stage owed → owed ≡ [] → tail ≡ Nothing_more
  no_tail Nothing_more stage owed t e = refl
  no_tail (Failure payload rest) stage owed t e = absurd (let f = t.6 in cc)

  -- the acceptance is taken, and the parts are sent
  took_accepted : (past : Past) (wire : Wire) (xid : ℤ) (p : List ℕ) (ps : List Asking) (ls : List Letter) (tail : Tail)
      → state_of past ≡ Connecting
      → InFlight v start Was past wire (record { message = Accepted; payload = p; xid = xid; asked = ps } ∷ ls) tail
      → (ns : List Notice) → messages ls ≡ map Notifies ns → map (λ s. s.request) (unread start past wire) ≡ []
      → IsCalm v start Was past → wire.coming ≡ frames ls ++ tail_bytes tail → (welcome : Welcome)
      → Meets v start Was (Takes_in (Accepts welcome) ∷ past) wire
  took_accepted past wire xid p ps ls tail st g ns told none calm coming welcome =
      let all : List Lists = parts (lists_of past) in
      let sent : List Sent = part_requests (last_of start past) all in
      let rs : List Request = map (λ s. s.request) (unread start past wire) in
      let le = g.enough in
      let u = unread_more wire.processed (requests start past) sent le in
      let n = length-append (requests start past) sent in
      let unasked : unread start past wire ≡ [] = nothing_left (unread start past wire) none in
      let quiet : tail ≡ Nothing_more = no_tail tail wire.server.stage g.owed g.ended (subst (λ l. Owes l g.owed) unasked g.owes) in
      let t : v.kept true (Took Accepted ∷ seen start past) (rs ++ restores (last (seen start past)) all) (messages ls) wire.server =
      keeps.joins (seen start past) rs (messages ls) wire.server all (are_parts start past)
      (starting_of past wire (record { message = Accepted; payload = p; xid = xid; asked = ps } ∷ ls) tail st g) in
      let same : rs ++ restores (last (seen start past)) all ≡ map (λ s. s.request) (drop wire.processed (requests start past ++ sent)) =
      ap (λ z. rs ++ restores z all) (last_is start past) ∙ ap (λ t. rs ++ t) (sym (requests_parts (last_of start past) all))
      ∙ sym (map-append (λ s. s.request) (unread start past wire) sent) ∙ ap (λ t. map (λ s. s.request) t) (sym u) in
      record {
        right = keeps.up true (Took Accepted ∷ seen start past) (rs ++ restores (last (seen start past)) all) (messages ls) wire.server t;
        calm = calm;
        counted = omega arith;
        going = λ e. (
          ls,
          Nothing_more,
          record {
            enough = omega arith;
            are = g.are.1;
            bytes = coming ∙ ap (λ t. frames ls ++ tail_bytes t) quiet;
            owed = parts_asked all;
            owes = subst (λ t. Owes t (parts_asked all)) (sym (u ∙ ap (λ t. t ++ sent) unasked)) (owes_parts (last_of start past) all);
            pending = ap (λ l. l ++ parts_asked all) (sym (notices_ask ns ls told g.are.1));
            later = λ t. subst AreLater (sym told) (later_notices ns);
            ended = tt;
            kept = subst (λ l. v.kept true (Took Accepted ∷ seen start past) l (messages ls) wire.server) same t;
          },
        );
      }

  took_expiry : (past : Past) (wire : Wire) (xid : ℤ) (p : List ℕ) (ps : List Asking) (ls : List Letter) (tail : Tail)
      → state_of past ≡ Connecting
      → InFlight v start Was past wire (record { message = Expires; payload = p; xid = xid; asked = ps } ∷ ls) tail
      → IsCalm v start Was past → Counted past → Meets v start Was (Takes_in Expiry ∷ past) wire
  took_expiry past wire xid p ps ls tail st g calm counted = record {
    right = keeps.expires (seen start past) (map (λ s. s.request) (unread start past wire)) (messages ls) wire.server
        (starting_of past wire (record { message = Expires; payload = p; xid = xid; asked = ps } ∷ ls) tail st g);
    calm = calm;
    counted = counted;
    going = λ e. absurd cc;
  }

  -- the first payload of a connection
  opening_read : (past : Past) (wire : Wire) (m : Message) (xid : ℤ) (p : List ℕ) (ps : List Asking) (ls : List Letter) (tail : Tail)
      → state_of past ≡ Connecting
      → InFlight v start Was past wire (record { message = m; payload = p; xid = xid; asked = ps } ∷ ls) tail
      → IsCalm v start Was past → Counted past → wire.coming ≡ frames ls ++ tail_bytes tail
      → MayBeFirst m (messages ls) (map (λ s. s.request) (unread start past wire))
      → Meets v start Was (reading Connecting (pending_of past) (last_of start past) p ∷ past) wire
  opening_read past wire Accepted xid p ps ls tail st g calm counted coming first =
      let w = reads_accepted (pending_of past) (last_of start past) xid p g.are.0.spelt in
      subst (λ t. Meets v start Was (t ∷ past) wire) (sym w.1)
      (took_accepted past wire xid p ps ls tail st g first.0.0 first.0.1 first.1 calm coming w.0)
  opening_read past wire Expires xid p ps ls tail st g calm counted coming first =
      subst (λ t. Meets v start Was (t ∷ past) wire) (sym (reads_expired (pending_of past) (last_of start past) xid p g.are.0.spelt))
      (took_expiry past wire xid p ps ls tail st g calm counted)
  opening_read past wire (Replies q z res) xid p ps ls tail st g calm counted coming first = absurd first
  opening_read past wire (Watches_set b z) xid p ps ls tail st g calm counted coming first = absurd first
  opening_read past wire (Notifies n) xid p ps ls tail st g calm counted coming first = absurd first
  opening_read past wire Pong xid p ps ls tail st g calm counted coming first = absurd first

  -- a reply whose zxid is from 0
  told_of : (log : List Log_item) (call : Asked_call) (z : ℕ) (r : Result)
      → v.follows log z ⊎ (v.departs × IsLow (pos z) r) → v.gives call z r → IsAnsweredFor v log call (pos z) r
  told_of log call z r (inl after) given = inl (refl, after, given)
  told_of log call z r (inr low) given = inr low

  module _ (past : Past) (wire : Wire) (q : Question) (z : ℕ) (res : Result) (xid : ℤ) (p : List ℕ) (ps : List Asking) (ls : List Letter)
      (tail : Tail) (talks : is_talking (state_of past) ≡ true)
      (g : InFlight v start Was past wire (record { message = Replies q z res; payload = p; xid = xid; asked = ps } ∷ ls) tail)
      (calm : IsCalm v start Was past) (counted : Counted past) (coming : wire.coming ≡ frames ls ++ tail_bytes tail) where
    -- the reply is read with this zxid
    reply_taken : (zxid : ℤ) → from_zero zxid ≡ z → IsAnsweredFor v (seen start past) g.are.0.is_for.2 zxid res
        → is_behind (seen start past) (Replies q z res) ≡ false
        → reading Connected (record { xid = pos g.are.0.is_for.1; waiting = Call_waits g.are.0.is_for.0 q }
        ∷ map pending_for (answers ls ++ g.owed)) (last_of start past) p ≡ Takes_in (Answers_call g.are.0.is_for.0 q zxid res)
        → Meets v start Was (reading Connected (pending_of past) (last_of start past) p ∷ past) wire
    reply_taken zxid same told ahead read =
        let f = g.are.0.is_for in
        let x : Asking = For_call f.1 f.0 f.2 in
        let first : awaited past ≡ x ∷ (answers ls ++ g.owed) = g.pending ∙ ap (λ l. l ++ answers ls ++ g.owed) f.5 in
        let mine : pending_of past ≡ record { xid = pos f.1; waiting = Call_waits f.0 q } ∷ map pending_for (answers ls ++ g.owed) =
        ap (map pending_for) first
        ∙ ap (λ t. record { xid = pos f.1; waiting = Call_waits f.0 t } ∷ map pending_for (answers ls ++ g.owed)) f.4 in
        subst (λ t. Meets v start Was (t ∷ past) wire) (sym (ap (λ l. reading Connected l (last_of start past) p) mine ∙ read))
        (took_reply h start v keeps Was past wire q z zxid same res xid p ps ls tail talks g ahead calm counted coming f.0 x first
        (f.1, f.2, answers ls ++ g.owed, first, f.4, told))

    follows : (is_behind (seen start past) (Replies q z res) ≡ false)
        × (v.follows (seen start past) z ⊎ (v.departs × IsLow (pos z) res))
    follows = keeps.replies (seen start past) (map (λ s. s.request) (unread start past wire)) q z res (messages ls) wire.server
        (talking_of h start v keeps Was past wire
        (record { message = Replies q z res; payload = p; xid = xid; asked = ps } ∷ ls) tail talks g)

    -- the payload is the message's
    reply_plain : IsPayload xid (Replies q z res) p
        → Meets v start Was (reading Connected (pending_of past) (last_of start past) p ∷ past) wire
    reply_plain s =
        let f = g.are.0.is_for in
        let spelt : IsPayload (pos f.1) (Replies q z res) p = subst (λ t. IsPayload t (Replies q z res) p) f.3 s in
        reply_taken (pos z) refl (told_of (seen start past) f.2 z res follows.1 f.6) follows.0
        (reads_reply (map pending_for (answers ls ++ g.owed)) (last_of start past) f.1 f.0 q z res p (keeps.coded f.2 z res f.6) spelt
        (ap (λ t. is_some (left_by q res) && nat_lt z t) (sym (last_is start past)) ∙ follows.0))

    -- it refuses, with the zxid 0 or one below
    reply_denied : (code : ℤ) → res ≡ Refused code → v.departs → z ≡ 0 → (zxid : ℤ) (behind : List ℕ) → from_zero zxid ≡ 0
        → IsOther code → IsHeaded xid zxid code p behind
        → Meets v start Was (reading Connected (pending_of past) (last_of start past) p ∷ past) wire
    reply_denied code is departs none zxid behind low other headed =
        let f = g.are.0.is_for in
        reply_taken zxid (low ∙ sym none) (inr (departs, subst (λ r. IsLow zxid r) (sym is) low)) follows.0
        (reads_denial (map pending_for (answers ls ++ g.owed)) (last_of start past) f.1 f.0 q zxid code p behind other
        (subst (λ t. IsHeaded t zxid code p behind) f.3 headed)
        ∙ ap (λ r. Takes_in (Answers_call f.0 q zxid r)) (sym is))

  reply_read : (past : Past) (wire : Wire) (q : Question) (z : ℕ) (res : Result) (xid : ℤ) (p : List ℕ) (ps : List Asking)
      (ls : List Letter) (tail : Tail) → is_talking (state_of past) ≡ true
      → InFlight v start Was past wire (record { message = Replies q z res; payload = p; xid = xid; asked = ps } ∷ ls) tail
      → IsCalm v start Was past → Counted past → wire.coming ≡ frames ls ++ tail_bytes tail → IsSpelt v xid (Replies q z res) p
      → Meets v start Was (reading Connected (pending_of past) (last_of start past) p ∷ past) wire
  reply_read past wire q z (Refused code) xid p ps ls tail talks g calm counted coming (inl s) =
      reply_plain past wire q z (Refused code) xid p ps ls tail talks g calm counted coming s
  reply_read past wire q z (Refused code) xid p ps ls tail talks g calm counted coming (inr d) =
      reply_denied past wire q z (Refused code) xid p ps ls tail talks g calm counted coming code refl d.0 d.1 d.2 d.3 d.4 d.5 d.6
  reply_read past wire q z NoNode xid p ps ls tail talks g calm counted coming s =
      reply_plain past wire q z NoNode xid p ps ls tail talks g calm counted coming s
  reply_read past wire q z (Found stat) xid p ps ls tail talks g calm counted coming s =
      reply_plain past wire q z (Found stat) xid p ps ls tail talks g calm counted coming s
  reply_read past wire q z (Read b stat) xid p ps ls tail talks g calm counted coming s =
      reply_plain past wire q z (Read b stat) xid p ps ls tail talks g calm counted coming s
  reply_read past wire q z (Listing ns stat) xid p ps ls tail talks g calm counted coming s =
      reply_plain past wire q z (Listing ns stat) xid p ps ls tail talks g calm counted coming s
  reply_read past wire q z (Made at) xid p ps ls tail talks g calm counted coming s =
      reply_plain past wire q z (Made at) xid p ps ls tail talks g calm counted coming s
  reply_read past wire q z Done xid p ps ls tail talks g calm counted coming s =
      reply_plain past wire q z Done xid p ps ls tail talks g calm counted coming s
  reply_read past wire q z (Brought bytes) xid p ps ls tail talks g calm counted coming s =
      reply_plain past wire q z (Brought bytes) xid p ps ls tail talks g calm counted coming s

  -- a later payload
  talking_read : (past : Past) (wire : Wire) (m : Message) (xid : ℤ) (p : List ℕ) (ps : List Asking) (ls : List Letter) (tail : Tail)
      → is_talking (state_of past) ≡ true
      → InFlight v start Was past wire (record { message = m; payload = p; xid = xid; asked = ps } ∷ ls) tail
      → IsCalm v start Was past → Counted past → wire.coming ≡ frames ls ++ tail_bytes tail
      → Meets v start Was (reading Connected (pending_of past) (last_of start past) p ∷ past) wire
  talking_read past wire Accepted xid p ps ls tail talks g calm counted coming = absurd (g.later talks)
  talking_read past wire Expires xid p ps ls tail talks g calm counted coming = absurd (g.later talks)
  talking_read past wire (Notifies n) xid p ps ls tail talks g calm counted coming =
      subst (λ t. Meets v start Was (t ∷ past) wire) (sym (reads_notice (pending_of past) (last_of start past) xid n p g.are.0.spelt))
      (took_notice h start v keeps Was past wire n xid p ps ls tail talks g calm counted coming)
  talking_read past wire Pong xid p ps ls tail talks g calm counted coming =
      subst (λ t. Meets v start Was (t ∷ past) wire) (sym (reads_pong (pending_of past) (last_of start past) xid p g.are.0.spelt))
      (took_pong h start v keeps Was past wire xid p ps ls tail talks g calm counted coming)
  talking_read past wire (Watches_set b z) xid p ps ls tail talks g calm counted coming =
      let x : Asking = For_part b in
      let first : awaited past ≡ x ∷ (answers ls ++ g.owed) = g.pending ∙ ap (λ l. l ++ answers ls ++ g.owed) g.are.0.is_for.1 in
      let spelt : IsPayload part_xid (Watches_set b z) p = subst (λ t. IsPayload t (Watches_set b z) p) g.are.0.is_for.0 g.are.0.spelt in
      subst (λ t. Meets v start Was (t ∷ past) wire)
      (sym (ap (λ l. reading Connected (map pending_for l) (last_of start past) p) first
      ∙ reads_part (map pending_for (answers ls ++ g.owed)) (last_of start past) b z p spelt))
      (took_part h start v keeps Was past wire b z xid p ps ls tail talks g calm counted coming)
  talking_read past wire (Replies q z res) xid p ps ls tail talks g calm counted coming =
      reply_read past wire q z res xid p ps ls tail talks g calm counted coming g.are.0.spelt

  first_of : (past : Past) (wire : Wire) (l : Letter) (ls : List Letter) (tail : Tail)
      → state_of past ≡ Connecting → InFlight v start Was past wire (l ∷ ls) tail
      → MayBeFirst l.message (messages ls) (map (λ s. s.request) (unread start past wire))
  first_of past wire l ls tail e g = keeps.first_is (seen start past) (map (λ s. s.request) (unread start past wire)) l.message
      (messages ls) wire.server (starting_of past wire (l ∷ ls) tail e g)

  state_read : (past : Past) (wire : Wire) (l : Letter) (ls : List Letter) (tail : Tail) (st : State)
      → state_of past ≡ st → is_open st ≡ true
      → InFlight v start Was past wire (l ∷ ls) tail → IsCalm v start Was past → Counted past
      → wire.coming ≡ frames ls ++ tail_bytes tail
      → Meets v start Was (reading (state_of past) (pending_of past) (last_of start past) l.payload ∷ past) wire
  state_read past wire l ls tail Connecting e o g calm counted coming =
      subst (λ s. Meets v start Was (reading s (pending_of past) (last_of start past) l.payload ∷ past) wire) (sym e)
      (opening_read past wire l.message l.xid l.payload l.asked ls tail e g calm counted coming (first_of past wire l ls tail e g))
  state_read past wire l ls tail Connected e o g calm counted coming =
      subst (λ s. Meets v start Was (reading s (pending_of past) (last_of start past) l.payload ∷ past) wire) (sym e)
      (talking_read past wire l.message l.xid l.payload l.asked ls tail (ap is_talking e) g calm counted coming)
  state_read past wire l ls tail Idle e o g calm counted coming = absurd cc
  state_read past wire l ls tail Expired e o g calm counted coming = absurd cc
  state_read past wire l ls tail Closed e o g calm counted coming = absurd cc

  -- nothing comes behind no letter before the acceptance is taken
  none_first : (past : Past) (wire : Wire) (p rest : List ℕ) → state_of past ≡ Connecting
      → InFlight v start Was past wire [] (Failure p rest) → ⊥
  none_first past wire p rest e g = keeps.unended g.ended.7 (seen start past) (map (λ s. s.request) (unread start past wire)) wire.server
      g.ended.3 (starting_of past wire [] (Failure p rest) e g)

  -- the reply with an error is taken
  failure_read : (past : Past) (wire : Wire) (p rest : List ℕ) (st : State)
      → state_of past ≡ st → is_open st ≡ true → Meets v start Was past wire → InFlight v start Was past wire [] (Failure p rest)
      → Meets v start Was (reading (state_of past) (pending_of past) (last_of start past) p ∷ past) wire
  failure_read past wire p rest Connecting e o s g = absurd (none_first past wire p rest e g)
  failure_read past wire p rest Connected e o s g =
      let f = g.ended in
      let first : awaited past ≡ For_part f.4 ∷ f.5 = g.pending ∙ f.6 in
      subst (λ s. Meets v start Was (reading s (pending_of past) (last_of start past) p ∷ past) wire) (sym e)
      (subst (λ t. Meets v start Was (t ∷ past) wire)
      (sym (ap (λ l. reading Connected (map pending_for l) (last_of start past) p) first
      ∙ reads_refusal (map pending_for f.5) (last_of start past) f.4 p f.2))
      (dropped h start v keeps Was (WatchesRefused f.2.code) past wire (inr (inr (f.7, f.2.code, refl, f.2.other))) s))
  failure_read past wire p rest Idle e o s g = absurd cc
  failure_read past wire p rest Expired e o s g = absurd cc
  failure_read past wire p rest Closed e o s g = absurd cc

  -- ---- bytes

  -- the bytes of what is first
  first_bytes : (past : Past) (wire : Wire) (l : Letter) (ls : List Letter) (tail : Tail)
      → InFlight v start Was past wire (l ∷ ls) tail → held_of past ++ wire.coming ≡ frame l.payload ++ (frames ls ++ tail_bytes tail)
  first_bytes past wire l ls tail g = g.bytes ∙ append_assoc (frame l.payload) (frames ls) (tail_bytes tail)

  payload_read : (past : Past) (wire : Wire) (p : List ℕ) (on : is_going past ≡ true) (s : Meets v start Was past wire)
      (letters : List Letter) (tail : Tail) → InFlight v start Was past wire letters tail
      → cut (longest start.limits (state_of past)) (held_of past) ≡ Payload p
      → Meets v start Was (reading (state_of past) (pending_of past) (last_of start past) p ∷ past) wire
  payload_read past wire p on s [] Nothing_more g c =
      absurd (let f = none_cut (longest start.limits (state_of past)) (held_of past) wire.coming (Payload p) g.bytes c in cc)
  payload_read past wire p on s [] (Failure payload rest) g c =
      let t = taken_first (longest start.limits (state_of past)) (held_of past) wire.coming payload rest p g.ended.1 g.bytes c in
      subst (λ b. Meets v start Was (reading (state_of past) (pending_of past) (last_of start past) b ∷ past) wire) (sym t.0)
      (failure_read past wire payload rest (state_of past) refl (and_two (is_open (state_of past)) (not (has_halted past)) on).0 s g)
  payload_read past wire p on s (l ∷ ls) tail g c =
      let t = taken_first (longest start.limits (state_of past)) (held_of past) wire.coming l.payload (frames ls ++ tail_bytes tail) p
      g.are.0.short
      (first_bytes past wire l ls tail g) c in
      subst (λ b. Meets v start Was (reading (state_of past) (pending_of past) (last_of start past) b ∷ past) wire) (sym t.0)
      (state_read past wire l ls tail (state_of past) refl
      (and_two (is_open (state_of past)) (not (has_halted past)) on).0 g s.calm s.counted t.1)

  -- a payload of more bytes than the state admits is too long for the session: before the acceptance only a response is in flight
  first_response : (m : Message) (xid : ℤ) (p : List ℕ) (ms : List Message) (rs : List Request) → MayBeFirst m ms rs
      → IsSpelt v xid m p → (response : Response) × (ignored : List ℕ) × IsResponse p response ignored
  first_response Accepted xid p ms rs may is = (is.0, is.1, is.2)
  first_response Expires xid p ms rs may is = (is.0, is.1, is.2)
  first_response (Replies q z res) xid p ms rs may is = absurd may
  first_response (Watches_set b z) xid p ms rs may is = absurd may
  first_response (Notifies n) xid p ms rs may is = absurd may
  first_response Pong xid p ms rs may is = absurd may

  letter_too_long : (past : Past) (wire : Wire) (l : Letter) (ls : List Letter) (tail : Tail) (st : State)
      → state_of past ≡ st → is_open st ≡ true → InFlight v start Was past wire (l ∷ ls) tail
      → longest start.limits st < length l.payload → IsTooLongFor start.limits l.payload
  letter_too_long past wire l ls tail Connected e o g above = inl above
  letter_too_long past wire l ls tail Connecting e o g above = inr (
    above,
    first_response l.message l.xid l.payload (messages ls) (map (λ s. s.request) (unread start past wire))
        (first_of past wire l ls tail e g) g.are.0.spelt,
  )
  letter_too_long past wire l ls tail Idle e o g above = absurd cc
  letter_too_long past wire l ls tail Expired e o g above = absurd cc
  letter_too_long past wire l ls tail Closed e o g above = absurd cc

  failure_too_long : (past : Past) (wire : Wire) (p rest : List ℕ) (st : State)
      → state_of past ≡ st → is_open st ≡ true → InFlight v start Was past wire [] (Failure p rest)
      → longest start.limits st < length p → IsTooLongFor start.limits p
  failure_too_long past wire p rest Connected e o g above = inl above
  failure_too_long past wire p rest Connecting e o g above = absurd (none_first past wire p rest e g)
  failure_too_long past wire p rest Idle e o g above = absurd cc
  failure_too_long past wire p rest Expired e o g above = absurd cc
  failure_too_long past wire p rest Closed e o g above = absurd cc

  bad_read : (past : Past) (wire : Wire) (fault : FrameFault) → is_going past ≡ true → (s : Meets v start Was past wire)
      (letters : List Letter) (tail : Tail)
      → InFlight v start Was past wire letters tail → cut (longest start.limits (state_of past)) (held_of past) ≡ Bad fault
      → Meets v start Was (Dropped (Framed fault) ∷ past) wire
  bad_read past wire fault on s [] Nothing_more g c =
      absurd (let f = none_cut (longest start.limits (state_of past)) (held_of past) wire.coming (Bad fault) g.bytes c in cc)
  bad_read past wire fault on s [] (Failure payload rest) g c =
      let t = first_too_long (longest start.limits (state_of past)) (held_of past) wire.coming payload rest fault g.ended.1 g.bytes c in
      let up = (and_two (is_open (state_of past)) (not (has_halted past)) on).0 in
      let above = failure_too_long past wire payload rest (state_of past) refl up g t.1 in
      dropped h start v keeps Was (Framed fault) past wire (inr (inl (ap Framed t.0, (payload, g.ended.0, t.1, t.2, above)))) s
  bad_read past wire fault on s (l ∷ ls) tail g c =
      let t = first_too_long (longest start.limits (state_of past)) (held_of past) wire.coming l.payload (frames ls ++ tail_bytes tail)
      fault g.are.0.short
      (first_bytes past wire l ls tail g) c in
      let up = (and_two (is_open (state_of past)) (not (has_halted past)) on).0 in
      let above = letter_too_long past wire l ls tail (state_of past) refl up g t.1 in
      dropped h start v keeps Was (Framed fault) past wire (inr (inl (ap Framed t.0, (l.payload, g.are.0.was_sent, t.1, t.2, above)))) s

  cut_read : (byte : ℕ) (past : Past) (wire : Wire) → is_going past ≡ true → Meets v start Was (Came byte ∷ past) wire → (c : Cutting)
      → cut (longest start.limits (state_of past)) (held_of past ++ byte ∷ []) ≡ c
      → Meets v start Was (joined past (Came byte ∷ of_cutting (view_at start past) c)) wire
  cut_read byte past wire on s Unfinished c = s
  cut_read byte past wire on s (Bad fault) c = let g = s.going on in bad_read (Came byte ∷ past) wire fault on s g.0 g.1 g.2 c
  cut_read byte past wire on s (Payload p) c = let g = s.going on in payload_read (Came byte ∷ past) wire p on s g.0 g.1 g.2 c

  comes_one : (byte : ℕ) (rest : List ℕ) (past : Past) (wire : Wire)
      → is_going past ≡ true → wire.coming ≡ byte ∷ rest → Meets v start Was past wire
      → Meets v start Was (joined past (happenings (view_at start past) (Comes byte))) (record wire { coming = rest })
  comes_one byte rest past wire on c s =
      let two = and_two (is_open (state_of past)) (not (has_halted past)) on in
      let up : IsOpen (state_of past) = two.0 in
      subst (λ t. Meets v start Was (joined past t) (record wire { coming = rest }))
      (sym (byte_happens (view_at start past) byte (cut (longest start.limits (state_of past)) (held_of past ++ byte ∷ []))
      (record { up = up; goes_on = not_true (has_halted past) two.1 }) refl))
      (cut_read byte past (record wire { coming = rest }) on (came h start v keeps Was byte rest past wire c s)
      (cut (longest start.limits (state_of past)) (held_of past ++ byte ∷ [])) refl)

  quiet_bytes : (b : Bool) (st : State) (xs : List Happening) → (is_open st && not b) ≡ false → cond b [] (if_open st xs) ≡ []
  quiet_bytes true st xs e = refl
  quiet_bytes false Idle xs e = refl
  quiet_bytes false Connecting xs e = absurd cc
  quiet_bytes false Connected xs e = absurd cc
  quiet_bytes false Expired xs e = refl
  quiet_bytes false Closed xs e = refl

  bytes_come : (bytes : List ℕ) (past : Past) (wire : Wire) → (is_going past ≡ true → (rest : List ℕ) × (wire.coming ≡ bytes ++ rest))
      → Meets v start Was past wire
      → Meets v start Was (past_after start past (map Comes bytes)) (record wire { coming = drop (length bytes) wire.coming })
  bytes_come [] past wire may s = s
  bytes_come (byte ∷ bytes) past wire may s =
      subst (λ t. Meets v start Was (past_after start (joined past (happenings (view_at start past) (Comes byte))) (map Comes bytes))
      (record wire { coming = t })) (drop_less (length bytes) wire.coming)
      (by (is_going past) refl (λ past' wire' may' s'. bytes_come bytes past' wire' may' s'))
    where
      by : (b : Bool) → is_going past ≡ b
          → ((past' : Past) (wire' : Wire) → (is_going past' ≡ true → (rest : List ℕ) × (wire'.coming ≡ bytes ++ rest))
          → Meets v start Was past' wire' → Meets v start Was (past_after start past' (map Comes bytes))
          (record wire' { coming = drop (length bytes) wire'.coming }))
          → Meets v start Was (past_after start (joined past (happenings (view_at start past) (Comes byte))) (map Comes bytes))
          (record wire { coming = drop (length bytes) (drop 1 wire.coming) })
      by true on ih =
          let m = may on in
          let t : drop 1 wire.coming ≡ bytes ++ m.0 = ap (drop 1) m.1 in
          ih (joined past (happenings (view_at start past) (Comes byte))) (record wire { coming = drop 1 wire.coming }) (λ e. (m.0, t))
          (subst (λ l. Meets v start Was (joined past (happenings (view_at start past) (Comes byte))) (record wire { coming = l }))
          (sym t) (comes_one byte (bytes ++ m.0) past wire on m.1 s))
      by false off ih =
          subst (λ t. Meets v start Was (past_after start (joined past t) (map Comes bytes))
          (record wire { coming = drop (length bytes) (drop 1 wire.coming) }))
          (sym (quiet_bytes (has_halted past) (state_of past) (comes (view_at start past) byte) off))
          (ih past (record wire { coming = drop 1 wire.coming }) (λ e. absurd cc)
          (still h start v keeps Was past wire (record wire { coming = drop 1 wire.coming }) off s))

  -- ---- other signals

  going_by : (b : Bool) (st : State) (past : Past) → has_halted past ≡ b → state_of past ≡ st → is_going past ≡ (is_open st && not b)
  going_by b st past e f = ap (λ t. is_open t && not (has_halted past)) f ∙ ap (λ t. is_open st && not t) e

  opens_here : (place : ℕ) (past : Past) (wire : Wire)
      → place ≤ length h.transactions → Meets v start Was past wire → (b : Bool) (st : State) → has_halted past ≡ b → state_of past ≡ st
      → Meets v start Was (joined past (cond b [] (opens st))) (new_wire place)
  opens_here place past wire may s true st e f =
      still h start v keeps Was past wire (new_wire place) (going_by true st past e f ∙ and_false h start v keeps Was (is_open st)) s
  opens_here place past wire may s false Idle e f = began h start v keeps Was place past wire may s
  opens_here place past wire may s false Connecting e f =
      began h start v keeps Was place (Loses_it ∷ past) wire may (lost h start v keeps Was past wire s)
  opens_here place past wire may s false Connected e f =
      began h start v keeps Was place (Loses_it ∷ past) wire may (lost h start v keeps Was past wire s)
  opens_here place past wire may s false Expired e f =
      still h start v keeps Was past wire (new_wire place) (going_by false Expired past e f) s
  opens_here place past wire may s false Closed e f =
      still h start v keeps Was past wire (new_wire place) (going_by false Closed past e f) s

  cuts_here : (past : Past) (wire : Wire) → Meets v start Was past wire → (b : Bool) (st : State)
      → Meets v start Was (joined past (cond b [] (if_open st (Loses_it ∷ [])))) wire
  cuts_here past wire s true st = s
  cuts_here past wire s false Idle = s
  cuts_here past wire s false Connecting = lost h start v keeps Was past wire s
  cuts_here past wire s false Connected = lost h start v keeps Was past wire s
  cuts_here past wire s false Expired = s
  cuts_here past wire s false Closed = s

  cond_here : (b : Bool) (xs ys : List Happening) (past : Past) (wire : Wire) → Meets v start Was (joined past xs) wire
      → Meets v start Was (joined past ys) wire → Meets v start Was (joined past (cond b xs ys)) wire
  cond_here true xs ys past wire p q = p
  cond_here false xs ys past wire p q = q

  due_here : (view : View) (now : ℕ) (past : Past) (wire : Wire) → Meets v start Was past wire → (st : State) → view.standing.state
      ≡ st → state_of past ≡ st → has_halted past ≡ false → Meets v start Was (joined past (if_open st (due view now))) wire
  due_here view now past wire s Idle same f e = s
  due_here view now past wire s Expired same f e = s
  due_here view now past wire s Closed same f e = s
  due_here view now past wire s Connecting same f e =
      cond_here (nat_le (2 * timeout_of view) (3 * (now - view.moments.heard))) (Dropped Silent ∷ []) _ past wire
      (dropped h start v keeps Was Silent past wire (inl refl) s)
      (subst (λ t. Meets v start Was (joined past
      (if is_talking t && nat_le (timeout_of view) (3 * (now - view.moments.sent)) then Pinged ∷ [] else [])) wire) (sym same) s)
  due_here view now past wire s Connected same f e =
      cond_here (nat_le (2 * timeout_of view) (3 * (now - view.moments.heard))) (Dropped Silent ∷ []) _ past wire
      (dropped h start v keeps Was Silent past wire (inl refl) s)
      (subst (λ t. Meets v start Was
      (joined past (if is_talking t && nat_le (timeout_of view) (3 * (now - view.moments.sent)) then Pinged ∷ [] else [])) wire) (sym same)
      (cond_here (nat_le (timeout_of view) (3 * (now - view.moments.sent))) (Pinged ∷ []) [] past wire
      (pinged h start v keeps Was past wire (going_by false Connected past e f) (ap is_talking f) s) s))

  ticks_here : (moment : ℕ) (past : Past) (wire : Wire) → Meets v start Was past wire → (b : Bool) → has_halted past ≡ b
      → Meets v start Was (joined past (cond b []
      (Ticked moment ∷ if_open (state_of past) (due (view_at start past) (max moment (view_at start past).moments.now))))) wire
  ticks_here moment past wire s true e = s
  ticks_here moment past wire s false e = due_here (view_at start past) (max moment (view_at start past).moments.now)
      (Ticked moment ∷ past) wire (ticked h start v keeps Was moment past wire s) (state_of past) refl refl e

  talking_open : (st : State) → is_talking st ≡ true → is_open st ≡ true
  talking_open Connected e = refl
  talking_open Idle e = absurd cc
  talking_open Connecting e = absurd cc
  talking_open Expired e = absurd cc
  talking_open Closed e = absurd cc

  calls_here : (ticket : ℕ) (question : Asked_call) (past : Past) (wire : Wire) → IsAskable question → Meets v start Was past wire
      → has_halted past ≡ false → (why : Option Outcome) → refusal (view_at start past) question ≡ why
      → Meets v start Was (joined past (calls ticket question why)) wire
  calls_here ticket question past wire may s e None r =
      let talks = talks_in start (state_of past) (view_at start past) question r in
      asked h start v keeps Was ticket question past wire
      (ap (λ t. is_open (state_of past) && not t) e ∙ ap (λ t. t && true) (talking_open (state_of past) talks)) talks may s
  calls_here ticket question past wire may s e (Some why) r = denied h start v keeps Was ticket why past wire s

  called_here : (ticket : ℕ) (question : Asked_call) (past : Past) (wire : Wire)
      → IsAskable question → Meets v start Was past wire → (b : Bool) → has_halted past ≡ b
      → Meets v start Was (joined past (cond b [] (calls ticket question (refusal (view_at start past) question)))) wire
  called_here ticket question past wire may s true e = s
  called_here ticket question past wire may s false e =
      calls_here ticket question past wire may s e (refusal (view_at start past) question) refl

  -- what a turn asks of the servers, and the server after it
  abbrev MayTurn : ℕ → Input → Past → Wire → Type 0
  MayTurn place input past wire =
      elim input [
        | Opening ↦ place ≤ length h.transactions
        | Bytes bytes ↦ is_going past ≡ true
            → (rest : List ℕ) × (wire.coming ≡ bytes ++ rest)
        | _ ↦ ⊤
      ]

  abbrev wire_after : ℕ → Input → Wire → Wire
  wire_after place input wire =
      elim input [ Opening ↦ new_wire place | Bytes bytes ↦ record wire { coming = drop (length bytes) wire.coming } | _ ↦ wire ]

  turn_here : (place : ℕ) (input : Input) (past : Past) (wire : Wire) → IsAsked input → MayTurn place input past wire
      → Meets v start Was past wire → Meets v start Was (past_after start past (signals_of input)) (wire_after place input wire)
  turn_here place Opening past wire ask may s = opens_here place past wire may s (has_halted past) (state_of past) refl refl
  turn_here place (Bytes bytes) past wire ask may s = bytes_come bytes past wire may s
  turn_here place Cut past wire ask may s = cuts_here past wire s (has_halted past) (state_of past)
  turn_here place (Now moment) past wire ask may s = ticks_here moment past wire s (has_halted past) refl
  turn_here place (Call ticket question) past wire ask may s = called_here ticket question past wire ask s (has_halted past) refl

  -- Before anything has happened.
  pub first_here : Meets v start Was [] no_wire
  first_here = record { right = keeps.first; going = λ e. absurd cc; calm = tt; counted = omega arith }

  -- A turn.
  pub turned_here : (place : ℕ) (turn : Turn) (past : Past) (wire : Wire)
      → IsAsked turn.input → MayEnter h start (Goes_on place (Turned turn)) past wire → Meets v start Was past wire
      → Meets v start Was (past_after start past (signals (Turned turn))) (wire_past place (Turned turn) wire)
  turned_here place turn past wire ask may s = turn_here place turn.input past wire ask may s
