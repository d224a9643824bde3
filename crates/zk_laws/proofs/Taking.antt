-- Each happening of a client keeps what is between it and its servers: happening by happening, by what is first in flight and what waits
-- first.
use Rattle.std.proofs.Common.{◌≡◌, ℕ, ◌≤◌, ◌<◌, ℤ, pos, negsuc, Bool, true, false, ◌&&◌, List, [], ◌∷◌, ◌++◌, map, drop, length, refl, sym}
use Rattle.std.proofs.Common.{ap, subst, ◌∙◌, arith, append_assoc}
use Rattle.std.proofs.lemmas.List.{length-append, append-nil, map-append}
use Rattle.zk_nodes.specs.History.{History}
use Rattle.zk_conversation.specs.Calls.{Call, call_payload, ping_payload}
use Rattle.zk_conversation.specs.Questions.{Question, Close}
use Rattle.zk_conversation.specs.Results.{Result}
use Rattle.zk_turns.specs.Turns.{Start, Outcome, Fault, IsAskable}
use Rattle.zk_turns.specs.Past.{is_open, Asking, For_call, For_part, awaited, pending_for, Past, Began, Came, Dropped, Asked, Denied}
use Rattle.zk_turns.specs.Past.{Pinged, Ticked, Forgot, is_talking, state_of, held_of, xid_of, answered, questions, Took as Takes_in}
use Rattle.zk_turns.specs.Past.{Lost as Loses_it, Halted as Halts_now, Replies as Answers_call, Watches_set as Sets_watches}
use Rattle.zk_turns.specs.Past.{Notifies as Tells, Pong as Echo}
use Rattle.zk_turns.proofs.Stepped.{Counted, counted_next, Waits, waits}
use Rattle.zk_laws.specs.Server.{Notice}
use Rattle.zk_laws.specs.Messages.{Message, Connect, Replies, Watches_set, Notifies, Pong, Request, Ask, Ping, from_zero}
use Rattle.zk_laws.specs.ServerSteps.{Stage}
use Rattle.zk_laws.specs.Served.{Sent, requests, unread, Wire, new_wire, is_going}
use Rattle.zk_laws.proofs.Log.{Opened, Took, last}
use Rattle.zk_laws.proofs.Steps.{is_behind, ends}
use Rattle.zk_laws.proofs.Seen.{seen}
use Rattle.zk_laws.proofs.Seeing.{last_is}
use Rattle.zk_laws.proofs.Flight.{awaited_less, awaited_more, owes_append, owes_one, unread_more}
use Rattle.zk_laws.proofs.Between.{Invariant, IsInvariant}
use Rattle.zk_laws.proofs.Matching.{Letter, frames, messages, answers, AreLater, Owes, WaitsFor, Tail, Nothing_more, Failure, tail_bytes}
use Rattle.zk_laws.proofs.Matching.{IsDue, IsAnswered, IsTail, InFlight, IsCalm, Meets}

module _ (h : History) (start : Start) (v : Invariant) (keeps : IsInvariant h (from_zero start.last) v) (Was : List ℕ → Type 0) where
  -- ---- happenings that leave no item

  pub ticked : (moment : ℕ) (past : Past) (wire : Wire)
      → Meets v start Was past wire → Meets v start Was (Ticked moment ∷ past) wire
  ticked moment past wire s = record {
    right = s.right;
    calm = s.calm;
    counted = s.counted;
    going = λ e. let g = s.going e in (
      g.0,
      g.1,
      record {
        enough = g.2.enough;
        are = g.2.are;
        bytes = g.2.bytes;
        owed = g.2.owed;
        owes = g.2.owes;
        pending = g.2.pending;
        later = g.2.later;
        ended = g.2.ended;
        kept = g.2.kept;
      },
    );
  }

  pub denied : (ticket : ℕ) (why : Outcome) (past : Past) (wire : Wire)
      → Meets v start Was past wire → Meets v start Was (Denied ticket why ∷ past) wire
  denied ticket why past wire s = record {
    right = s.right;
    calm = s.calm;
    counted = s.counted;
    going = λ e. let g = s.going e in (
      g.0,
      g.1,
      record {
        enough = g.2.enough;
        are = g.2.are;
        bytes = g.2.bytes;
        owed = g.2.owed;
        owes = g.2.owes;
        pending = g.2.pending;
        later = g.2.later;
        ended = g.2.ended;
        kept = g.2.kept;
      },
    );
  }

  pub came : (byte : ℕ) (rest : List ℕ) (past : Past) (wire : Wire) → wire.coming ≡ byte ∷ rest → Meets v start Was past wire
      → Meets v start Was (Came byte ∷ past) (record wire { coming = rest })
  came byte rest past wire c s = record {
    right = s.right;
    calm = s.calm;
    counted = s.counted;
    going = λ e. let g = s.going e in (
      g.0,
      g.1,
      record {
        enough = g.2.enough;
        are = g.2.are;
        owed = g.2.owed;
        owes = g.2.owes;
        pending = g.2.pending;
        later = g.2.later;
        ended = g.2.ended;
        kept = g.2.kept;
        bytes = append_assoc (held_of past) (byte ∷ []) rest ∙ ap (λ l. held_of past ++ l) (sym c) ∙ g.2.bytes;
      },
    );
  }

  -- ---- ends

  over_by : (now : Past) (wire : Wire) → v.right (seen start now) → IsCalm v start Was now → answered now ≤ length (questions now)
      → is_going now ≡ false → Meets v start Was now wire
  over_by now wire right calm counted off =
      record { right = right; calm = calm; counted = counted; going = λ e. absurd (let f = sym off ∙ e in cc) }

  -- with no connection the server does not matter
  pub still : (past : Past) (wire other : Wire)
      → is_going past ≡ false → Meets v start Was past wire → Meets v start Was past other
  still past wire other off s = over_by past other s.right s.calm s.counted off

  pub lost : (past : Past) (wire : Wire) → Meets v start Was past wire → Meets v start Was (Loses_it ∷ past) wire
  lost past wire s = over_by (Loses_it ∷ past) wire (keeps.loses (seen start past) s.right) s.calm s.counted refl

  pub dropped : (fault : Fault) (past : Past) (wire : Wire)
      → IsDue v start Was fault past → Meets v start Was past wire → Meets v start Was (Dropped fault ∷ past) wire
  dropped fault past wire why s =
      over_by (Dropped fault ∷ past) wire (keeps.loses (seen start past) s.right) (why, s.calm) s.counted refl

  pub and_false : (b : Bool) → (b && false) ≡ false
  and_false true = refl
  and_false false = refl

  pub halted : (past : Past) (wire : Wire) → Meets v start Was past wire → Meets v start Was (Halts_now ∷ past) wire
  halted past wire s =
      over_by (Halts_now ∷ past) wire (keeps.halts (seen start past) s.right) s.calm s.counted (and_false (is_open (state_of past)))

  pub forgot : (past : Past) (wire : Wire) → Meets v start Was past wire → Meets v start Was (Forgot ∷ past) wire
  forgot past wire s = record {
    right = keeps.forgets (seen start past) s.right;
    calm = s.calm;
    counted = s.counted;
    going = λ e. let g = s.going e in (
      g.0,
      g.1,
      record {
        enough = g.2.enough;
        are = g.2.are;
        bytes = g.2.bytes;
        owed = g.2.owed;
        owes = g.2.owes;
        pending = g.2.pending;
        later = g.2.later;
        ended = g.2.ended;
        kept = keeps.forgets_up (is_talking (state_of past)) (seen start past) (map (λ s. s.request) (unread start past wire))
            (messages g.0) wire.server g.2.kept;
      },
    );
  }

  -- ---- a connection begins

  pub began : (place : ℕ) (past : Past) (wire : Wire)
      → place ≤ length h.transactions → Meets v start Was past wire → Meets v start Was (Began ∷ past) (new_wire place)
  began place past wire may s =
      let opened : v.kept false (Opened ∷ seen start past) (Connect (last (seen start past)) ∷ []) [] (new_wire place).server =
      keeps.opens (seen start past) place may s.right in
      record {
        right = keeps.up false (Opened ∷ seen start past) (Connect (last (seen start past)) ∷ []) [] (new_wire place).server opened;
        calm = s.calm;
        counted = omega arith;
        going = λ e. (
          [],
          Nothing_more,
          record {
            enough = omega arith;
            are = tt;
            bytes = refl;
            owed = [];
            owes = ([], [], refl, refl, refl);
            pending = refl;
            later = λ t. absurd cc;
            ended = tt;
            kept = subst (λ z. v.kept false (Opened ∷ seen start past) (Connect z ∷ []) [] (new_wire place).server) (last_is start past)
                opened;
          },
        );
      }

  -- ---- on an open connection

  pub talking_of : (past : Past) (wire : Wire) (letters : List Letter) (tail : Tail)
      → is_talking (state_of past) ≡ true → InFlight v start Was past wire letters tail
      → v.kept true (seen start past) (map (λ s. s.request) (unread start past wire)) (messages letters) wire.server
  talking_of past wire letters tail talks g =
      subst (λ b. v.kept b (seen start past) (map (λ s. s.request) (unread start past wire)) (messages letters) wire.server) talks g.kept

  tail_more : (tail : Tail) (stage : Stage) (owed mine : List Asking)
      → IsTail v start Was tail stage owed → IsTail v start Was tail stage (owed ++ mine)
  tail_more Nothing_more stage owed mine t = tt
  tail_more (Failure payload rest) stage owed mine t = (t.0, t.1, t.2, t.3, t.4, t.5 ++ mine, ap (λ l. l ++ mine) t.6, t.7)

  asked_requests : (past : Past) (wire : Wire) (s : Sent) → wire.processed ≤ length (requests start past)
      → map (λ s. s.request) (unread start past wire) ++ s.request ∷ []
      ≡ map (λ s. s.request) (drop wire.processed (requests start past ++ s ∷ []))
  asked_requests past wire s le =
      sym (map-append (λ s. s.request) (unread start past wire) (s ∷ []))
      ∙ ap (λ l. map (λ s. s.request) l) (sym (unread_more wire.processed (requests start past) (s ∷ []) le))

  -- one request more, and what it asks waits
  request_more : (past now : Past) (wire : Wire) (ls : List Letter) (tail : Tail) (s : Sent) (mine : List Asking)
      → is_talking (state_of past) ≡ true → (g : InFlight v start Was past wire ls tail)
      → v.kept true (seen start now) (map (λ s. s.request) (unread start past wire) ++ s.request ∷ []) (messages ls) wire.server
      → state_of now ≡ state_of past → requests start past ++ s ∷ [] ≡ requests start now → held_of now ≡ held_of past
      → WaitsFor s.xid s.request mine → awaited now ≡ awaited past ++ mine → InFlight v start Was now wire ls tail
  request_more past now wire ls tail s mine talks g t state asked held waits more =
      let n = length-append (requests start past) (s ∷ []) in
      let le = g.enough in
      let enough : wire.processed ≤ length (requests start past ++ s ∷ []) = omega arith in
      let behind = ap (drop wire.processed) asked in
      record {
        enough = subst (λ l. wire.processed ≤ length l) asked enough;
        are = g.are;
        bytes = ap (λ l. l ++ wire.coming) held ∙ g.bytes;
        owed = g.owed ++ mine;
        owes = subst (λ l. Owes l (g.owed ++ mine)) (sym (unread_more wire.processed (requests start past) (s ∷ []) g.enough) ∙ behind)
            (owes_append (unread start past wire) (s ∷ []) g.owed mine g.owes (owes_one s mine waits));
        pending = more ∙ ap (λ l. l ++ mine) g.pending ∙ append_assoc (answers ls) g.owed mine;
        later = λ t. g.later talks;
        ended = tail_more tail wire.server.stage g.owed mine g.ended;
        kept = subst (λ b. v.kept b (seen start now) (map (λ s. s.request) (unread start now wire)) (messages ls) wire.server)
            (sym (ap is_talking state ∙ talks))
            (subst (λ rs. v.kept true (seen start now) rs (messages ls) wire.server)
            (asked_requests past wire s g.enough ∙ ap (map (λ s. s.request)) behind) t);
      }

  pub asked : (ticket : ℕ) (question : Call) (past : Past) (wire : Wire) → is_going past ≡ true → is_talking (state_of past) ≡ true
      → IsAskable question → Meets v start Was past wire → Meets v start Was (Asked ticket question ∷ past) wire
  asked ticket question past wire on talks may s =
      let g = s.going on in
      let sent : Sent = record { payload = call_payload (pos (xid_of past)) question; xid = pos (xid_of past); request = Ask question } in
      let waiting : Asking = For_call (xid_of past) ticket question in
      record {
        right = s.right;
        calm = s.calm;
        counted = counted_next (Asked ticket question) past (talks, s.counted) s.counted;
        going = λ e. (
          g.0,
          g.1,
          request_more past (Asked ticket question ∷ past) wire g.0 g.1 sent (waiting ∷ []) talks g.2
              (keeps.asks (seen start past) (map (λ s. s.request) (unread start past wire)) (messages g.0) wire.server question may
              (talking_of past wire g.0 g.1 talks g.2)) refl refl refl (ticket, xid_of past, refl, refl)
              (awaited_more (is_talking (state_of past)) (answered past) (questions past) waiting talks s.counted),
        );
      }

  pub pinged : (past : Past) (wire : Wire) → is_going past ≡ true → is_talking (state_of past) ≡ true → Meets v start Was past wire
      → Meets v start Was (Pinged ∷ past) wire
  pinged past wire on talks s =
      let g = s.going on in
      let sent : Sent = record { payload = ping_payload; xid = negsuc 1; request = Ping } in
      record {
        right = s.right;
        calm = s.calm;
        counted = s.counted;
        going = λ e. (
          g.0,
          g.1,
          request_more past (Pinged ∷ past) wire g.0 g.1 sent [] talks g.2
              (keeps.pings (seen start past) (map (λ s. s.request) (unread start past wire)) (messages g.0) wire.server
              (talking_of past wire g.0 g.1 talks g.2)) refl refl refl refl (sym (append-nil (awaited past))),
        );
      }

  -- ---- messages that are taken

  -- the first letter is taken
  took_by : (past now : Past) (wire : Wire) (m : Message) (xid : ℤ) (p : List ℕ) (ps : List Asking) (ls : List Letter) (tail : Tail)
      → is_talking (state_of past) ≡ true
      → (g : InFlight v start Was past wire (record { message = m; payload = p; xid = xid; asked = ps } ∷ ls) tail)
      → is_behind (seen start past) m ≡ false → ends m ≡ false
      → seen start now ≡ Took m ∷ seen start past → state_of now ≡ state_of past → requests start past ≡ requests start now
      → held_of now ≡ [] → awaited now ≡ answers ls ++ g.owed
      → wire.coming ≡ frames ls ++ tail_bytes tail → AreLater (messages ls) → IsCalm v start Was now
      → answered now ≤ length (questions now) → Meets v start Was now wire
  took_by past now wire m xid p ps ls tail talks g ahead going same state asked held pending coming later calm counted =
      let rs : List Request = map (λ s. s.request) (unread start past wire) in
      let t : v.kept true (seen start now) rs (messages ls) wire.server =
      subst (λ log. v.kept true log rs (messages ls) wire.server) (sym same)
      (keeps.takes (seen start past) rs m (messages ls) wire.server ahead going
      (talking_of past wire (record { message = m; payload = p; xid = xid; asked = ps } ∷ ls) tail talks g)) in
      record {
        right = keeps.up true (seen start now) rs (messages ls) wire.server t;
        calm = calm;
        counted = counted;
        going = λ e. (
          ls,
          tail,
          record {
            enough = subst (λ l. wire.processed ≤ length l) asked g.enough;
            are = g.are.1;
            bytes = ap (λ l. l ++ wire.coming) held ∙ coming;
            owed = g.owed;
            owes = subst (λ l. Owes (drop wire.processed l) g.owed) asked g.owes;
            pending = pending;
            later = λ t. later;
            ended = g.ended;
            kept = subst (λ b. v.kept b (seen start now) (map (λ s. s.request) (unread start now wire)) (messages ls) wire.server)
                (sym (ap is_talking state ∙ talks))
                (subst (λ l. v.kept true (seen start now) (map (λ s. s.request) (drop wire.processed l)) (messages ls) wire.server)
                asked t);
          },
        );
      }

  waits_there : (past : Past) (p : Asking) (more : List Asking) → awaited past ≡ p ∷ more → answered past < length (questions past)
  waits_there past p more e = subst (λ l. Waits (map pending_for l) past) e (waits past)

  pub took_notice : (past : Past) (wire : Wire) (n : Notice) (xid : ℤ) (p : List ℕ) (ps : List Asking) (ls : List Letter) (tail : Tail)
      → is_talking (state_of past) ≡ true
      → InFlight v start Was past wire (record { message = Notifies n; payload = p; xid = xid; asked = ps } ∷ ls) tail
      → IsCalm v start Was past → Counted past → wire.coming ≡ frames ls ++ tail_bytes tail
      → Meets v start Was (Takes_in (Tells n.event n.path) ∷ past) wire
  took_notice past wire n xid p ps ls tail talks g calm counted coming =
      took_by past (Takes_in (Tells n.event n.path) ∷ past) wire (Notifies n) xid p ps ls tail talks g refl refl refl refl refl refl
      (g.pending ∙ ap (λ l. l ++ answers ls ++ g.owed) g.are.0.is_for) coming (g.later talks) calm counted

  pub took_pong : (past : Past) (wire : Wire) (xid : ℤ) (p : List ℕ) (ps : List Asking) (ls : List Letter) (tail : Tail)
      → is_talking (state_of past) ≡ true
      → InFlight v start Was past wire (record { message = Pong; payload = p; xid = xid; asked = ps } ∷ ls) tail
      → IsCalm v start Was past → Counted past → wire.coming ≡ frames ls ++ tail_bytes tail
      → Meets v start Was (Takes_in Echo ∷ past) wire
  took_pong past wire xid p ps ls tail talks g calm counted coming =
      took_by past (Takes_in Echo ∷ past) wire Pong xid p ps ls tail talks g refl refl refl refl refl refl
      (g.pending ∙ ap (λ l. l ++ answers ls ++ g.owed) g.are.0.is_for) coming (g.later talks) calm counted

  pub took_part : (past : Past) (wire : Wire) (b : Bool) (z : ℕ) (xid : ℤ) (p : List ℕ) (ps : List Asking) (ls : List Letter) (tail : Tail)
      → is_talking (state_of past) ≡ true
      → InFlight v start Was past wire (record { message = Watches_set b z; payload = p; xid = xid; asked = ps } ∷ ls) tail
      → IsCalm v start Was past → Counted past → wire.coming ≡ frames ls ++ tail_bytes tail
      → Meets v start Was (Takes_in (Sets_watches b (pos z)) ∷ past) wire
  took_part past wire b z xid p ps ls tail talks g calm counted coming =
      let x : Asking = For_part b in
      let first : awaited past ≡ x ∷ (answers ls ++ g.owed) = g.pending ∙ ap (λ l. l ++ answers ls ++ g.owed) g.are.0.is_for.1 in
      took_by past (Takes_in (Sets_watches b (pos z)) ∷ past) wire (Watches_set b z) xid p ps ls tail talks g refl refl refl refl refl refl
      (awaited_less (is_talking (state_of past)) (answered past) (questions past) x (answers ls ++ g.owed) first)
      coming (g.later talks) calm
      (counted_next (Takes_in (Sets_watches b (pos z))) past (waits_there past x (answers ls ++ g.owed) first) counted)

  pub took_reply : (past : Past) (wire : Wire) (q : Question) (z : ℕ) (zxid : ℤ) (same : from_zero zxid ≡ z) (res : Result) (xid : ℤ)
      (p : List ℕ) (ps : List Asking) (ls : List Letter) (tail : Tail) → is_talking (state_of past) ≡ true
      → (g : InFlight v start Was past wire (record { message = Replies q z res; payload = p; xid = xid; asked = ps } ∷ ls) tail)
      → is_behind (seen start past) (Replies q z res) ≡ false
      → IsCalm v start Was past → Counted past → wire.coming ≡ frames ls ++ tail_bytes tail → (ticket : ℕ) (x : Asking)
      → awaited past ≡ x ∷ (answers ls ++ g.owed) → IsAnswered v start past ticket q zxid res
      → Meets v start Was (Takes_in (Answers_call ticket q zxid res) ∷ past) wire
  took_reply past wire Close z zxid same res xid p ps ls tail talks g ahead calm counted coming ticket x first holds =
      over_by (Takes_in (Answers_call ticket Close zxid res) ∷ past) wire
      (subst (λ n. v.right (Took (Replies Close n res) ∷ seen start past)) (sym same)
      (keeps.closes (seen start past) (map (λ s. s.request) (unread start past wire)) (Replies Close z res) (messages ls) wire.server
      ahead refl (talking_of past wire (record { message = Replies Close z res; payload = p; xid = xid; asked = ps } ∷ ls) tail talks g)))
      (holds, calm)
      (counted_next (Takes_in (Answers_call ticket Close zxid res)) past (waits_there past x (answers ls ++ g.owed) first) counted) refl
  took_reply past wire q z zxid same res xid p ps ls tail talks g ahead calm counted coming ticket x first holds =
      took_by past (Takes_in (Answers_call ticket q zxid res) ∷ past) wire (Replies q z res) xid p ps ls tail talks g ahead refl
      (ap (λ n. Took (Replies q n res) ∷ seen start past) same) refl refl refl
      (awaited_less (is_talking (state_of past)) (answered past) (questions past) x (answers ls ++ g.owed) first) coming
      (g.later talks) (holds, calm)
      (counted_next (Takes_in (Answers_call ticket q zxid res)) past (waits_there past x (answers ls ++ g.owed) first) counted)
