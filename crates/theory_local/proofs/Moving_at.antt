-- What servers that keep to the model at some paths do beside it, too, keeps what is between them and the client: they tell more, refuse
-- a call, or a part of setWatches; and so does each schedule, entry by entry.
use Rattle.std.proofs.Common.{◌≡◌, ℕ, ◌+◌, ℤ, pos, Bool, List, [], ◌∷◌, ◌++◌, map, refl, sym, ap, subst, ◌∙◌, append_assoc, inl, inr}
use Rattle.std.specs.Prelude.{◌≢◌}
use Rattle.std.specs.List.{flat_map, AllByRecursion}
use Rattle.std.proofs.lemmas.List.{append-nil}
use Rattle.zk_nodes.specs.Path.{Text}
use Rattle.zk_nodes.specs.History.{History, IsHistory}
use Rattle.zk_conversation.specs.Calls.{Call}
use Rattle.zk_conversation.specs.Questions.{question_of}
use Rattle.zk_conversation.specs.Results.{Refused}
use Rattle.zk_frames.specs.Frame.{frame}
use Rattle.zk_turns.specs.Turns.{IsAsked, Start, Turned, Forgets as Forgets_now, Halts as Halts_here}
use Rattle.zk_turns.specs.Past.{Past, is_talking, state_of, held_of}
use Rattle.zk_turns.specs.Taken.{past_of}
use Rattle.zk_laws.specs.Server.{Notice}
use Rattle.zk_laws.specs.Messages.{Message, Replies, Notifies, Request, Restore, Ask, from_zero}
use Rattle.zk_laws.specs.ServerSteps.{Stage, Serving, Ended}
use Rattle.zk_laws.specs.Served.{unread, Wire, first_xid}
use Rattle.zk_laws.proofs.Seen.{seen}
use Rattle.zk_laws.proofs.Between.{IsInvariant}
use Rattle.zk_laws.proofs.Matching.{AllAsked, Letter, frames, messages, WaitsFor, Owes, Nothing_more, Failure, IsKeptFor, InFlight, Meets}
use Rattle.zk_laws.proofs.Taking.{forgot, halted}
use Rattle.zk_laws.proofs.Meeting.{first_here, turned_here, later_notices}
use Rattle.zk_laws.proofs.Serving.{next_sent, notices_mine, notices_for, letters_for, Flows, serve_going, serve_next, sends_on, served_here}
use Rattle.zk_laws.proofs.Moving.{all_among}
use Rattle.theory_local.specs.LocalServed.{LocalEntry, Goes, Steps, Tells, Denies, Fails, items_at, wire_at, WasSentAt, MayFail, MayDeny}
use Rattle.theory_local.specs.LocalServed.{MayTell, MayEnterAt, IsServingAt}
use Rattle.theory_local.proofs.Kept_at.{IsKeptAt, kept_tells}
use Rattle.theory_local.proofs.Local_at.{local, local_keeps, kept_denies, kept_fails}

module _ (P : Text → Type 0) (h : History) (is : IsHistory h) (start : Start) (Was : List ℕ → Type 0) where
  -- Notices about other paths.
  tell_by : (sent : List Notice) (payloads : List (List ℕ)) (past : Past) (wire : Wire) (letters : List Letter)
      → (g : InFlight (local P h) start Was past wire letters Nothing_more)
      → AllByRecursion Was payloads → MayTell sent payloads past wire
      → Flows (local P h) start Was past (record wire { coming = wire.coming ++ flat_map frame payloads })
  tell_by sent payloads past wire letters g was may =
      let rs : List Request = map (λ s. s.request) (unread start past wire) in
      let at : (stage : Stage) → wire.server.stage ≡ stage → stage ≡ Serving
      → IsKeptFor (local P h) start Was past wire.server rs (messages letters ++ map Notifies sent) =
      (λ stage e f. subst (λ st. IsKeptAt P h (is_talking (state_of past)) (seen start past) rs
      (messages letters ++ map Notifies sent) wire.server.place wire.server.watches st) (sym (e ∙ f))
      (kept_tells P h (is_talking (state_of past)) (seen start past) rs (messages letters) wire.server.place wire.server.watches sent
      (subst (λ st. IsKeptAt P h (is_talking (state_of past)) (seen start past) rs
      (messages letters) wire.server.place wire.server.watches st) (e ∙ f) g.kept))) in
      serve_going (local P h) start Was past wire (record wire { coming = wire.coming ++ flat_map frame payloads })
      letters [] g.owed
      (map Notifies sent) payloads g
      (letters_for (local P h) start Was (pos 0) [] (map Notifies sent) payloads was may.told
      (notices_for (local P h) start Was (pos 0) [] sent)) refl g.enough g.owes
      (ap (λ l. l ++ g.owed) (sym (notices_mine [] sent))) (λ t. later_notices sent) (at wire.server.stage refl may.serving)

  -- A call is refused, with the zxid 0 or one below.
  deny_by : (q : Call) (payload : List ℕ) (past : Past) (wire : Wire) (letters : List Letter)
      → (g : InFlight (local P h) start Was past wire letters Nothing_more) → Was payload → (may : MayDeny start q payload past wire)
      → Flows (local P h) start Was past (record wire { processed = wire.processed + 1; coming = wire.coming ++ frame payload })
  deny_by q payload past wire letters g was may =
      let d = may.error in
      let m : Message = Replies (question_of q) 0 (Refused d.1) in
      let xid : ℤ = first_xid (unread start past wire) in
      serve_next (local P h) start Was past wire
      (record wire { processed = wire.processed + 1; coming = wire.coming ++ frame payload }) letters (Ask q)
      (m ∷ []) (payload ∷ []) g may.next
      (λ mine w. (
        (
          record { message = m; payload = payload; xid = xid; asked = mine } ∷ [],
          record {
            told = refl;
            are = (
              record {
                was_sent = was;
                short = may.short;
                spelt = inr (tt, refl, d.0, d.2, d.3, d.4, d.5);
                is_for = (w.0, w.1, q, w.2, refl, w.3, inr (refl, d.4));
              },
              tt,
            );
            bytes = refl;
            ask = refl;
          },
        ),
        append-nil mine,
      ))
      refl (ap (λ l. wire.coming ++ l) (sym (append-nil (frame payload)))) (λ t. tt)
      (kept_denies P h is (seen start past) (map (λ s. s.request) (unread start past wire)) (messages letters) wire.server.place
      wire.server.watches wire.server.stage (is_talking (state_of past)) q d.1 d.4 may.serving may.next g.kept)

  -- A part is refused.
  fail_by : (payload rest : List ℕ) (past : Past) (wire : Wire) (letters : List Letter)
      → (g : InFlight (local P h) start Was past wire letters Nothing_more) → Was payload → (may : MayFail start payload past wire)
      → Flows (local P h) start Was past
      (record wire { server = record (wire.server) { stage = Ended }; coming = wire.coming ++ frame payload ++ rest })
  fail_by payload rest past wire letters g was may =
      let rs : List Request = map (λ s. s.request) (unread start past wire) in
      let b : Bool = may.next.0 in
      let r : Request = Restore b may.next.1 may.next.2 in
      let n = next_sent r (unread start past wire) may.next.3 in
      let o : Owes (n.0 ∷ n.1) g.owed = subst (λ l. Owes l g.owed) n.2 g.owes in
      let w : WaitsFor n.0.xid r o.0 = subst (λ t. WaitsFor n.0.xid t o.0) (sym n.3) o.2 in (
        letters,
        Failure payload rest,
        record {
          enough = g.enough;
          are = g.are;
          bytes = sym (append_assoc (held_of past) (wire.coming ++ frame payload) rest)
              ∙ ap (λ l. l ++ rest) (sym (append_assoc (held_of past) wire.coming (frame payload))
              ∙ ap (λ l. l ++ frame payload) (g.bytes ∙ append-nil (frames letters)))
              ∙ append_assoc (frames letters) (frame payload) rest;
          owed = g.owed;
          owes = g.owes;
          pending = g.pending;
          later = g.later;
          ended = (
            was,
            may.short,
            record {
              zxid = may.error.0;
              code = may.error.1;
              behind = may.error.2;
              other = may.error.3;
              headed = may.error.4;
            },
            refl,
            b,
            o.1,
            o.3 ∙ ap (λ l. l ++ o.1) w.1,
            tt,
          );
          kept = kept_fails P h is (seen start past) rs (messages letters) wire.server.place wire.server.watches wire.server.stage
              (is_talking (state_of past)) r may.serving may.next.3 g.kept;
        },
      )

-- ---- schedules

-- what an entry sends was sent
abbrev Sends : (List ℕ → Type 0) → LocalEntry → Type 0
Sends Was (Goes place item) = Unit {0}
Sends Was (Steps step payloads) = AllByRecursion Was payloads
Sends Was (Tells sent payloads) = AllByRecursion Was payloads
Sends Was (Denies call payload) = Was payload
Sends Was (Fails payload rest) = Was payload

-- what a caller asks at an entry is about paths
abbrev Asks_paths : LocalEntry → Type 0
Asks_paths (Goes place (Turned turn)) = IsAsked turn.input
Asks_paths _ = Unit {0}

entry_sends : (Was : List ℕ → Type 0) (entry : LocalEntry) (earlier : List LocalEntry)
    → ((p : List ℕ) → WasSentAt (entry ∷ earlier) p → Was p) → Sends Was entry
entry_sends Was (Goes place item) earlier all = tt
entry_sends Was (Steps step payloads) earlier all = all_among Was payloads (λ p a. all p (inl a))
entry_sends Was (Tells sent payloads) earlier all = all_among Was payloads (λ p a. all p (inl a))
entry_sends Was (Denies call payload) earlier all = all payload (inl refl)
entry_sends Was (Fails payload rest) earlier all = all payload (inl refl)

still_sent : (entry : LocalEntry) (earlier : List LocalEntry) (p : List ℕ) → WasSentAt earlier p → WasSentAt (entry ∷ earlier) p
still_sent (Goes place item) earlier p w = w
still_sent (Steps step payloads) earlier p w = inr w
still_sent (Tells sent payloads) earlier p w = inr w
still_sent (Denies call payload) earlier p w = inr w
still_sent (Fails payload rest) earlier p w = inr w

asked_now : (entry : LocalEntry) (earlier : List LocalEntry) → AllAsked (items_at (entry ∷ earlier)) → Asks_paths entry
asked_now (Goes place (Turned turn)) earlier a = a.0
asked_now (Goes place Forgets_now) earlier a = tt
asked_now (Goes place Halts_here) earlier a = tt
asked_now (Steps step payloads) earlier a = tt
asked_now (Tells sent payloads) earlier a = tt
asked_now (Denies call payload) earlier a = tt
asked_now (Fails payload rest) earlier a = tt

asked_before : (entry : LocalEntry) (earlier : List LocalEntry) → AllAsked (items_at (entry ∷ earlier)) → AllAsked (items_at earlier)
asked_before (Goes place (Turned turn)) earlier a = a.1
asked_before (Goes place Forgets_now) earlier a = a
asked_before (Goes place Halts_here) earlier a = a
asked_before (Steps step payloads) earlier a = a
asked_before (Tells sent payloads) earlier a = a
asked_before (Denies call payload) earlier a = a
asked_before (Fails payload rest) earlier a = a

module _ (P : Text → Type 0) (h : History) (is : IsHistory h) (start : Start) (Was : List ℕ → Type 0) where
  keeps : IsInvariant h (from_zero start.last) (local P h)
  keeps = local_keeps P h is (from_zero start.last)

  stage_is : (wire : Wire) → wire.server.stage ≡ Serving → wire.server.stage ≢ Ended
  stage_is wire e f = let g = sym e ∙ f in cc

  entered : (entry : LocalEntry) (earlier : List LocalEntry)
      → Sends Was entry → Asks_paths entry → MayEnterAt P h start entry (past_of start (items_at earlier)) (wire_at h earlier)
      → Meets (local P h) start Was (past_of start (items_at earlier)) (wire_at h earlier)
      → Meets (local P h) start Was (past_of start (items_at (entry ∷ earlier))) (wire_at h (entry ∷ earlier))
  entered (Goes place (Turned turn)) earlier was ask may s =
      turned_here h start (local P h) keeps Was place turn (past_of start (items_at earlier)) (wire_at h earlier) ask may s
  entered (Goes place Forgets_now) earlier was ask may s =
      forgot h start (local P h) keeps Was (past_of start (items_at earlier)) (wire_at h earlier) s
  entered (Goes place Halts_here) earlier was ask may s =
      halted h start (local P h) keeps Was (past_of start (items_at earlier)) (wire_at h earlier) s
  entered (Steps step payloads) earlier was ask may s =
      served_here h start (local P h) keeps Was step payloads (past_of start (items_at earlier)) (wire_at h earlier) may.going was may.may
      may.told s
  entered (Tells sent payloads) earlier was ask may s =
      sends_on h start (local P h) keeps Was (past_of start (items_at earlier)) (wire_at h earlier)
      (wire_at h (Tells sent payloads ∷ earlier)) may.going (stage_is (wire_at h earlier) may.serving)
      (λ letters g. tell_by P h is start Was sent payloads (past_of start (items_at earlier)) (wire_at h earlier) letters g was may) s
  entered (Denies call payload) earlier was ask may s =
      sends_on h start (local P h) keeps Was (past_of start (items_at earlier)) (wire_at h earlier)
      (wire_at h (Denies call payload ∷ earlier)) may.going (stage_is (wire_at h earlier) may.serving)
      (λ letters g. deny_by P h is start Was call payload (past_of start (items_at earlier)) (wire_at h earlier) letters g was may) s
  entered (Fails payload rest) earlier was ask may s =
      sends_on h start (local P h) keeps Was (past_of start (items_at earlier)) (wire_at h earlier)
      (wire_at h (Fails payload rest ∷ earlier)) may.going (stage_is (wire_at h earlier) may.serving)
      (λ letters g. fail_by P h is start Was payload rest (past_of start (items_at earlier)) (wire_at h earlier) letters g was may) s

  -- A schedule keeps the invariant.
  pub schedule_at : (entries : List LocalEntry) → ((p : List ℕ) → WasSentAt entries p → Was p) → AllAsked (items_at entries)
      → IsServingAt P h start entries → Meets (local P h) start Was (past_of start (items_at entries)) (wire_at h entries)
  schedule_at [] all ask may = first_here h start (local P h) keeps Was
  schedule_at (entry ∷ earlier) all ask may =
      entered entry earlier (entry_sends Was entry earlier all) (asked_now entry earlier ask) may.0
      (schedule_at earlier (λ p w. all p (still_sent entry earlier p w)) (asked_before entry earlier ask) may.1)
