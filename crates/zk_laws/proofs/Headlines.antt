-- The laws of a client that is served: it is matched with a run, so what holds of the run holds of it.
use Rattle.zk_laws.proofs.Outputs.{given_answers, given_drops}
use Rattle.zk_laws.proofs.Matching.{AllAsked}
use Rattle.zk_turns.specs.Rule.{Stands, IsOpen}
use Rattle.zk_laws.specs.Laws.{IsTrueWrite}
use Rattle.zk_laws.specs.Headline.{Headline, IsTrueOf, IsCoherentWith, IsQuietAt, IsTooLongFor, tree_of}
use Rattle.zk_conversation.specs.Questions.{question_of, Question}
use Rattle.zk_conversation.specs.Calls.{Call, call_payload, ping_payload}
use Rattle.zk_nodes.specs.Path.{Text, path_of}
use Rattle.zk_nodes.specs.History.{Tree, History, IsHistory, tree_at, view as to_see}
use Rattle.zk_turns.specs.Past.{Asking, For_call, awaited, state_of, xid_of, Asked}
use Rattle.zk_turns.specs.Past.{Began, lists_of, Happening, Dropped, Past, Pinged, held_of, kept_data, kept_names, last_of}
use Rattle.zk_turns.specs.Past.{Took as Takes_in, Accepted as Accepts, Replies as Answers_call}
use Rattle.zk_watches.specs.Parts.{parts}
use Rattle.zk_watches.specs.Lists.{Lists}
use Rattle.zk_turns.specs.Turns.{Framed, Start, Item, Silent, Fault}
use Rattle.std.proofs.Common.{◌≤◌, ◌<◌, pos, ◌≡◌, ℕ, ℤ, true, List, [], ◌∷◌, ◌++◌, map, length, refl}
use Rattle.std.proofs.Common.{sym, ap, subst, ◌∙◌, inl, inr, ◌⊎◌, Some}
use Rattle.std.proofs.lemmas.List.{map-append}
use Rattle.zk_conversation.specs.Results.{Result}
use Rattle.zk_frames.specs.declared.fault.FrameFault.TheVariants.{TooLong}
use Rattle.zk_nodes.specs.declared.side.Side.TheVariants.{Data, Child}
use Rattle.zk_frames.specs.Frame.{frame, length_field}
use Rattle.zk_turns.specs.View.{View}
use Rattle.zk_turns.specs.Taken.{past_of, longest}
use Rattle.zk_turns.specs.Sent.{sends, outputs_of}
use Rattle.zk_turns.proofs.Frames_sent.{sent, part_of}
use Rattle.zk_turns.proofs.Sending.{sent_is}
use Rattle.zk_turns.specs.Meaning.{Among}
use Rattle.zk_laws.specs.Server.{Reads}
use Rattle.zk_laws.specs.Messages.{Replies, Request, from_zero}
use Rattle.zk_laws.proofs.Log.{Item as Log_item, Took, last, good, Answer, Suits}
use Rattle.zk_laws.proofs.Steps.{World, Connection, Up}
use Rattle.zk_laws.proofs.Seen.{seen, item_of}
use Rattle.zk_laws.specs.Served.{WasSent, requests, part_requests, Entry, items_in, Wire, wire_of, unread, IsServing, Served}
use Rattle.zk_laws.proofs.Basics.{Among-left, Among-right}
use Rattle.zk_laws.proofs.Whole.{kept_coherent}
use Rattle.zk_laws.proofs.More.{reads_true, agrees}
use Rattle.zk_laws.proofs.Seeing.{last_is}
use Rattle.zk_laws.proofs.Matching.{Reached, messages, IsAnsweredFor, IsDue, IsCalm, connection, by_runs, Matches}
use Rattle.zk_laws.proofs.Reaching.{reached_kept}
use Rattle.zk_laws.proofs.Resumed.{replies_above}
use Rattle.zk_laws.proofs.Moving.{schedule_here}
use Rattle.zk_laws.proofs.Answered.{node_fits, names_fit, nothing_in_flight, calm_before, call_at, due_at}

-- a tree that all good answers of a run fit
cache_true : (start : Start) (past : Past) (tree : Tree)
    → ((path : Text) (a : Answer) → good Data path (seen start past) ≡ Some a → Suits a (to_see Data tree (path_of path)))
    → ((path : Text) (a : Answer) → good Child path (seen start past) ≡ Some a → Suits a (to_see Child tree (path_of path)))
    → IsTrueOf tree (record { nodes = λ path. kept_data path past; children = λ path. kept_names path past })
cache_true start past tree f g =
    record { nodes = λ path. node_fits start past tree path (f path); children = λ path. names_fit start past tree path (g path) }

-- ---- what was taken

among_item : (ticket : ℕ) (q : Question) (z : ℤ) (r : Result) (start : Start) (past : Past)
    → Among (Takes_in (Answers_call ticket q z r)) past → Among (Took (Replies q (from_zero z) r)) (seen start past)
among_item ticket q z r start [] a = absurd a
among_item ticket q z r start (x ∷ past) (inl e) =
    Among-left (Took (Replies q (from_zero z) r)) (item_of x) (seen start past)
    (subst (λ y. Among (Took (Replies q (from_zero z) r)) (item_of y)) e (inl refl))
among_item ticket q z r start (x ∷ past) (inr a) =
    Among-right (Took (Replies q (from_zero z) r)) (item_of x) (seen start past) (among_item ticket q z r start past a)

-- ---- what was sent

part_payloads : (z : ℤ) (ps : List Lists) → map (λ s. frame s.payload) (part_requests z ps) ≡ map (part_of z) ps
part_payloads z [] = refl
part_payloads z (part ∷ []) = refl
part_payloads z (part ∷ next ∷ more) = ap (λ l. part_of z part ∷ l) (part_payloads z (next ∷ more))

-- The requests are what was sent.
pub requests_are : (start : Start) (past : Past) → map (λ s. frame s.payload) (requests start past) ≡ sent start past
requests_are start [] = refl
requests_are start (Began ∷ past) = refl
requests_are start (Takes_in (Accepts w) ∷ past) =
    map-append (λ s. frame s.payload) (requests start past) (part_requests (last_of start past) (parts (lists_of past)))
    ∙ ap (λ l. l ++ map (λ s. frame s.payload) (part_requests (last_of start past) (parts (lists_of past)))) (requests_are start past)
    ∙ ap (λ l. sent start past ++ l) (part_payloads (last_of start past) (parts (lists_of past)))
requests_are start (Asked ticket q ∷ past) = map-append (λ s. frame s.payload) (requests start past) _
    ∙ ap (λ l. l ++ frame (call_payload (pos (xid_of past)) q) ∷ []) (requests_are start past)
requests_are start (Pinged ∷ past) =
    map-append (λ s. frame s.payload) (requests start past) _ ∙ ap (λ l. l ++ frame ping_payload ∷ []) (requests_are start past)
requests_are start (Takes_in _ ∷ past) = requests_are start past
requests_are start (_ ∷ past) = requests_are start past

pub sends_are : (start : Start) (items : List Item) (view : View) → Stands start items view → IsOpen view.standing.state
    → sends (outputs_of items) ≡ map (λ s. frame s.payload) (requests start (past_of start items))
sends_are start items view s up = sent_is start items view s up ∙ sym (requests_are start (past_of start items))

-- ---- the laws

module _ (h : History) (is : IsHistory h) (start : Start) where
  served_sim : (items : List Item) → AllAsked items → (served : Served h start items)
      → Matches h start (WasSent served.entries) (past_of start items) (wire_of h served.entries)
  served_sim items asked served =
      subst (λ t. Matches h start (WasSent served.entries) (past_of start t) (wire_of h served.entries)) served.whole
      (schedule_here h is start served.entries (subst AllAsked (sym served.whole) asked) served.may)

  -- The invariant gives coherence.
  pub sim_coherent : (Was : List ℕ → Type 0) (items : List Item) (view : View) (wire : Wire)
      → Stands start items view → Matches h start Was (past_of start items) wire → IsCoherentWith h view
  sim_coherent Was items view wire s sim =
      let past : Past = past_of start items in
      let w : World = record { log = seen start past; link = sim.right.0 } in
      let k = kept_coherent h w (reached_kept h (from_zero start.last) w is sim.right.1) in
      let z : last (seen start past) ≡ from_zero view.saved.last = last_is start past ∙ ap from_zero (sym (ap (λ t. t.last) s.saved)) in
      subst (λ c. IsTrueOf (tree_at h (from_zero view.saved.last)) c) (sym s.cache)
      (subst (λ n. IsTrueOf (tree_at h n) (record { nodes = λ path. kept_data path past; children = λ path. kept_names path past })) z
      (cache_true start past (tree_at h (last (seen start past))) (λ path a e. k Data path a e) (λ path a e. k Child path a e)))

  pub coherent_client : (items : List Item) (view : View) → Stands start items view → Served h start items → IsCoherentWith h view
  coherent_client items view s served =
      sim_coherent (WasSent served.entries) items view (wire_of h served.entries) s (served_sim items s.asked served)

  reached_reads : (w : World) → Reached h (from_zero start.last) w → (q : Question) (z : ℕ) (r : Result)
      → Among (Took (Replies q z r)) w.log → Reads (tree_at h z) q r
  reached_reads w r q z res a =
      reads_true h is (from_zero start.last) r.moves r.may q z res (subst (λ v. Among (Took (Replies q z res)) v.log) (sym r.is) a)

  pub true_reads : (items : List Item) → AllAsked items → Served h start items
      → (ticket : ℕ) (q : Question) (z : ℤ) (r : Result) → Among (Takes_in (Answers_call ticket q z r)) (past_of start items)
      → Reads (tree_at h (from_zero z)) q r
  true_reads items asked served ticket q z r a =
      let sim = served_sim items asked served in
      reached_reads (record { log = seen start (past_of start items); link = sim.right.0 }) sim.right.1 q (from_zero z) r
      (among_item ticket q z r start (past_of start items) a)

  -- a reply has a zxid from 0, and is true of a write
  true_write : (log : List Log_item) (call : Call) (z : ℤ) (r : Result) → IsAnsweredFor (by_runs h (from_zero start.last)) log call z r
      → (z ≡ pos (from_zero z)) × IsTrueWrite h call (from_zero z) r
  true_write log call z r (inl a) = (a.0, a.2.1)
  true_write log call z r (inr d) = absurd d.0

  pub first_writes : (items : List Item) → AllAsked items → Served h start items
      → (since : List Happening) (ticket : ℕ) (q : Question) (z : ℤ) (r : Result) (before : Past)
      → past_of start items ≡ since ++ Takes_in (Answers_call ticket q z r) ∷ before
      → (xid : ℕ) × (call : Call) × (more : List Asking) × (awaited before ≡ For_call xid ticket call ∷ more)
      × (question_of call ≡ q) × IsTrueWrite h call (from_zero z) r
  first_writes items asked served since ticket q z r before e =
      let w = (calm_before (by_runs h (from_zero start.last)) start (WasSent served.entries) since
      (Takes_in (Answers_call ticket q z r) ∷ before)
      (subst (λ p. IsCalm (by_runs h (from_zero start.last)) start (WasSent served.entries) p) e (served_sim items asked served).calm)).0 in
      (w.0, w.1, w.2, w.3, w.4, (true_write (seen start before) w.1 z r w.5).1)

  pub above_saved : (items : List Item) → AllAsked items → Served h start items
      → (ticket : ℕ) (q : Question) (z : ℤ) (r : Result) → Among (Takes_in (Answers_call ticket q z r)) (past_of start items)
      → from_zero start.last ≤ from_zero z
  above_saved items asked served ticket q z r a =
      let sim = served_sim items asked served in
      replies_above (from_zero start.last) h is (record { log = seen start (past_of start items); link = sim.right.0 }) sim.right.1 q
      (from_zero z) r (among_item ticket q z r start (past_of start items) a)

  pub quiet_client : (entries : List Entry) (view : View) → IsServing h start entries → Stands start (items_in entries) view
      → IsQuietAt h start entries → IsTrueOf (tree_of h entries) view.cache
  quiet_client entries view may s quiet =
      let past : Past = past_of start (items_in entries) in
      let wire : Wire = wire_of h entries in
      let rs : List Request = map (λ s. s.request) (unread start past wire) in
      let sim = schedule_here h is start entries s.asked may in
      let g = sim.going quiet.going in
      let none : g.0 ≡ [] = nothing_in_flight g.0 g.1
      (sym g.2.bytes ∙ ap (λ l. held_of past ++ l) quiet.received ∙ ap (λ l. l ++ []) quiet.taken) in
      let c : Connection = connection true rs (messages g.0) wire.server in
      let reached : Reached h (from_zero start.last) (record { log = seen start past; link = Up c }) =
      subst (λ b. Reached h (from_zero start.last)
      (record { log = seen start past; link = Up (connection b rs (messages g.0) wire.server) })) quiet.talking g.2.kept in
      let a = agrees h (record { log = seen start past; link = Up c })
      (reached_kept h (from_zero start.last) (record { log = seen start past; link = Up c }) is reached) c refl refl
      (ap messages none) quiet.restored in
      subst (λ c. IsTrueOf (tree_of h entries) c) (sym s.cache)
      (cache_true start past (tree_of h entries) (λ path b e. a Data path b e) (λ path b e. a Child path b e))

  -- the reason of a drop
  due_by : (Was : List ℕ → Type 0) (fault : Fault) (past : Past) → IsDue (by_runs h (from_zero start.last)) start Was fault past
      → (fault ≡ Silent) ⊎ ((fault ≡ Framed TooLong)
      × ((payload : List ℕ) × Was payload × (longest start.limits (state_of past) < length payload)
      × (length_field (held_of past) ≡ length payload) × IsTooLongFor start.limits payload))
  due_by Was fault past (inl e) = inl e
  due_by Was fault past (inr (inl d)) = inr d
  due_by Was fault past (inr (inr d)) = absurd d.0

  pub law_before : (items : List Item) → AllAsked items → (served : Served h start items) → (since : List Happening) (fault : Fault)
      (before : Past) → past_of start items ≡ since ++ Dropped fault ∷ before → (fault ≡ Silent) ⊎ ((fault ≡ Framed TooLong)
      × ((payload : List ℕ) × WasSent served.entries payload × (longest start.limits (state_of before) < length payload)
      × (length_field (held_of before) ≡ length payload)))
  law_before items asked served since fault before e =
      let d = due_by (WasSent served.entries) fault before (calm_before (by_runs h (from_zero start.last)) start (WasSent served.entries)
      since (Dropped fault ∷ before) (subst (λ p. IsCalm (by_runs h (from_zero start.last)) start (WasSent served.entries) p) e
      (served_sim items asked served).calm)).0 in
      elim d [ inl e ↦ inl e | inr d ↦ inr (d.0, (d.1.0, d.1.1, d.1.2, d.1.3)) ]

  -- The headline.
  pub headline_here : (items : List Item) (view : View) → Stands start items view → (served : Served h start items)
      → Headline h start items view served.entries
  headline_here items view s served =
      let past : Past = past_of start items in
      let calm = (served_sim items s.asked served).calm in
      record {
        coherent = coherent_client items view s served;
        answers = λ ticket zxid result a.
            let t = given_answers ticket zxid result start items view s a in
            let w = call_at (by_runs h (from_zero start.last)) start (WasSent served.entries) past calm ticket t.0 zxid result t.1 in
            let told = true_write (seen start w.3) w.0 zxid result w.4 in (
              w.0,
              w.1,
              subst (λ q. Among (Takes_in (Answers_call ticket q zxid result)) past) (sym w.2) t.1,
              subst (λ q. Reads (tree_at h (from_zero zxid)) q result) (sym w.2)
                  (true_reads items s.asked served ticket t.0 zxid result t.1),
              told.1,
              above_saved items s.asked served ticket t.0 zxid result t.1,
              told.0,
            );
        drops = λ fault a.
            let d = due_at (by_runs h (from_zero start.last)) start (WasSent served.entries) past calm fault
            (given_drops fault start items view s a) in
            elim (due_by (WasSent served.entries) fault d.0 d.1) [ inl e ↦ inl e | inr d ↦ inr (d.0, (d.1.0, d.1.1, d.1.4)) ];
      }
