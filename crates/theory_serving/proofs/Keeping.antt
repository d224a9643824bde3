-- Each entry of a schedule keeps the relation to what is shown: entry by entry, the client's items first and then the moves of the server.
use Rattle.std.proofs.Common.{ℕ, zero, suc, ℤ, pos, ◌≡◌, ◌≤◌, ◌<◌, ◌+◌, true, List, [], ◌∷◌, ◌++◌, map, drop, length, refl, ap, sym, ◌∙◌}
use Rattle.std.proofs.Common.{subst, arith}
use Rattle.std.specs.List.{AllByRecursion}
use Rattle.std.proofs.lemmas.List.{length-append, drop-append-le, append_cancel_left}
use Rattle.std.proofs.Math.Seq.{drop-append_seam}
use Rattle.zk_frames.specs.Frame.{frame}
use Rattle.zk_nodes.specs.History.{History}
use Rattle.zk_conversation.specs.Calls.{Call}
use Rattle.zk_turns.specs.Turns.{Start, Output, Item, Turned, Forgets, Halts, Bytes, Cut, Now, Call as Calling, Opened as Opening, Opens}
use Rattle.zk_turns.specs.Turns.{Comes, Ticks, Calls, signals}
use Rattle.zk_turns.specs.Past.{Past}
use Rattle.zk_turns.specs.Taken.{past_of, past_after}
use Rattle.zk_turns.specs.Rule.{due_signals}
use Rattle.zk_laws.specs.Messages.{Request}
use Rattle.theory_serving.specs.GoingOn.{GoesOn}
use Rattle.theory_serving.proofs.GoingOn.{goes_serving, goes_wire}
use Rattle.zk_laws.specs.Served.{Sent, Entry, Goes_on, items_in, Wire, wire_past, new_wire, wire_of, is_going, unread, requests, MayEnter}
use Rattle.zk_laws.specs.Served.{IsServing}
use Rattle.theory_serving.specs.Steps.{Step, Moves, ended_by, sent_by, processed_by}
use Rattle.theory_serving.specs.inner.Steps.{behind}
use Rattle.theory_serving.specs.Shown.{Shown, Apart, Open, Over, connected, with_output, more_requests, sent_in, Hears, GoesBy, Takes}
use Rattle.theory_serving.specs.Shown.{Processes}
use Rattle.theory_serving.specs.Wires.{IsWire, Shows}
use Rattle.theory_serving.proofs.Stepping.{Waits, processed_low, items_behind, server_behind, processed_behind, coming_behind}
use Rattle.theory_serving.proofs.Stepping.{serving_behind, drop_twice}
use Rattle.theory_serving.proofs.Turning.{framed, framed_more, Adds, KeepsOn, signals_on, Begins, opens_on, cut_over, halted_over, NotOpens}
use Rattle.theory_serving.proofs.Turning.{comes_all}

-- over a history that is the one shown
shows_from : (h : History) (start : Start) (entries : List Entry) (shown : Shown) → shown.history ≡ h → IsServing h start entries
    → (is_going (past_of start (items_in entries)) ≡ true → IsWire start (past_of start (items_in entries)) (wire_of h entries) shown)
    → Shows start entries shown
shows_from h start entries shown e s l = record {
  serving = subst (λ x. IsServing x start entries) (sym e) s;
  wire = λ g. subst (λ x. IsWire start (past_of start (items_in entries)) (wire_of x entries) shown) (sym e) (l g);
}

-- ---- items of the client

-- What a connected server hears of outputs that keep the connection on.
wire_kept : (start : Start) (before after : Past) (outputs : List Output) (wire : Wire) (old new : Shown)
    → KeepsOn start before after outputs → (is_going before ≡ true → IsWire start before wire old) → Hears outputs old new
    → is_going after ≡ true → IsWire start after wire new
wire_kept start before after outputs wire old new k was hears going =
    let a : Adds start before after outputs = k going in
    let l : IsWire start before wire old = was a.going in
    let held = l.processed in
    let grown : length (requests start after) ≡ length (requests start before) + length a.more =
    ap length a.whole ∙ length-append (requests start before) a.more in
    subst (λ s. IsWire start after wire s) (sym (hears.gets a.nothing)) (record {
      there = l.there;
      coming = l.coming;
      server = l.server;
      waiting = λ up.
          ap (λ p. more_requests p old.requests (sent_in outputs)) up
          ∙ ap (λ t. t ++ sent_in outputs) (l.waiting up)
          ∙ ap (λ t. framed (drop wire.processed (requests start before)) ++ t) a.sent
          ∙ sym (framed_more (drop wire.processed (requests start before)) a.more)
          ∙ ap framed (sym (drop-append-le wire.processed (requests start before) a.more l.processed))
          ∙ ap (λ t. framed (drop wire.processed t)) (sym a.whole);
      processed = omega (arith, held, grown);
    })

-- bytes are received
pub bytes_shown : (start : Start) (entries : List Entry) (place : ℕ) (bytes rest : List ℕ) (outputs : List Output) (old new : Shown)
    → Shows start entries old → old.output ≡ bytes ++ rest
    → outputs ≡ due_signals start (past_of start (items_in entries)) (map Comes bytes) → Hears outputs (with_output rest old) new
    → Shows start (Goes_on place (Turned (record { input = Bytes bytes; outputs = outputs })) ∷ entries) new
bytes_shown start entries place bytes rest outputs old new s e said hears =
    let past : Past = past_of start (items_in entries) in
    let wire : Wire = wire_of old.history entries in
    let after : Past = past_after start past (map Comes bytes) in
    shows_from old.history start (Goes_on place (Turned (record { input = Bytes bytes; outputs = outputs })) ∷ entries) new hears.history
    ((λ g. (rest, (s.wire g).coming ∙ e)), s.serving)
    (wire_kept start past after outputs (record wire { coming = drop (length bytes) wire.coming }) (with_output rest old) new
    (subst (λ t. KeepsOn start past after t) (sym said) (signals_on start (map Comes bytes) past (comes_all bytes)))
    (λ g. record {
      there = (s.wire g).there;
      coming = ap (drop (length bytes)) ((s.wire g).coming ∙ e) ∙ drop-append_seam bytes rest;
      server = (s.wire g).server;
      waiting = (s.wire g).waiting;
      processed = (s.wire g).processed;
    }) hears)

-- an item that leaves the wire as it is
item_shown : (start : Start) (entries : List Entry) (place : ℕ) (item : Item) (outputs : List Output) (old new : Shown)
    → Shows start entries old
    → MayEnter old.history start (Goes_on place item) (past_of start (items_in entries)) (wire_of old.history entries)
    → ((wire : Wire) → wire_past place item wire ≡ wire) → AllByRecursion NotOpens (signals item)
    → outputs ≡ due_signals start (past_of start (items_in entries)) (signals item) → Hears outputs old new
    → Shows start (Goes_on place item ∷ entries) new
item_shown start entries place item outputs old new s may same quiet said hears =
    let past : Past = past_of start (items_in entries) in
    let wire : Wire = wire_of old.history entries in
    let after : Past = past_after start past (signals item) in
    shows_from old.history start (Goes_on place item ∷ entries) new hears.history (may, s.serving)
    (λ g. subst (λ l. IsWire start after l new) (sym (same wire))
    (wire_kept start past after outputs wire old new
    (subst (λ t. KeepsOn start past after t) (sym said) (signals_on start (signals item) past quiet)) s.wire hears g))

-- a moment is told
pub moment_shown : (start : Start) (entries : List Entry) (place moment : ℕ) (outputs : List Output) (old new : Shown)
    → Shows start entries old
    → outputs ≡ due_signals start (past_of start (items_in entries)) (Ticks moment ∷ []) → Hears outputs old new
    → Shows start (Goes_on place (Turned (record { input = Now moment; outputs = outputs })) ∷ entries) new
moment_shown start entries place moment outputs old new s said hears = item_shown start entries place
    (Turned (record { input = Now moment; outputs = outputs })) outputs old new s tt (λ wire. refl) (tt, tt) said hears

-- a caller asks
pub call_shown : (start : Start) (entries : List Entry) (place ticket : ℕ) (call : Call) (outputs : List Output) (old new : Shown)
    → Shows start entries old
    → outputs ≡ due_signals start (past_of start (items_in entries)) (Calls ticket call ∷ []) → Hears outputs old new
    → Shows start (Goes_on place (Turned (record { input = Calling ticket call; outputs = outputs })) ∷ entries) new
call_shown start entries place ticket call outputs old new s said hears = item_shown start entries place
    (Turned (record { input = Calling ticket call; outputs = outputs })) outputs old new s tt (λ wire. refl) (tt, tt) said hears

-- stale answers are forgotten
pub forget_shown : (start : Start) (entries : List Entry) (place : ℕ) (shown : Shown)
    → Shows start entries shown → Shows start (Goes_on place Forgets ∷ entries) shown
forget_shown start entries place shown s = record {
  serving = (tt, s.serving);
  wire = λ g. record {
    there = (s.wire g).there;
    coming = (s.wire g).coming;
    server = (s.wire g).server;
    waiting = (s.wire g).waiting;
    processed = (s.wire g).processed;
  };
}

-- Where the client has no connection then, nothing is shown of one.
over_shown : (start : Start) (entries : List Entry) (place : ℕ) (item : Item) (old new : Shown)
    → Shows start entries old → new.history ≡ old.history
    → MayEnter old.history start (Goes_on place item) (past_of start (items_in entries)) (wire_of old.history entries)
    → (is_going (past_after start (past_of start (items_in entries)) (signals item)) ≡ true → ⊥)
    → Shows start (Goes_on place item ∷ entries) new
over_shown start entries place item old new s same may over =
    shows_from old.history start (Goes_on place item ∷ entries) new same (may, s.serving) (λ g. absurd (over g))

-- the connection is cut
pub cut_shown : (start : Start) (entries : List Entry) (place : ℕ) (outputs : List Output) (old new : Shown)
    → Shows start entries old → new.history ≡ old.history
    → Shows start (Goes_on place (Turned (record { input = Cut; outputs = outputs })) ∷ entries) new
cut_shown start entries place outputs old new s same =
    over_shown start entries place (Turned (record { input = Cut; outputs = outputs })) old new s same tt
    (cut_over start (past_of start (items_in entries)))

-- the client halts
pub halt_shown : (start : Start) (entries : List Entry) (place : ℕ) (old new : Shown)
    → Shows start entries old → new.history ≡ old.history → Shows start (Goes_on place Halts ∷ entries) new
halt_shown start entries place old new s same =
    over_shown start entries place Halts old new s same tt (halted_over start (past_of start (items_in entries)))

-- a connection begins
pub opened_shown : (start : Start) (entries : List Entry) (place : ℕ) (outputs : List Output) (old new : Shown)
    → Shows start entries old → place ≤ length old.history.transactions
    → outputs ≡ due_signals start (past_of start (items_in entries)) (Opens ∷ []) → Hears outputs (connected place old) new
    → Shows start (Goes_on place (Turned (record { input = Opening; outputs = outputs })) ∷ entries) new
opened_shown start entries place outputs old new s low said hears =
    let past : Past = past_of start (items_in entries) in
    let after : Past = past_after start past (Opens ∷ []) in
    shows_from old.history start
    (Goes_on place (Turned (record { input = Opening; outputs = outputs })) ∷ entries) new hears.history (low, s.serving)
    (λ g.
    let b : Begins start after outputs = subst (λ t. Begins start after t) (sym said) (opens_on start past g) in
    subst (λ x. IsWire start after (new_wire place) x) (sym (hears.gets b.nothing)) (record {
      there = λ e. absurd cc;
      coming = refl;
      server = λ up. refl;
      waiting = λ up. b.sent;
      processed = omega arith;
    }))

-- ---- moves of the server

first_there : (n : ℕ) (sent : List Sent) (first : Sent) (more : List Sent) → drop n sent ≡ first ∷ more → n < length sent
first_there zero [] first more e = absurd cc
first_there zero (one ∷ sent) first more e = omega arith
first_there (suc n) [] first more e = absurd cc
first_there (suc n) (one ∷ sent) first more e = let r = first_there n sent first more e in omega (arith, r)

room : (xid : ℤ) (asked : List Request) (sent : List Sent) (n m : ℕ) → Waits xid asked (drop n sent)
    → m ≤ length asked → n ≤ length sent → n + m ≤ length sent
room xid [] sent n m w few low = omega (arith, few, low)
room xid (request ∷ []) sent n m w few low = by (drop n sent) refl w
  where
    by : (rest : List Sent) → drop n sent ≡ rest → Waits xid (request ∷ []) rest → n + m ≤ length sent
    by [] e v = absurd v
    by (first ∷ more) e v = let l = first_there n sent first more e in omega (arith, few, l)
room xid (one ∷ two ∷ rest) sent n m w few low = absurd w

moves_shown : (start : Start) (entries : List Entry) (xid : ℤ) (asked : List Request) (steps : List Step) (old new : Shown)
    → Shows start entries old → is_going (past_of start (items_in entries)) ≡ true → old.phase ≡ Open
    → Waits xid asked (unread start (past_of start (items_in entries)) (wire_of old.history entries)) → GoesBy xid asked steps old new
    → (new.phase ≡ Open → new.requests
    ≡ framed (drop ((wire_of old.history entries).processed + processed_by steps) (requests start (past_of start (items_in entries)))))
    → Shows start (behind steps entries) new
moves_shown start entries xid asked steps old new s going was w goes rest =
    let h : History = new.history in
    let past : Past = past_of start (items_in entries) in
    let wire : Wire = wire_of old.history entries in
    let l : IsWire start past wire old = s.wire going in
    let same : wire_of h entries ≡ wire = goes_wire old.history h start entries goes.history s.serving in
    let here : (wire_of h entries).server ≡ old.server = ap (λ x. x.server) same ∙ l.server was in
    let count : (wire_of h (behind steps entries)).processed ≡ wire.processed + processed_by steps =
    processed_behind h steps entries ∙ ap (λ x. x.processed + processed_by steps) same in
    let few : processed_by steps ≤ length asked = processed_low h xid asked steps old.server goes.moves in
    let fits : wire.processed + processed_by steps ≤ length (requests start past) =
    room xid asked (requests start past) wire.processed (processed_by steps) w few l.processed in
    record {
      serving = serving_behind h start xid asked steps entries going (subst (λ x. Waits xid asked (unread start past x)) (sym same) w)
          (subst (λ x. Moves h xid asked steps x) (sym here) goes.moves)
          (goes_serving old.history h start entries goes.history s.serving);
      wire = subst (λ items. is_going (past_of start items) ≡ true
          → IsWire start (past_of start items) (wire_of h (behind steps entries)) new) (sym (items_behind steps entries)) (λ g. record {
            there = goes.there;
            coming = coming_behind h steps entries ∙ ap (λ t. t ++ sent_by steps) (ap (λ x. x.coming) same ∙ l.coming) ∙ sym goes.sent;
            server = λ up. server_behind h steps entries ∙ ap (ended_by h steps) here ∙ sym (goes.ended up);
            waiting = λ up. rest up ∙ ap (λ n. framed (drop n (requests start past))) (sym count);
            processed = subst (λ n. n ≤ length (requests start past)) (sym count) fits;
          });
    }

-- a server takes transactions
pub takes_shown : (start : Start) (entries : List Entry) (steps : List Step) (old new : Shown)
    → Shows start entries old → is_going (past_of start (items_in entries)) ≡ true → old.phase ≡ Open → Takes steps old new
    → Shows start (behind steps entries) new
takes_shown start entries steps old new s going was t =
    let past : Past = past_of start (items_in entries) in
    let wire : Wire = wire_of old.history entries in
    let few : processed_by steps ≤ 0 = processed_low new.history (pos 0) [] steps old.server t.goes.moves in
    let none : wire.processed ≡ wire.processed + processed_by steps = omega (arith, few) in
    moves_shown start entries (pos 0) [] steps old new s going was tt t.goes
    (λ up. t.requests up ∙ (s.wire going).waiting was ∙ ap (λ n. framed (drop n (requests start past))) none)

-- a server processes the first request that waits
pub processes_shown : (start : Start) (entries : List Entry) (first : Sent) (more : List Sent) (steps : List Step) (old new : Shown)
    → Shows start entries old → is_going (past_of start (items_in entries)) ≡ true → old.phase ≡ Open
    → unread start (past_of start (items_in entries)) (wire_of old.history entries) ≡ first ∷ more
    → Processes first.request first.xid first.payload steps old new → Shows start (behind steps entries) new
processes_shown start entries first more steps old new s going was e p =
    let past : Past = past_of start (items_in entries) in
    let wire : Wire = wire_of old.history entries in
    moves_shown start entries first.xid (first.request ∷ []) steps old new s going was
    (subst (λ xs. Waits first.xid (first.request ∷ []) xs) (sym e) (refl, refl)) p.goes
    (λ up.
    append_cancel_left (frame first.payload) new.requests (framed more) (sym (p.requests up) ∙ (s.wire going).waiting was ∙ ap framed e)
    ∙ ap framed (ap (drop 1) (sym e) ∙ drop_twice wire.processed 1 (requests start past))
    ∙ ap (λ n. framed (drop (wire.processed + n) (requests start past))) (sym (p.done up)))

-- Nothing is shown of a connection that the server has ended, but what it sent, and of none nothing.
pub rests_shown : (start : Start) (entries : List Entry) (old new : Shown) → Shows start entries old → GoesOn old.history new.history
    → (is_going (past_of start (items_in entries)) ≡ true → (new.phase ≡ Over) × (new.output ≡ old.output)) → Shows start entries new
rests_shown start entries old new s g rests = record {
  serving = goes_serving old.history new.history start entries g s.serving;
  wire = λ going.
      let past : Past = past_of start (items_in entries) in
      let l : IsWire start past (wire_of old.history entries) old = s.wire going in
      let r = rests going in
      subst (λ x. IsWire start past x new) (sym (goes_wire old.history new.history start entries g s.serving)) (record {
        there = λ e. absurd (let f : Over ≡ Apart = sym r.0 ∙ e in cc);
        coming = l.coming ∙ sym r.1;
        server = λ e. absurd (let f : Over ≡ Open = sym r.0 ∙ e in cc);
        waiting = λ e. absurd (let f : Over ≡ Open = sym r.0 ∙ e in cc);
        processed = l.processed;
      });
}
