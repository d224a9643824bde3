-- Each line of a rehearsal keeps its client, once there is one, served by servers of the laws: line by line, each an item of the client,
-- some moves of the servers, another client, or none of these.
use Rattle.std.proofs.Common.{◌≡◌, ◌≢◌, ◌<◌, ◌-◌, ◌+◌, eqb, ℕ, ℤ, pos, negsuc, Bool, true, false, List, [], ◌∷◌, ◌++◌, take, drop, refl}
use Rattle.std.proofs.Common.{sym, ap, ap₂, subst, ◌∙◌, arith}
use Rattle.std.proofs.lemmas.Bool.{eqb-true, eqb-false}
use Rattle.std.proofs.lemmas.List.{take-append-drop, get_or-set_other}
use Rattle.std.proofs.lemmas.Int.{ints}
use Rattle.std.specs.Prelude.{◌<ℤ◌, unsigned_abs, slice_index, slice_get, Option, Some, None}
use Rattle.zk_nodes.specs.Path.{Text}
use Rattle.zk_nodes.specs.History.{Transaction, after}
use Rattle.zk_history.specs.HistoryView.{HistoryView, history_of, root_tree}
use Rattle.zk_nodes.specs.declared.side.Side.TheVariants.{Data, Child}
use Rattle.zk_turns.specs.Turns.{Input, Opened, Bytes, Cut, Now, Call, Start, Forgets, new_start}
use Rattle.zk_turns.specs.View.{View, view_at}
use Rattle.zk_turns.specs.Rule.{Stands, forgotten}
use Rattle.zk_turns.specs.Ranges.{IsResumable}
use Rattle.zk_laws.specs.Server.{Watches}
use Rattle.zk_laws.specs.ServerSteps.{Waiting}
use Rattle.theory_serving.specs.GoingOn.{GoesOn}
use Rattle.theory_serving.specs.Shown as shows
use Rattle.theory_serving.specs.Shown.{Shown, Hears}
use Rattle.theory_serving.specs.Wires.{WasServed, is_up}
use Rattle.theory_serving.proofs.Later.{taken_at, taken_none}
use Rattle.theory_serving.proofs.Views.{first_session, opened_session, received_session, cut_session, told_session, asked_session}
use Rattle.theory_serving.proofs.Views.{forget_session, there_session, takes_session, rests_session, answers_session}
use Rattle.zk_bench.specs.declared.phase.Phase.{Phase}
use Rattle.zk_bench.specs.declared.phase.Phase.TheVariants.{Apart, Opening, Accepted, Ended}
use Rattle.zk_bench.specs.Front.{IsShort}
use Rattle.zk_bench.specs.Served.{Served, Linked, started, is_open, connected, disconnected, advanced_by, without_output, Continues}
use Rattle.zk_bench.specs.Stepping.{IsReady, phase_of, stage_of, shown_of, shown_watches}
use Rattle.zk_bench.proofs.Stepped.{ready_disconnected, same_history}
use Rattle.script_words.specs.Said.{DoesSome}
use Rattle.script_replay.proofs.CourseLemmas.{first, forgets}
use Rattle.script_replay.specs.CallLines.{Asked}
use Rattle.script_replay.specs.ClientLines.{ClientValue, CutLine, NowLine, CallLine, PeekLine, LastLine, ForgetLine, SavedLine}
use Rattle.script_rehearse.specs.BenchLines.{BenchValue, OpenLine, TakeLine, ProcessLine, DeliverLine, ExpireLine, GoodLine, RejoinLine}
use Rattle.script_rehearse.specs.BenchLines.{ClientValueLine}
use Rattle.script_rehearse.specs.Heard.{heard_all}
use Rattle.script_rehearse.specs.Scenes.{Scene, first_scene, with_bench, Plays, Opens, TakesNext, Processes, Come, Delivers, Calls, Rejoins}
use Rattle.script_rehearse.specs.Scenes.{taken_up, DoesClientLine, DoesBench}
use Rattle.script_rehearse.specs.inner.Coherent.{IsServed}
use Rattle.script_rehearse.specs.RehearseLines.{RehearseValue, HistoryLine, BeginLine, BenchValueLine}
use Rattle.script_rehearse.specs.Rehearsed.{Position, Told, Staged, Does, TakesLine}
use Rattle.script_rehearse.specs.inner.Rehearsed.{IsServedAt}
use Rattle.script_rehearse.proofs.Hearing.{hears_all, ready_all}

-- Phases, and numbers above 0

opens_now : (phase : Phase) → is_open phase ≡ true → phase_of phase ≡ shows.Open
opens_now Apart e = absurd cc
opens_now Opening e = refl
opens_now Accepted e = refl
opens_now Ended e = absurd cc

over_now : (phase : Phase) → is_open phase ≡ false → phase_of phase ≢ shows.Apart → phase_of phase ≡ shows.Over
over_now Apart e there = absurd (there refl)
over_now Opening e there = absurd cc
over_now Accepted e there = absurd cc
over_now Ended e there = refl

above_zero : (n : ℤ) → pos 0 <ℤ n → 0 < unsigned_abs n
above_zero (pos n) above = omega (arith, ints, above)
above_zero (negsuc n) above = absurd (omega (arith, ints, above))

-- A client that nothing has happened to

first_served : (start : Start) (shown : Shown) → IsResumable start → 0 < start.timeout → WasServed (view_at start []) shown
first_served start shown resumable timed = first_session start (view_at start []) shown resumable timed (first start)

ready_first : (history : HistoryView) → IsReady (started history)
ready_first history = record {
  taken = taken_none (history_of history) (started history).taken (refl, (refl, (refl, (refl, (refl, (refl, (refl, (refl, tt))))))));
  there = omega arith;
  unwatched = λ e. absurd cc;
}

-- the scene that a line makes
pub begun_served : (timeout : ℤ) (history : HistoryView) → pos 0 <ℤ timeout → IsResumable (new_start (unsigned_abs timeout))
    → IsServed (first_scene timeout history)
begun_served timeout history above resumable = record {
  above = above;
  served = first_served (new_start (unsigned_abs timeout)) (shown_of (started history)) resumable (above_zero timeout above);
  ready = ready_first history;
}

-- no byte is less than a frame
nothing_short : IsShort []
nothing_short = record { positive = λ low. absurd (omega (arith, low)); short = λ low. absurd (omega (arith, low)) }

-- what is shown of a history, a place and a connection
abbrev shows_with : HistoryView → ℕ → Linked → Shown
shows_with history place connection = record {
  history = history_of history;
  server = record { place = place; watches = shown_watches connection; stage = stage_of connection.phase };
  phase = phase_of connection.phase;
  requests = connection.requests;
  output = connection.output;
}

-- how many another server has taken
stays_at : (one : Option Transaction) (taken : List ℕ) (server at : ℕ)
    → at ≢ server → slice_index (advanced_by one taken server) at ≡ slice_index taken at
stays_at None taken server at other = refl
stays_at (Some one) taken server at other = get_or-set_other taken server at (slice_index taken server + 1) 0 other

module _ (old new : Scene) (s : IsServed old) where
  abbrev shown : Shown
  shown = shown_of old.bench

  -- another client
  rejoin_served : (text : List ℕ) → Rejoins old new text → IsServed new
  rejoin_served text r = subst IsServed (sym r.0) (record {
    above = s.above;
    served = first_served (taken_up old.timeout old.view) (shown_of (disconnected old.bench)) r.2 (above_zero old.timeout s.above);
    ready = ready_disconnected old.bench s.ready;
  })

  -- the client takes an input, in a scene with its view and its timeout
  plays_served : (input : Input) (mid : Scene) (text : List ℕ) (p : Plays input mid new text) → pos 0 <ℤ mid.timeout → IsReady mid.bench
      → (Hears p.outputs (shown_of mid.bench) (shown_of (heard_all p.outputs mid.bench))
      → WasServed new.view (shown_of (heard_all p.outputs mid.bench))) → IsServed new
  plays_served input mid text p above ready served =
      let bench : Served = heard_all p.outputs mid.bench in
      let is : new.bench ≡ bench = ap (λ (scene : Scene). scene.bench) p.rest in
      let timed : new.timeout ≡ mid.timeout = ap (λ (scene : Scene). scene.timeout) p.rest in
      record {
        above = subst (λ (n : ℤ). pos 0 <ℤ n) (sym timed) above;
        served = subst (λ (b : Served). WasServed new.view (shown_of b)) (sym is) (served (hears_all p.outputs mid.bench));
        ready = subst IsReady (sym is) (ready_all p.outputs mid.bench ready);
      }

  -- a connection begins
  open_served : (server : ℕ) (text : List ℕ) → Opens server old new text → IsServed new
  open_served server text o =
      let bench : Served = connected old.bench server in
      let ready : IsReady bench = o.1 s.ready in
      let place : ℕ = slice_index old.bench.taken server in
      let is : shown_of bench ≡ shows.connected place shown = ap (λ (w : Watches). begun_with place w) (ready.unwatched refl) in
      plays_served Opened (with_bench old bench) text o.0 s.above ready
      (λ hears. opened_session old.view shown s.served place o.0.outputs new.view (shown_of (heard_all o.0.outputs bench)) o.0.rule
      (taken_at shown.history old.bench.taken server s.ready.taken)
      (subst (λ (from : Shown). Hears o.0.outputs from (shown_of (heard_all o.0.outputs bench))) is hears))
    where
      begun_with : ℕ → Watches → Shown
      begun_with place watches = record {
        history = shown.history;
        server = record { place = place; watches = watches; stage = Waiting };
        phase = shows.Open;
        requests = [];
        output = [];
      }

  -- bytes come
  deliver_served : (most : ℕ) (text : List ℕ) → Delivers most old new text → IsServed new
  deliver_served most text d = go (take most output) refl d
    where
      output : List ℕ
      output = old.bench.connection.output

      bench : Served
      bench = without_output old.bench most

      ready : IsReady bench
      ready = record { taken = s.ready.taken; there = s.ready.there; unwatched = s.ready.unwatched }

      go : (bytes : List ℕ) → take most output ≡ bytes → Come bytes (with_bench old bench) new text → IsServed new
      go [] none c =
          let same : drop most output ≡ output =
          ap (λ (first : List ℕ). first ++ drop most output) (sym none) ∙ take-append-drop most output in
          subst IsServed (sym c.0) (record {
            above = s.above;
            served = subst (λ (left : List ℕ). WasServed old.view (shows.with_output left shown)) (sym same) s.served;
            ready = ready;
          })
      go (byte ∷ bytes) some p =
          let parts : output ≡ (byte ∷ bytes) ++ drop most output =
          sym (take-append-drop most output) ∙ ap (λ (first : List ℕ). first ++ drop most output) some in
          plays_served (Bytes (byte ∷ bytes)) (with_bench old bench) text p s.above ready
          (λ hears. received_session old.view shown s.served (byte ∷ bytes) (drop most output) p.outputs new.view
          (shown_of (heard_all p.outputs bench)) p.rule parts hears)

  -- the connection is cut
  cut_served : (text : List ℕ) → Plays Cut (with_bench old (disconnected old.bench)) new text → IsServed new
  cut_served text p =
      let bench : Served = disconnected old.bench in
      plays_served Cut (with_bench old bench) text p s.above (ready_disconnected old.bench s.ready)
      (λ hears. cut_session old.view shown s.served p.outputs new.view (shown_of (heard_all p.outputs bench)) p.rule hears.history)

  -- a moment comes
  now_served : (moment : ℕ) (text : List ℕ)
      → Plays (Now moment) (with_bench old (record old.bench { time = moment })) new text → IsServed new
  now_served moment text p =
      let bench : Served = record old.bench { time = moment } in
      plays_served (Now moment) (with_bench old bench) text p s.above
      (record { taken = s.ready.taken; there = s.ready.there; unwatched = s.ready.unwatched })
      (λ hears. told_session old.view shown s.served moment p.outputs new.view (shown_of (heard_all p.outputs bench)) p.rule hears)

  -- a call is asked
  call_served : (asked : Asked) (text : List ℕ) → Calls asked old new text → IsServed new
  call_served asked text c =
      plays_served (Call asked.ticket asked.call) (record old { called = _ }) text c s.above s.ready
      (λ hears. asked_session old.view shown s.served asked.ticket asked.call c.outputs new.view
      (shown_of (heard_all c.outputs old.bench)) c.rule hears)

  -- the view alone is another, with which the client was served as well
  view_served : new ≡ record old { view = new.view } → WasServed new.view shown → IsServed new
  view_served rest served = subst IsServed (sym rest) (record { above = s.above; served = served; ready = s.ready })

  same_served : new ≡ old → IsServed new
  same_served same = subst IsServed (sym same) s

  -- a look-up
  look_served : new ≡ record old { view = new.view } → new.view ≡ old.view → IsServed new
  look_served rest same = view_served rest (subst (λ (view : View). WasServed view shown) (sym same) s.served)

  -- stale answers are forgotten
  forget_served : new ≡ record old { view = new.view } → new.view ≡ record old.view { cache = forgotten old.view.cache } → IsServed new
  forget_served rest left = view_served rest (forget_session old.view shown s.served new.view
      (λ start items stands. subst (Stands start (Forgets ∷ items)) (sym left) (forgets start items old.view stands)))

  -- a line for the client
  client_served : (value : ClientValue) (text : List ℕ) → DoesClientLine value old new text → IsServed new
  client_served CutLine text p = cut_served text p
  client_served (NowLine moment) text p = now_served moment text p
  client_served (CallLine asked) text c = call_served asked text c
  client_served (PeekLine Data path) text l = look_served l.rest l.does.0
  client_served (PeekLine Child path) text l = look_served l.rest l.does.0
  client_served LastLine text l = look_served l.rest l.does.0
  client_served SavedLine text l = look_served l.rest l.does.0
  client_served ForgetLine text l = forget_served l.rest l.does.0

  -- sessions expire
  expire_served : new ≡ with_bench old (record old.bench { expired = true }) → IsServed new
  expire_served is = subst IsServed (sym is) (record {
    above = s.above;
    served = s.served;
    ready = record { taken = s.ready.taken; there = s.ready.there; unwatched = s.ready.unwatched };
  })

  -- the servers alone are others, by which the client was served as well
  bench_served : new ≡ with_bench old new.bench → IsReady new.bench → WasServed old.view (shown_of new.bench) → IsServed new
  bench_served is ready served = subst IsServed (sym is) (record { above = s.above; served = served; ready = ready })

  rests_served : GoesOn shown.history (history_of new.bench.history) → (is_up old.view ≡ true
      → (phase_of new.bench.connection.phase ≡ shows.Over) × (new.bench.connection.output ≡ old.bench.connection.output))
      → WasServed old.view (shown_of new.bench)
  rests_served goes rests = rests_session old.view shown s.served (shown_of new.bench) goes rests

  goes_on : Continues old.bench.history new.bench.history → GoesOn shown.history (history_of new.bench.history)
  goes_on c =
      record { first = ap (λ (nodes : List Transaction). after nodes root_tree) c.nodes; more = c.more; transactions = c.transactions }

  -- where the client has no connection, the history goes on
  unseen : is_up old.view ≡ false → GoesOn shown.history (history_of new.bench.history) → WasServed old.view (shown_of new.bench)
  unseen down goes = rests_served goes (λ up. absurd (let clash : true ≡ false = sym up ∙ down in cc))

  -- a server takes a transaction
  take_served : (server : ℕ) → TakesNext old.bench server new.bench → new ≡ with_bench old new.bench → IsServed new
  take_served server t is = bench_served is (t.ready s.ready) (at (eqb server old.bench.server) refl)
    where
      goes : GoesOn shown.history (history_of new.bench.history)
      goes = subst (λ (bench : Served). GoesOn shown.history (history_of bench.history)) (sym t.rest) (same_history shown.history)

      other : server ≢ old.bench.server → WasServed old.view (shown_of new.bench)
      other not =
          let place : slice_index new.bench.taken old.bench.server ≡ slice_index old.bench.taken old.bench.server =
          ap (λ (taken : List ℕ). slice_index taken old.bench.server) t.taken
          ∙ stays_at (slice_get old.bench.history.transactions (slice_index old.bench.taken server)) old.bench.taken server
          old.bench.server (λ e. not (sym e)) in
          let same : shown_of new.bench ≡ shown = ap shown_of t.rest ∙ ap₂ (shows_with old.bench.history) place (t.elsewhere not) in
          subst (WasServed old.view) (sym same) s.served

      takes : server ≡ old.bench.server → is_open old.bench.connection.phase ≡ true → (up : Bool)
          → is_up old.view ≡ up → WasServed old.view (shown_of new.bench)
      takes same open_now true up =
          let t_some = t.advances s.ready same open_now in
          takes_session old.view shown s.served t_some.steps (shown_of new.bench) up
          (opens_now old.bench.connection.phase open_now) t_some.takes
      takes same open_now false down = unseen down goes

      rests : is_open old.bench.connection.phase ≡ false → WasServed old.view (shown_of new.bench)
      rests shut = rests_served goes (λ up. (
        (ap (λ (connection : Linked). phase_of connection.phase) (t.apart shut)
            ∙ over_now old.bench.connection.phase shut (there_session old.view shown s.served up)),
        (ap (λ (connection : Linked). connection.output) (t.apart shut)),
      ))

      here : server ≡ old.bench.server → (is_opened : Bool)
          → is_open old.bench.connection.phase ≡ is_opened → WasServed old.view (shown_of new.bench)
      here same true open_now = takes same open_now (is_up old.view) refl
      here same false shut = rests shut

      at : (same : Bool) → eqb server old.bench.server ≡ same → WasServed old.view (shown_of new.bench)
      at true e = here (eqb-true server old.bench.server e) (is_open old.bench.connection.phase) refl
      at false e = other (eqb-false server old.bench.server e)

  -- the connected server processes a request
  process_served : Processes old.bench new.bench → new ≡ with_bench old new.bench → IsServed new
  process_served p is = bench_served is (p.ready s.ready) (at (is_open old.bench.connection.phase) refl)
    where
      stays : new.bench ≡ old.bench → WasServed old.view (shown_of new.bench)
      stays same = subst (λ (bench : Served). WasServed old.view (shown_of bench)) (sym same) s.served

      asked : is_open old.bench.connection.phase ≡ true → is_up old.view ≡ true → (requests : List ℕ)
          → old.bench.connection.requests ≡ requests → WasServed old.view (shown_of new.bench)
      asked open_now up [] none = stays (p.waits (subst IsShort (sym none) nothing_short))
      asked open_now up (byte ∷ bytes) some =
          answers_session old.view shown s.served p.whole (shown_of new.bench) up (opens_now old.bench.connection.phase open_now)
          (λ none. let clash : (byte ∷ bytes) ≡ [] = sym some ∙ none in absurd cc)
          (λ request xid payload rest first for_it. let f =
          p.serves request xid payload rest s.ready open_now first for_it in (f.steps, f.processes))

      opened : is_open old.bench.connection.phase ≡ true → (up : Bool) → is_up old.view ≡ up → WasServed old.view (shown_of new.bench)
      opened open_now true up = asked open_now up old.bench.connection.requests refl
      opened open_now false down = unseen down (goes_on p.history)

      at : (is_opened : Bool) → is_open old.bench.connection.phase ≡ is_opened → WasServed old.view (shown_of new.bench)
      at true open_now = opened open_now (is_up old.view) refl
      at false shut = stays (p.idle shut)

  -- a line after the one that makes the client
  pub bench_line_served : (value : BenchValue) (text : List ℕ) → DoesBench value old new text → IsServed new
  bench_line_served (OpenLine server) text does = open_served (server - 1) text does
  bench_line_served (TakeLine server) text does = take_served (server - 1) does.0 does.1
  bench_line_served ProcessLine text does = process_served does.0 does.1
  bench_line_served (DeliverLine most) text does = deliver_served most text does
  bench_line_served ExpireLine text does = expire_served does.0
  bench_line_served GoodLine text does = same_served does.0
  bench_line_served RejoinLine text does = rejoin_served text does
  bench_line_served (ClientValueLine value) text does = client_served value text does

-- any line
pub line_served : (line : Text) (old new : Position) (text : List ℕ) → TakesLine line old new text → IsServedAt old → IsServedAt new
line_served line old new text t served = by t.what old new t.does served
  where
    by : (what : Option RehearseValue) (from to : Position) → DoesSome (Does line) what from to text → IsServedAt from → IsServedAt to
    by None from to does s = subst IsServedAt (sym does.0) s
    by (Some HistoryLine) (Told told) (Told after) does s = tt
    by (Some HistoryLine) (Told told) (Staged after) does s = absurd does
    by (Some HistoryLine) (Staged scene) to does s = absurd does
    by (Some (BeginLine timeout)) (Told told) to does s =
        subst IsServedAt (sym does.0.0) (begun_served timeout told.history does.0.1 does.0.2)
    by (Some (BeginLine timeout)) (Staged scene) to does s = absurd does.0
    by (Some (BenchValueLine value)) (Staged scene) (Staged after) does s = bench_line_served scene after s value text does
    by (Some (BenchValueLine value)) (Staged scene) (Told told) does s = absurd does
    by (Some (BenchValueLine value)) (Told told) to does s = absurd does
