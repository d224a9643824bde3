-- Steps of a server that takes transactions: one transaction after another, with the notices that each fires, up to the place where it
-- stands then.
use Rattle.std.proofs.Common.{ℕ, zero, suc, ℤ, pos, ◌≡◌, ◌≢◌, ◌<◌, ◌≤◌, ◌+◌, refl, ap, sym, ◌∙◌, subst, arith, List, [], ◌∷◌, ◌++◌, length}
use Rattle.std.proofs.Common.{take, drop, ◌^◌, append_assoc, Bool, true, false, ◌&&◌, if◌then◌else◌}
use mathlib.Core.Path.{fun_ext}
use Rattle.std.specs.Prelude.{slice_index, slice_set, slice_get, Option, Some, None, Ok, Err, OnOk, OnErr, IfErr, IsErrOf, int_lt, Vec}
use Rattle.std.proofs.lemmas.Bool.Decides.{nat_tests}
use Rattle.std.specs.Prelude.{Result as Outcome}
use Rattle.std.specs.declared.alloc.AllocError.{AllocError}
use Rattle.std.proofs.lemmas.List.{append-nil}
use Rattle.std.specs.List.{flat_map}
use Rattle.zk_frames.specs.Frame.{frame}
use Rattle.zk_nodes.specs.History.{History, Change, Transaction, after, Creates, Sets, Deletes}
use Rattle.zk_nodes.specs.Path.{NodePath, path_eq}
use Rattle.zk_history.specs.HistoryView.{HistoryView, history_of, root_tree}
use Rattle.zk_nodes.specs.declared.side.Side.{Side}
use Rattle.zk_nodes.specs.declared.side.Side.TheVariants.{Data, Child}
use Rattle.theory_serving.specs.GoingOn.{GoesOn}
use Rattle.zk_laws.specs.Server.{Watches, Notice, AreSent, fires, leaves_set, fires_all, leaves_set_all, no_watches, without, same_side}
use Rattle.zk_laws.specs.Server.{zxid_held, tree_held, Reads, Gives, both, sets}
use Rattle.zk_laws.specs.Messages.{Request, Ask}
use Rattle.zk_conversation.specs.Calls.{Call}
use Rattle.zk_conversation.specs.Calls as call
use Rattle.zk_conversation.specs.Questions.{question_of}
use Rattle.zk_conversation.specs.Pending.{closes}
use Rattle.zk_conversation.specs.Results.{Result, Refused}
use Rattle.zk_bench.specs.inner.Answering.{IsRead, IsTold, AnswersRead}
use Rattle.zk_laws.specs.ServerSteps.{ServerEnd, Stage, Waiting, Serving, Ended as Silent, Advances, Answers, MayDo, end_after}
use Rattle.zk_laws.specs.ServerSteps.{changes_next}
use Rattle.theory_serving.specs.Steps.{Step, Moves, ended_by, sent_by}
use Rattle.theory_serving.proofs.Stepping.{last_moves, last_ended, last_sent}
use Rattle.zk_bench.specs.declared.connection.Connection.{Connection}
use Rattle.zk_bench.specs.declared.phase.Phase.{Phase}
use Rattle.zk_bench.specs.declared.phase.Phase.TheVariants.{Apart, Opening, Accepted, Ended}
use Rattle.zk_bench.specs.inner.Serving.{watched, Tells}
use Rattle.theory_serving.specs.Shown as shows
use Rattle.theory_serving.specs.Shown.{Shown, GoesBy}
use Rattle.theory_serving.proofs.Later.{taken_set}
use Rattle.zk_bench.specs.Served.{Served, Linked, is_open, advanced, advanced_by, ended, disconnected, left_with, Continues}
use Rattle.zk_bench.specs.declared.stop.Stop.{Stop}
use Rattle.zk_bench.specs.declared.stop.Stop.TheVariants as stops
use Rattle.zk_bench.specs.declared.bench.Bench.TheInside.{Inside}
use Rattle.zk_bench.proofs.Fields.{bench_of}
use Rattle.zk_bench.proofs.Placed.{no_room}
use Rattle.zk_bench.specs.Linked.{linked_of}
use Rattle.zk_bench.specs.Stepping.{stage_of, shown_watches, phase_of, end_of, shown_of, IsReady, TakesSome}
use Rattle.zk_bench.specs.inner.Stepping.{end_at, Catches, CatchesUp}
use Rattle.zk_bench.specs.inner.Stepping.{ProcessesIf, ProcessesOne, AnswersOne}
use Rattle.zk_bench.specs.Stepping.{ProcessesFirst, AnswersFirst}
use Rattle.zk_bench.specs.Front.{IsShort, IsWhole}
use Rattle.theory_serving.proofs.Fronts.{front_there, front_field, front_behind, front_payload}

-- no transaction is taken
pub stays_there : {A : Type 0} (h : History) (place : ℕ) (old : Connection A)
    → place ≤ length h.transactions → CatchesUp h place old place old
stays_there h place old low = record { steps = []; moves = tt; sent = sym (append-nil old.output.items); low = low; ended = refl }

-- the steps of one that has gone on are steps
pub so_far : {A : Type 0} (h : History) (before : ℕ) (old : Connection A) (after : ℕ) (new : Connection A)
    → CatchesUp h before old after new → Catches h before old after new
so_far h before old after new g = record { steps = g.steps; moves = g.moves; sent = g.sent; low = g.low }

-- one that can't be told is no step
pub untold : {A : Type 0} (h : History) (before : ℕ) (old : Connection A) (at : ℕ) (mid : Connection A) (new : Connection A)
    → CatchesUp h before old at mid → at < length h.transactions
    → new.output.items ≡ mid.output.items → Catches h before old (at + 1) new
untold h before old at mid new g room same = record { steps = g.steps; moves = g.moves; sent = same ∙ g.sent; low = omega (arith, room) }

-- the server's end, as what is linked shows it
abbrev pub end_linked : ℕ → Linked → ServerEnd
end_linked place c = record { place = place; watches = shown_watches c; stage = stage_of c.phase }

-- one frame and no more, as frames are joined
twice : (bs : List ℕ) → bs ≡ (bs ++ []) ++ []
twice bs = sym (append-nil (bs ++ []) ∙ append-nil bs)

serves : (phase : Phase) → phase ≡ Accepted → stage_of phase ≢ Silent
serves phase e over = let at : Serving ≡ Silent = sym (ap stage_of e) ∙ over in absurd cc

-- one transaction more
pub takes_one : {A : Type 0} (h : History) (before : ℕ) (old : Connection A) (at : ℕ) (mid new : Connection A) (changes : List Change)
    → CatchesUp h before old at mid → mid.phase ≡ Accepted
    → at < length h.transactions → changes_next h at ≡ changes → watched new.watches ≡ leaves_set_all changes (watched mid.watches)
    → Tells (fires_all changes (watched mid.watches)) mid.output.items new.output.items → new.phase ≡ mid.phase
    → CatchesUp h before old (at + 1) new
takes_one h before old at mid new changes g accepted room next left t phase =
    let last : Step = record { step = Advances t.sent; payloads = t.payloads } in
    let from : ServerEnd = end_at before old in
    let one : at + 1 ≡ suc at = omega arith in
    let may : MayDo h (Advances t.sent) (end_at at mid) [] = (
      serves mid.phase accepted,
      room,
      subst (λ (cs : List Change). AreSent (fires_all cs (watched mid.watches)) t.sent) (sym next) t.admitted,
    ) in
    record {
      steps = g.steps ++ last ∷ [];
      moves = last_moves h (pos 0) [] g.steps last from g.moves
          (subst (λ (server : ServerEnd). MayDo h (Advances t.sent) server []) (sym g.ended) may) (t.spelled (pos 0));
      sent = t.output ∙ ap (λ (bs : List ℕ). bs ++ flat_map frame t.payloads) g.sent
          ∙ append_assoc old.output.items (sent_by g.steps) (flat_map frame t.payloads)
          ∙ ap (λ (bs : List ℕ). old.output.items ++ bs) (sym (last_sent g.steps last));
      low = omega (arith, room);
      ended = last_ended h g.steps last from ∙ ap (end_after h (Advances t.sent)) g.ended
          ∙ ap (λ (cs : List Change). end_of (suc at) (leaves_set_all cs (watched mid.watches)) (stage_of mid.phase)) next
          ∙ ap (λ (w : Watches). end_of (suc at) w (stage_of mid.phase)) (sym left)
          ∙ ap (λ (p : Phase). end_of (suc at) (watched new.watches) (stage_of p)) (sym phase)
          ∙ ap (λ (n : ℕ). end_of n (watched new.watches) (stage_of new.phase)) (sym one);
    }
  where
    end_of : ℕ → Watches → Stage → ServerEnd
    end_of place watches stage = record { place = place; watches = watches; stage = stage }

-- A client that was not admitted

none_fired : (change : Change) → fires change no_watches ≡ []
none_fired (Creates [] content owner) = refl
none_fired (Creates (name ∷ path) content owner) = refl
none_fired (Sets path content) = refl
none_fired (Deletes []) = refl
none_fired (Deletes (name ∷ path)) = refl

never : (b : Bool) → (if b then false else false) ≡ false
never true = refl
never false = refl

without_none : (gone : Side) (at : NodePath) → without gone at no_watches ≡ no_watches
without_none gone at = fun_ext (λ side. fun_ext (λ path. never (same_side side gone && path_eq path at)))

none_left : (change : Change) → leaves_set change no_watches ≡ no_watches
none_left (Creates [] content owner) = refl
none_left (Creates (name ∷ path) content owner) = ap (without Child path) (without_none Data (name ∷ path)) ∙ without_none Child path
none_left (Sets path content) = without_none Data path
none_left (Deletes []) = refl
none_left (Deletes (name ∷ path)) =
    ap (λ (w : Watches). without Child path (without Child (name ∷ path) w)) (without_none Data (name ∷ path))
    ∙ ap (without Child path) (without_none Child (name ∷ path)) ∙ without_none Child path

none_fired_all : (changes : List Change) → fires_all changes no_watches ≡ []
none_fired_all [] = refl
none_fired_all (change ∷ changes) =
    ap (λ (ns : List Notice). ns ++ fires_all changes (leaves_set change no_watches)) (none_fired change)
    ∙ ap (fires_all changes) (none_left change) ∙ none_fired_all changes

none_left_all : (changes : List Change) → leaves_set_all changes no_watches ≡ no_watches
none_left_all [] = refl
none_left_all (change ∷ changes) = ap (leaves_set_all changes) (none_left change) ∙ none_left_all changes

waits : (phase : Phase) → phase ≡ Opening → stage_of phase ≢ Silent
waits phase e over = let at : Waiting ≡ Silent = sym (ap stage_of e) ∙ over in absurd cc

none_sent : AreSent [] []
none_sent n = (omega arith, λ h. h)

-- a transaction more, of which nobody is told
pub takes_silently : {A : Type 0} (h : History) (at : ℕ) (old : Connection A)
    → old.phase ≡ Opening → watched old.watches ≡ no_watches → at < length h.transactions → CatchesUp h at old (at + 1) old
takes_silently h at old opening unwatched room =
    let changes : List Change = changes_next h at in
    let one : at + 1 ≡ suc at = omega arith in
    let fired : fires_all changes (watched old.watches) ≡ [] = ap (fires_all changes) unwatched ∙ none_fired_all changes in
    let left : leaves_set_all changes (watched old.watches) ≡ watched old.watches =
    ap (leaves_set_all changes) unwatched ∙ none_left_all changes ∙ sym unwatched in
    record {
      steps = record { step = Advances []; payloads = [] } ∷ [];
      moves = ((waits old.phase opening, room, subst (λ (ns : List Notice). AreSent ns []) (sym fired) none_sent), tt, tt);
      sent = sym (append-nil old.output.items);
      low = omega (arith, room);
      ended = ap (λ (w : Watches). end_with (suc at) w (stage_of old.phase)) left
          ∙ ap (λ (n : ℕ). end_with n (watched old.watches) (stage_of old.phase)) (sym one);
    }
  where
    end_with : ℕ → Watches → Stage → ServerEnd
    end_with place watches stage = record { place = place; watches = watches; stage = stage }

-- What a bench shows

pub set_there : (xs : List ℕ) (i n : ℕ) → i < length xs → slice_index (slice_set xs i n) i ≡ n
set_there [] i n low = absurd (omega (arith, low))
set_there (x ∷ xs) zero n low = refl
set_there (x ∷ xs) (suc i) n low = set_there xs i n (omega (arith, low))

pub length_set : (xs : List ℕ) (i n : ℕ) → length (slice_set xs i n) ≡ length xs
length_set [] i n = refl
length_set (x ∷ xs) zero n = refl
length_set (x ∷ xs) (suc i) n = ap suc (length_set xs i n)

pub is_going_on : (phase : Phase) → is_open phase ≡ true → phase_of phase ≢ shows.Apart
is_going_on Apart e f = absurd cc
is_going_on Opening e f = absurd cc
is_going_on Accepted e f = absurd cc
is_going_on Ended e f = absurd cc

pub same_history : (h : History) → GoesOn h h
same_history h = record { first = refl; more = []; transactions = sym (append-nil h.transactions) }

-- a server that has taken a transaction is shown so
pub shows_taken : {A : Type 0} (b : Served) (old new : Connection A) → b.connection ≡ linked_of old → IsReady b → is_open old.phase ≡ true
    → new ≡ record old { watches = new.watches; output = new.output }
    → CatchesUp (history_of b.history) (slice_index b.taken b.server) old (slice_index b.taken b.server + 1) new
    → TakesSome (shown_of b)
    (shown_of (record b { taken = slice_set b.taken b.server (slice_index b.taken b.server + 1); connection = linked_of new }))
shows_taken b old new is ready up rest g =
    let h : History = history_of b.history in
    let place : ℕ = slice_index b.taken b.server in
    let phase : new.phase ≡ old.phase = ap (λ k. k.phase) rest in
    let from : end_of b ≡ end_at place old = ap (λ (c : Linked). end_linked place c) is in
    let put : slice_index (slice_set b.taken b.server (place + 1)) b.server ≡ place + 1 =
    set_there b.taken b.server (place + 1) ready.there in
    record {
      steps = g.steps;
      takes = record {
        goes = record {
          history = same_history h;
          moves = subst (λ (server : ServerEnd). Moves h (pos 0) [] g.steps server) (sym from) g.moves;
          sent = g.sent ∙ ap (λ (c : Linked). c.output ++ sent_by g.steps) (sym is);
          there = λ e. is_going_on new.phase (ap is_open phase ∙ up) e;
          ended = λ still. ap (λ (n : ℕ). end_linked n (linked_of new)) put ∙ sym g.ended ∙ ap (ended_by h g.steps) (sym from);
        };
        requests = λ still. ap (λ k. k.requests.items) rest ∙ ap (λ (c : Linked). c.requests) (sym is);
      };
    }

-- each server still holds a beginning
pub ready_taken : (b : Served) (server : ℕ) (connection : Linked) → IsReady b → slice_index b.taken server < length b.history.transactions
    → (connection.phase ≡ Opening → shown_watches connection ≡ no_watches)
    → IsReady (record b { taken = slice_set b.taken server (slice_index b.taken server + 1); connection = connection })
ready_taken b server connection ready room unwatched = record {
  taken = taken_set (history_of b.history) b.taken server (slice_index b.taken server + 1) ready.taken (omega (arith, room));
  there = subst (λ (n : ℕ). b.server < n) (sym (length_set b.taken server (slice_index b.taken server + 1))) ready.there;
  unwatched = unwatched;
}

-- nothing is watched yet, where nothing was told
still_unwatched : {A : Type 0} (old new : Connection A) → (old.phase ≢ Accepted → new ≡ old)
    → new ≡ record old { watches = new.watches; output = new.output }
    → (old.phase ≡ Opening → shown_watches (linked_of old) ≡ no_watches) → new.phase ≡ Opening → shown_watches (linked_of new) ≡ no_watches
still_unwatched {A} old new idle rest before opening =
    let at : old.phase ≡ Opening = sym (ap (λ k. k.phase) rest) ∙ opening in
    let same : new ≡ old = idle (λ e. let f : Opening ≡ Accepted = sym at ∙ e in absurd cc) in
    ap {A = Connection A} {B = Watches} (λ k. shown_watches (linked_of k)) same ∙ before at

pub ready_told : {A : Type 0} (i : Inside A) (before : Served) (server : ℕ) (new : Connection A)
    → bench_of i ≡ before → slice_index i.taken server < length i.history.transactions
    → (i.connection.phase ≢ Accepted → new ≡ i.connection)
    → new ≡ record i.connection { watches = new.watches; output = new.output } → IsReady before
    → IsReady (record (bench_of i) { taken = slice_set i.taken server (slice_index i.taken server + 1); connection = linked_of new })
ready_told i before server new same room idle rest was_ready =
    let ready : IsReady (bench_of i) = subst IsReady (sym same) was_ready in
    ready_taken (bench_of i) server (linked_of new) ready room (still_unwatched i.connection new idle rest ready.unwatched)

pub not_open : (phase : Phase) → phase ≡ Ended → phase_of phase ≢ shows.Open
not_open phase over e = let f : shows.Over ≡ shows.Open = sym (ap phase_of over) ∙ e in absurd cc

-- an end, where nothing was sent, goes by no step
ends_by : (xid : ℤ) (asked : List Request) (old new : Served) → GoesOn (history_of old.history) (history_of new.history)
    → new.connection.phase ≡ Ended → new.connection.output ≡ old.connection.output → GoesBy xid asked [] (shown_of old) (shown_of new)
ends_by xid asked old new goes over same = record {
  history = goes;
  moves = tt;
  sent = same ∙ sym (append-nil old.connection.output);
  there = λ e. let f : shows.Over ≡ shows.Apart = sym (ap phase_of over) ∙ e in absurd cc;
  ended = λ e. absurd (not_open new.connection.phase over e);
}

pub shows_ended : (old new : Served) → GoesOn (history_of old.history) (history_of new.history)
    → new.connection.phase ≡ Ended → new.connection.output ≡ old.connection.output → TakesSome (shown_of old) (shown_of new)
shows_ended old new goes over same =
    record {
      steps = [];
      takes =
          record { goes = ends_by (pos 0) [] old new goes over same; requests = λ e. absurd (not_open new.connection.phase over e) };
    }

-- nothing happens
pub shows_same : (b : Served) → is_open b.connection.phase ≡ true → TakesSome (shown_of b) (shown_of b)
shows_same b up = record {
  steps = [];
  takes = record {
    goes = record {
      history = same_history (history_of b.history);
      moves = tt;
      sent = sym (append-nil b.connection.output);
      there = λ e. is_going_on b.connection.phase up e;
      ended = λ e. refl;
    };
    requests = λ e. refl;
  };
}

-- a transaction that is told where the client was admitted, and not told where it was not
pub told_or_silent : {A : Type 0} (h : History) (at : ℕ) (old new : Connection A) (changes : List Change)
    → is_open old.phase ≡ true → (old.phase ≡ Opening → watched old.watches ≡ no_watches)
    → at < length h.transactions → changes_next h at ≡ changes
    → (old.phase ≡ Accepted → watched new.watches ≡ leaves_set_all changes (watched old.watches))
    → (old.phase ≡ Accepted → Tells (fires_all changes (watched old.watches)) old.output.items new.output.items)
    → (old.phase ≢ Accepted → new ≡ old) → new ≡ record old { watches = new.watches; output = new.output } → CatchesUp h at old (at + 1) new
told_or_silent {A} h at old new changes up unwatched room next left tells idle rest = go old.phase refl
  where
    go : (phase : Phase) → old.phase ≡ phase → CatchesUp h at old (at + 1) new
    go Apart e = let f : is_open Apart ≡ true = ap is_open (sym e) ∙ up in absurd cc
    go Opening e =
        subst (λ (k : Connection A). CatchesUp h at old (at + 1) k) (sym (idle (λ a. let f : Opening ≡ Accepted = sym e ∙ a in absurd cc)))
        (takes_silently h at old e (unwatched e) room)
    go Accepted e = takes_one h at old at old new changes (stays_there h at old (omega (arith, room))) e room next (left e) (tells e)
        (ap (λ k. k.phase) rest)
    go Ended e = let f : is_open Ended ≡ true = ap is_open (sym e) ∙ up in absurd cc

-- how many each server has taken, where there was a transaction
pub advanced_is : (b : Served) (server : ℕ) → slice_index b.taken server < length b.history.transactions
    → slice_set b.taken server (slice_index b.taken server + 1) ≡ advanced b server
advanced_is b server room = go (slice_get b.history.transactions (slice_index b.taken server)) refl
  where
    go : (o : Option Transaction) → slice_get b.history.transactions (slice_index b.taken server) ≡ o
        → slice_set b.taken server (slice_index b.taken server + 1) ≡ advanced_by o b.taken server
    go (Some one) e = refl
    go None e = let low : length b.history.transactions ≤ slice_index b.taken server =
        no_room b.history.transactions (slice_index b.taken server) e in absurd (omega (arith, room, low))

-- What becomes of the outcome

pub ready_ended : (b : Served) → IsReady b → IsReady (ended b)
ready_ended b ready = record { taken = ready.taken; there = ready.there; unwatched = λ e. absurd cc }

pub ready_disconnected : (b : Served) → IsReady b → IsReady (disconnected b)
ready_disconnected b ready = record { taken = ready.taken; there = ready.there; unwatched = λ e. absurd cc }

pub settled : (P : Served → Type 0) (outcome : Outcome (Unit {0}) Stop) (mid new : Served) → OnOk outcome (new ≡ mid)
    → (IsErrOf outcome stops.End → new ≡ ended mid) → (IsErrOf outcome stops.Memory → new ≡ disconnected mid)
    → P mid → P (ended mid) → P (disconnected mid) → P new
settled P (Ok u) mid new a b c p q r = subst P (sym a) p
settled P (Err stops.End) mid new a b c p q r = subst P (sym (b refl)) q
settled P (Err stops.Memory) mid new a b c p q r = subst P (sym (c refl)) r

nothing_so : {T E : Type 0} (r : Outcome T E) (P : Type 0) → P → OnOk r P
nothing_so (Ok x) P p = p
nothing_so (Err e) P p = tt

never_so : {T E : Type 0} (r : Outcome T E) (P : Type 0) → OnOk r ⊥ → OnOk r P
never_so (Ok x) P p = absurd p
never_so (Err e) P p = tt

-- what holds where the connection goes on, or has ended
pub settled_so : (P : Served → Type 0) (outcome : Outcome (Unit {0}) Stop) (result : Outcome (Unit {0}) AllocError) (mid new : Served)
    → OnOk outcome (new ≡ mid) → (IsErrOf outcome stops.End → new ≡ ended mid)
    → (IsErrOf outcome stops.Memory → OnOk result ⊥) → OnOk outcome (P mid)
    → (IsErrOf outcome stops.End → P (ended mid)) → OnOk result (P new)
settled_so P (Ok u) result mid new a b c p q = nothing_so result (P new) (subst P (sym a) p)
settled_so P (Err stops.End) result mid new a b c p q = nothing_so result (P new) (subst P (sym (b refl)) (q refl))
settled_so P (Err stops.Memory) result mid new a b c p q = never_so result (P new) (c refl)

-- what is said of errors holds of this one
pub this_error : {T E : Type 0} (r : Outcome T E) (e : E) (P : Type 0) → OnErr r P → IsErrOf r e → P
this_error (Ok x) e P h is = absurd cc
this_error (Err f) e P h is = h

-- A client that has seen no more than the server has.
seen_by : (held seen : ℕ) → int_lt (pos held) (pos seen) ≡ false → seen ≤ held
seen_by held seen e = grind (arith, nat_tests)

pub not_ahead : (held seen : ℕ) (kept last : ℤ) → kept ≡ pos held → last ≡ pos seen → int_lt kept last ≡ false → seen ≤ held
not_ahead held seen kept last is asked e =
    seen_by held seen (ap (λ (z : ℤ). int_lt z (pos seen)) (sym is) ∙ ap (int_lt kept) (sym asked) ∙ e)

-- A client that has seen no more is not ahead.
pub no_more_seen : (held seen : ℕ) (kept last : ℤ) → kept ≡ pos held → last ≡ pos seen → seen ≤ held → int_lt kept last ≡ true → ⊥
no_more_seen held seen kept last is asked low e =
    let ahead : int_lt (pos held) (pos seen) ≡ true = ap (λ (z : ℤ). int_lt z (pos seen)) (sym is) ∙ ap (int_lt kept) (sym asked) ∙ e in
    let more : held < seen = grind (arith, nat_tests) in
    omega (arith, more, low)

pub ready_answered : {A : Type 0} (i : Inside A) (before : Served) (out : Vec ℕ A)
    → bench_of i ≡ before → IsReady before → IsReady (record (bench_of i) { connection = linked_of (record i.connection { output = out }) })
ready_answered i before out same was_ready = let ready : IsReady (bench_of i) = subst IsReady (sym same) was_ready in
    record { taken = ready.taken; there = ready.there; unwatched = ready.unwatched }

-- the bytes of the request do not count
pub front_gone : {P : Type 0} (b old : Served) (requests : List ℕ) (request : Request) (xid : ℤ) (new : Shown)
    → b ≡ old → ProcessesIf P request xid (shown_of (record b { connection = record b.connection { requests = requests } })) new
    → ProcessesIf P request xid (shown_of old) new
front_gone {P} b old requests request xid new same p = subst (λ (s : Served). ProcessesIf P request xid (shown_of s) new) same (record {
  steps = p.steps;
  goes = record { history = p.goes.history; moves = p.goes.moves; sent = p.goes.sent; there = p.goes.there; ended = p.goes.ended };
  done = p.done;
})

-- they alone are gone
pub left_front : (b old : Served) (requests : List ℕ) (count : ℕ) → b ≡ old → requests ≡ drop count b.connection.requests
    → left_with b requests ≡ left_with old (drop count old.connection.requests)
left_front b old requests count same gone =
    ap (left_with b) gone ∙ ap (λ (s : Served). left_with s (drop count s.connection.requests)) same

pub ready_front : (b : Served) (requests : List ℕ)
    → IsReady b → IsReady (record b { connection = record b.connection { requests = requests } })
ready_front b requests ready = record { taken = ready.taken; there = ready.there; unwatched = ready.unwatched }

pub ok_so : {T E : Type 0} (r : Outcome T E) (P Q : Type 0) → OnOk r P → (P → Q) → OnOk r Q
ok_so (Ok x) P Q h f = f h
ok_so (Err e) P Q h f = tt

pub err_so : {T E : Type 0} (r : Outcome T E) (P Q : E → Type 0) → IfErr r P → ((e : E) → P e → Q e) → IfErr r Q
err_so (Ok x) P Q h f = tt
err_so (Err e) P Q h f = f e h

-- what is answered is processed
pub processed_so : (request : Request) (xid : ℤ) (old new : Shown) → AnswersOne request xid old new → ProcessesOne request xid old new
processed_so request xid old new a = record { steps = a.steps; goes = a.goes; done = λ still. a.done tt }

pub answered_so : (request : Request) (xid : ℤ) (old new : Shown) → AnswersOne request xid old new → AnswersFirst request xid old new
answered_so request xid old new a = record { steps = a.steps; goes = a.goes; done = a.done tt }

-- What stands first

pub not_short : (payload rest bytes : List ℕ) → bytes ≡ frame payload ++ rest → length payload < 2 ^ 31 → IsShort bytes → ⊥
not_short payload rest bytes is small short =
    let there = front_there payload rest bytes is in
    let field = front_field payload rest bytes is small in
    let low = short.short (omega (arith, there)) in
    omega (arith, there, field, low)

pub whole_count : (payload rest bytes : List ℕ) (count : ℕ)
    → bytes ≡ frame payload ++ rest → length payload < 2 ^ 31 → IsWhole bytes count → count ≡ length payload
whole_count payload rest bytes count is small whole = sym whole.is ∙ front_field payload rest bytes is small

pub whole_payload : (payload rest bytes : List ℕ) (count : ℕ)
    → bytes ≡ frame payload ++ rest → length payload < 2 ^ 31 → IsWhole bytes count → payload ≡ take count (drop 4 bytes)
whole_payload payload rest bytes count is small whole =
    sym (front_payload payload rest bytes is)
    ∙ ap (λ (n : ℕ). take n (drop 4 bytes)) (sym (whole_count payload rest bytes count is small whole))

-- a request that was processed, with its frame
pub first_processed : (old new : Served) (request : Request) (xid : ℤ) (payload rest : List ℕ)
    → old.connection.requests ≡ frame payload ++ rest → new.connection.requests ≡ drop (4 + length payload) old.connection.requests
    → ProcessesOne request xid (shown_of old) (shown_of new) → ProcessesFirst request xid payload (shown_of old) (shown_of new)
first_processed old new request xid payload rest is gone p = record {
  steps = p.steps;
  processes = record {
    goes = p.goes;
    done = p.done;
    requests = λ still. is ∙ ap (λ (bs : List ℕ). frame payload ++ bs) (sym (gone ∙ front_behind payload rest old.connection.requests is));
  };
}

-- a connection that ends with nothing sent
pub ends_first : (old new : Served) (request : Request) (xid : ℤ) (payload : List ℕ) → GoesOn (history_of old.history)
    (history_of new.history) → new.connection.phase ≡ Ended → new.connection.output ≡ old.connection.output
    → ProcessesFirst request xid payload (shown_of old) (shown_of new)
ends_first old new request xid payload goes over same =
    let closed = not_open new.connection.phase over in
    record {
      steps = [];
      processes = record {
        goes = ends_by xid (request ∷ []) old new goes over same;
        done = λ e. absurd (closed e);
        requests = λ e. absurd (closed e);
      };
    }

pub continues_so : (old new : HistoryView) → Continues old new → GoesOn (history_of old) (history_of new)
continues_so old new c =
    record { first = ap (λ (ts : List Transaction). after ts root_tree) c.nodes; more = c.more; transactions = c.transactions }

-- A read that is answered

pub goes_on : (asked : Call) → IsRead asked → closes (question_of asked) ≡ false
goes_on call.Close is = absurd is
goes_on asked is = refl

pub gives_read : (h : History) (place : ℕ) (asked : Call) (result : Result)
    → IsRead asked → IsTold result → Reads (tree_held h place) (question_of asked) result → Gives h place asked result
gives_read h place asked (Refused code) is told reads = absurd told
gives_read h place (call.SetData text content version) result is told reads = absurd is
gives_read h place (call.Create text content mode) result is told reads = absurd is
gives_read h place (call.Delete text version) result is told reads = absurd is
gives_read h place call.Close result is told reads = absurd is
gives_read h place asked result is told reads = reads

-- so a server that serves answers
pub reads_so : {A : Type 0} (b : Served) (old new : Connection A) (asked : Call) (xid : ℤ)
    → b.connection ≡ linked_of old → old.phase ≡ Accepted
    → AnswersRead (tree_held (history_of b.history) (slice_index b.taken b.server))
    (zxid_held (history_of b.history) (slice_index b.taken b.server)) xid asked old new
    → AnswersOne (Ask asked) xid (shown_of b) (shown_of (record b { connection = linked_of new }))
reads_so b old new asked xid is accepted a =
    let h : History = history_of b.history in
    let place : ℕ = slice_index b.taken b.server in
    let phase : new.phase ≡ Accepted = ap (λ k. k.phase) a.rest ∙ accepted in
    let from : end_of b ≡ end_at place old = ap (λ (c : Linked). end_linked place c) is in
    let serving : (end_of b).stage ≡ Serving = ap (λ (s : ServerEnd). s.stage) from ∙ ap stage_of accepted in
    record {
      steps = record { step = Answers asked a.result; payloads = a.payload ∷ [] } ∷ [];
      goes = record {
        history = same_history h;
        moves = ((serving, refl, gives_read h place asked a.result a.read a.told a.reads), (a.small, a.spelled, tt), tt);
        sent = a.output ∙ ap (λ (c : Linked). c.output ++ frame a.payload) (sym is)
            ∙ ap (λ (bs : List ℕ). b.connection.output ++ bs) (twice (frame a.payload));
        there = λ e. let f : shows.Open ≡ shows.Apart = sym (ap phase_of phase) ∙ e in absurd cc;
        ended = λ still.
            ap (λ (w : Watches). end_with place w (stage_of new.phase)) a.left
            ∙ ap (λ (c : Linked). end_with place (both (shown_watches c) (sets (question_of asked) a.result)) (stage_of new.phase)) (sym is)
            ∙ ap (λ (p : Phase). end_with place (both (shown_watches b.connection) (sets (question_of asked) a.result)) (stage_of p)) phase
            ∙ ap (λ (over : Bool). end_with place (both (shown_watches b.connection) (sets (question_of asked) a.result))
            (if over then Silent else Serving)) (sym (goes_on asked a.read));
      };
      done = λ still. refl;
    }
  where
    end_with : ℕ → Watches → Stage → ServerEnd
    end_with place watches stage = record { place = place; watches = watches; stage = stage }
