-- A server that takes a transaction goes a step of the laws, by `shows_taken`, told or not by whether the client was admitted
-- (`told_or_silent`). How many it has taken is `advanced_is`, and the bench stays ready, by `ready_told` and `ready_taken`.
-- On a connection that is not open nobody was admitted, so nothing is told.
use Rattle.std.proofs.Common.{◌≡◌, ◌≢◌, ap, sym, subst, ◌∙◌, ◌+◌, ◌<◌, length, refl, true, false, map, IsOk}
use Rattle.zk_laws.specs.ServerSteps.{changes_next}
use Rattle.std.specs.Prelude.{slice_index, slice_set}
use Rattle.zk_history.specs.HistoryView.{history_of}
use Rattle.zk_history.specs.Made.{change_of}
use Rattle.zk_bench.specs.declared.phase.Phase.{Phase}
use Rattle.zk_bench.specs.declared.phase.Phase.TheVariants.{Accepted}
use Rattle.zk_bench.specs.Linked.{linked_of}
use Rattle.zk_bench.specs.Served.{Served, advanced, is_open}
use Rattle.zk_bench.specs.Stepping.{IsReady, TakesSome, shown_of}
use Rattle.zk_bench.proofs.Fields.{bench_of}
use Rattle.zk_bench.proofs.Stepped.{ready_taken, ready_told, told_or_silent, shows_taken, advanced_is}
use Rattle.zk_bench.proofs.bench.Bench.take_next.Goals as goal

pub returns-in_err-tell_accepted-clause-ready : goal.returns-in_err-tell_accepted-clause-ready
returns-in_err-tell_accepted-clause-ready g c =
    ready_told c.self.inside c.args.self.now c.args.server c.tell_accepted.new.connection c.self.view_is c.in-Some.ensures.room
    c.tell_accepted.ensures.idle c.tell_accepted.ensures.rest

pub returns-in_ok-tell_accepted-clause-ready : goal.returns-in_ok-tell_accepted-clause-ready
returns-in_ok-tell_accepted-clause-ready g c =
    ready_told c.self.inside c.args.self.now c.args.server c.tell_accepted.new.connection c.self.view_is c.in-Some.ensures.room
    c.tell_accepted.ensures.idle c.tell_accepted.ensures.rest

pub returns-else-self-server-clause-ready : goal.returns-else-self-server-clause-ready
returns-else-self-server-clause-ready g c =
    let b = bench_of c.self.inside in
    subst (λ (old : Served). IsReady old → IsReady (record b {
      taken = slice_set b.taken c.args.server
          (slice_index b.taken c.args.server + 1);
      connection = linked_of c.self.inside.connection;
    })) c.self.view_is
    (λ ready. ready_taken b c.args.server b.connection ready c.in-Some.ensures.room ready.unwatched)

pub returns-in_ok-tell_accepted-clause-taken : goal.returns-in_ok-tell_accepted-clause-taken
returns-in_ok-tell_accepted-clause-taken g c =
    let b = bench_of c.self.inside in
    advanced_is b c.args.server c.in-Some.ensures.room ∙ ap (λ (old : Served). advanced old c.args.server) c.self.view_is

pub returns-else-self-server-clause-taken : goal.returns-else-self-server-clause-taken
returns-else-self-server-clause-taken g c =
    let b = bench_of c.self.inside in
    advanced_is b c.args.server c.in-Some.ensures.room ∙ ap (λ (old : Served). advanced old c.args.server) c.self.view_is

pub returns-in_ok-tell_accepted-clause-advances : goal.returns-in_ok-tell_accepted-clause-advances
returns-in_ok-tell_accepted-clause-advances g c =
    let b = bench_of c.self.inside in
    let after = c.in_ok-tell_accepted.ensures in
    let mid = c.self.inside.connection in
    let new = c.tell_accepted.new.connection in
    let one : b.server ≡ c.args.server = c.if-self-server.true in
    subst (λ (old : Served). IsReady old → c.args.server ≡ old.server → is_open old.connection.phase ≡ true
    → TakesSome (shown_of old) (shown_of (record b
    { taken = slice_set b.taken c.args.server (slice_index b.taken c.args.server + 1); connection = linked_of new }))) c.self.view_is
    (λ ready same up.
    subst (λ n. TakesSome (shown_of b)
    (shown_of (record b { taken = slice_set b.taken n (slice_index b.taken n + 1); connection = linked_of new }))) one
    (shows_taken b mid new refl ready up after.rest
    (told_or_silent (history_of b.history) (slice_index b.taken b.server) mid new (map change_of c.in-Some.changes.now) up ready.unwatched
    (subst (λ n. slice_index b.taken n < length b.history.transactions) (sym one) c.in-Some.ensures.room)
    (subst (λ n. changes_next (history_of b.history) (slice_index b.taken n) ≡ map change_of c.in-Some.changes.now)
    (sym one) c.in-Some.ensures.changes)
    after.left after.tells after.idle after.rest)))

not_admitted : (phase : Phase) → is_open phase ≡ false → phase ≢ Accepted
not_admitted phase shut same = let clash : is_open Accepted ≡ false = ap is_open (sym same) ∙ shut in absurd cc

pub returns-in_err-tell_accepted-clause-apart : goal.returns-in_err-tell_accepted-clause-apart
returns-in_err-tell_accepted-clause-apart g c =
    subst (λ (old : Served). is_open old.connection.phase ≡ false
    → (linked_of c.tell_accepted.new.connection ≡ old.connection) × IsOk c.from_residual.result) c.self.view_is
    (λ shut. absurd (let never = c.in_err-tell_accepted.ensures.quiet (not_admitted c.self.inside.connection.phase shut) in cc))

pub returns-in_ok-tell_accepted-clause-apart : goal.returns-in_ok-tell_accepted-clause-apart
returns-in_ok-tell_accepted-clause-apart g c =
    subst (λ (old : Served). is_open old.connection.phase ≡ false
    → (linked_of c.tell_accepted.new.connection ≡ old.connection) × (true ≡ true)) c.self.view_is
    (λ shut. (ap linked_of (c.in_ok-tell_accepted.ensures.idle (not_admitted c.self.inside.connection.phase shut)), refl))
