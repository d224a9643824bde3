-- What servers in memory do, as acts: each clause of `Bench` is a step that the servers of a connection may take.
use Rattle.std.proofs.Common.{◌≡◌, inl, inr, true, false, [], ap, append-nil, refl, sym}
use Rattle.std.specs.Prelude.{slice_index}
use Rattle.std.proofs.lemmas.List.{take-append-drop}
use Rattle.theory_serving.specs.Shown.{more_requests, Open}
use Rattle.theory_serving.specs.Shown as shows
use Rattle.theory_serving.proofs.Later.{taken_at}
use Rattle.zk_history.specs.HistoryView.{history_of}
use Rattle.zk_laws.specs.ServerSteps.{Waiting}
use Rattle.zk_laws.specs.Server.{Watches}
use Rattle.zk_bench.specs.declared.phase.Phase.{Phase}
use Rattle.zk_bench.specs.declared.phase.Phase.TheVariants.{Accepted, Apart, Ended, Opening}
use Rattle.zk_bench.specs.Served.{is_open}
use Rattle.zk_bench.specs.Stepping.{phase_of, shown_of}
use Rattle.theory_drivers.specs.Benches.{BenchAdvances, BenchConnects, BenchEnds, BenchGives, BenchProcesses, BenchTakes}

open_phase : (phase : Phase) → is_open phase ≡ true → phase_of phase ≡ shows.Open
open_phase Apart up = let e : false ≡ true = up in cc
open_phase Opening up = refl
open_phase Accepted up = refl
open_phase Ended up = let e : false ≡ true = up in cc

pub bench_connects : BenchConnects
bench_connects served server ready then_ready = (
  slice_index served.taken server,
  taken_at (history_of served.history) served.taken server ready.taken,
  ap (λ (w : Watches). begun_with w) (then_ready.unwatched refl),
)
  where
    begun_with : Watches → shows.Shown
    begun_with watches = record {
      history = history_of served.history;
      server = record { place = slice_index served.taken server; watches = watches; stage = Waiting };
      phase = shows.Open;
      requests = [];
      output = [];
    }

pub bench_takes : BenchTakes
bench_takes served bytes up =
    ap (λ requests. record (shown_of served) { requests = requests })
    (sym (ap (λ phase. more_requests phase served.connection.requests bytes) (open_phase served.connection.phase up)))

pub bench_gives : BenchGives
bench_gives served most = (sym (take-append-drop most served.connection.output), refl)

pub bench_advances : BenchAdvances
bench_advances old new up takes = inl (open_phase old.connection.phase up, (takes.steps, takes.takes))

pub bench_processes : BenchProcesses
bench_processes old new payload rest up whole small history goes_on does =
    inr (inl (record {
      history = history;
      goes_on = goes_on;
      up = open_phase old.connection.phase up;
      payload = payload;
      rest = rest;
      whole = whole;
      small = small;
      does = λ request xid first behind stands is. let done = does request xid first behind stands is in (done.steps, done.processes);
    }))

pub bench_ends : BenchEnds
bench_ends served =
    inr (inr (record { goes_on = record { first = refl; more = []; transactions = sym (append-nil _) }; over = refl; output = refl }))
