-- What servers in memory do is what befalls a connection, by the clauses of `Bench`.
use Rattle.std.specs.Prelude.{◌≡◌, ◌<◌, ◌≤◌, ◌^◌, ℕ, ℤ, true, List, ◌++◌, length, take}
use Rattle.zk_frames.specs.Frame.{frame}
use Rattle.zk_nodes.specs.History.{IsHistory}
use Rattle.zk_history.specs.HistoryView.{history_of}
use Rattle.zk_laws.specs.Messages.{Request}
use Rattle.theory_serving.specs.GoingOn.{GoesOn}
use Rattle.theory_serving.specs.Shown.{connected}
use Rattle.theory_serving.specs.Wires.{IsFor, StandsFirst}
use Rattle.zk_bench.specs.Served.{ended, is_open, with_requests, without_output, Served}
use Rattle.zk_bench.specs.Served as bench
use Rattle.zk_bench.specs.Stepping.{shown_of, IsReady, ProcessesFirst, TakesSome}
use Rattle.theory_drivers.specs.Acts.{Gives, Happens, Serves, Takes}

-- a connection begins, to a server that holds a beginning of the history (`is`, `ready` of `Bench::connect`)
abbrev pub BenchConnects : Type 0
BenchConnects =
    (served : Served) (server : ℕ) → IsReady served → IsReady (bench.connected served server)
    → (place : ℕ) × (place ≤ length (shown_of served).history.transactions)
    × (shown_of (bench.connected served server) ≡ connected place (shown_of served))

-- bytes come to the connected server (`ok` of `Bench::receive`)
abbrev pub BenchTakes : Type 0
BenchTakes = (served : Served) (bytes : List ℕ) → is_open served.connection.phase ≡ true
    → Happens (shown_of served) (Takes bytes) (shown_of (with_requests served bytes))

-- the first bytes that it sent are taken out (`bytes`, `rest` of `Bench::output`)
abbrev pub BenchGives : Type 0
BenchGives = (served : Served) (most : ℕ)
    → Happens (shown_of served) (Gives (take most served.connection.output)) (shown_of (without_output served most))

-- it takes a transaction (`advances` of `Bench::take`)
abbrev pub BenchAdvances : Type 0
BenchAdvances = (old new : Served) → is_open old.connection.phase ≡ true → TakesSome (shown_of old) (shown_of new)
    → Happens (shown_of old) Serves (shown_of new)

-- it processes the request whose frame stands first (`serves`, `history` of `Bench::process`)
abbrev pub BenchProcesses : Type 0
BenchProcesses =
    (old new : Served) (payload rest : List ℕ) → is_open old.connection.phase ≡ true → old.connection.requests ≡ frame payload ++ rest
    → length payload < 2 ^ 31
    → IsHistory (history_of old.history) → GoesOn (history_of old.history) (history_of new.history)
    → ((request : Request) (xid : ℤ) (payload rest : List ℕ) → StandsFirst request xid payload rest old.connection.requests
    → IsFor request (shown_of old).server.stage
    → ProcessesFirst request xid payload (shown_of old) (shown_of new))
    → Happens (shown_of old) Serves (shown_of new)

-- it ends the connection (`ends` of `Bench::process`)
abbrev pub BenchEnds : Type 0
BenchEnds = (served : Served) → Happens (shown_of served) Serves (shown_of (ended served))
