-- What a server in memory does on a connection, by the clauses of `Bench`.
use Rattle.std.specs.Prelude.{◌≡◌, ◌<◌, ◌^◌, ◌⊎◌, ℕ, ℤ, true, false, List, ◌++◌, length, take}
use Rattle.std.specs.List.{FoldsTo}
use Rattle.zk_frames.specs.Frame.{frame}
use Rattle.zk_nodes.specs.History.{IsHistory}
use Rattle.zk_history.specs.HistoryView.{history_of}
use Rattle.zk_laws.specs.Messages.{Request}
use Rattle.theory_serving.specs.GoingOn.{GoesOn}
use Rattle.theory_serving.specs.Wires.{IsFor, StandsFirst}
use Rattle.zk_bench.specs.declared.phase.Phase.TheVariants.{Ended}
use Rattle.zk_bench.specs.Served.{ended, is_open, with_requests, without_output, Served}
use Rattle.zk_bench.specs.Stepping.{shown_of, ProcessesFirst, TakesSome}
use Rattle.theory_drivers.specs.Acts.{given_in, taken_in, Act, Gives, Serves, Takes}

-- ---- what a bench does while a connection is there

-- the connected server takes transactions (`advances` of `Bench::take`)
pub record Advances (old new : Served) : Type 0 where
  pub up : is_open old.connection.phase ≡ true
  pub takes : TakesSome (shown_of old) (shown_of new)

-- it processes the request whose frame stands first (`serves`, `history` of `Bench::process`)
pub record ProcessesNext (old new : Served) : Type 0 where
  pub up : is_open old.connection.phase ≡ true
  pub payload : List ℕ
  pub rest : List ℕ
  pub whole : old.connection.requests ≡ frame payload ++ rest
  pub small : length payload < 2 ^ 31
  pub history : IsHistory (history_of old.history)
  pub goes_on : GoesOn (history_of old.history) (history_of new.history)
  pub does : (request : Request) (xid : ℤ) (payload rest : List ℕ)
      → StandsFirst request xid payload rest old.connection.requests → IsFor request (shown_of old).server.stage
      → ProcessesFirst request xid payload (shown_of old) (shown_of new)

-- it ends the connection (`ends` of `Bench::process`), or has ended it, and the history goes on
abbrev pub EndsHere : Served → Served → Type 0
EndsHere old new =
    (new ≡ ended old)
    ⊎ ((old.connection.phase ≡ Ended) × (new.connection ≡ old.connection) × GoesOn (history_of old.history) (history_of new.history))

-- Bytes come to it, and are lost if it has ended the connection (`ok`, `lost` of `Bench::receive`). The first bytes that it sent are
-- taken out (`bytes`, `rest` of `Bench::output`). Or it answers.
abbrev pub Answers : Served → Act → Served → Type 0
Answers old (Takes bytes) new =
    (is_open old.connection.phase ≡ true → new ≡ with_requests old bytes) × (is_open old.connection.phase ≡ false → new ≡ old)
Answers old (Gives bytes) new = (most : ℕ) × (bytes ≡ take most old.connection.output) × (new ≡ without_output old most)
Answers old Serves new = ProcessesNext old new ⊎ EndsHere old new

-- The same, or it takes transactions.
abbrev pub BenchDoes : Served → Act → Served → Type 0
BenchDoes old (Takes bytes) new = Answers old (Takes bytes) new
BenchDoes old (Gives bytes) new = Answers old (Gives bytes) new
BenchDoes old Serves new = Advances old new ⊎ Answers old Serves new

-- It does some of that, and its history stays. The stream takes these bytes, and gives those.
pub record GoesBy (Does : Served → Act → Served → Type 0) (old : Served) (took gave : List ℕ) (new : Served) : Type 0 where
  pub acts : List Act
  pub does : FoldsTo Does old acts new
  pub taken : taken_in acts ≡ took
  pub given : given_in acts ≡ gave
  pub history : new.history ≡ old.history
