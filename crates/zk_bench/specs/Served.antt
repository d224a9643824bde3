-- What there is to see of a bench: servers over one history, and the connection to one of them.
use Rattle.std.specs.Prelude.{ℕ, ℤ, pos, ◌+◌, ◌≡◌, Bool, true, false, List, [], ◌∷◌, ◌++◌, drop, slice_index, slice_set, Option, None, Some}
use Rattle.std.specs.Prelude.{slice_get}
use Rattle.zk_history.specs.HistoryView.{HistoryView}
use Rattle.zk_nodes.specs.Path.{Text}
use Rattle.zk_nodes.specs.History.{Transaction}
use Rattle.zk_bench.specs.declared.phase.Phase.{Phase}
use Rattle.zk_bench.specs.declared.phase.Phase.TheVariants.{Apart, Opening, Accepted, Ended}

-- The connection: how far it is, the watches that the server holds on both sides, and the bytes on their way to the
-- server and to the client.
pub record Linked : Type 0 where
  pub phase : Phase
  pub data_watches : List Text
  pub child_watches : List Text
  pub requests : List ℕ
  pub output : List ℕ

-- how many transactions each server has taken, the server that is connected, whether the session has expired, the time, and the number of
-- the session
pub record Served : Type 0 where
  pub history : HistoryView
  pub taken : List ℕ
  pub server : ℕ
  pub connection : Linked
  pub expired : Bool
  pub time : ℕ
  pub session : ℤ

-- a connection with no watch and no bytes
abbrev pub linked : Phase → Linked
linked phase = record { phase = phase; data_watches = []; child_watches = []; requests = []; output = [] }

-- the servers before the first transaction of a history
abbrev pub started : HistoryView → Served
started history = record {
  history = history;
  taken = 0 ∷ 0 ∷ 0 ∷ 0 ∷ 0 ∷ 0 ∷ 0 ∷ 0 ∷ [];
  server = 0;
  connection = linked Apart;
  expired = false;
  time = 0;
  session = pos 1;
}

-- a new connection to a server, counted from 0
abbrev pub connected : Served → ℕ → Served
connected served server = record served { server = server; connection = linked Opening }

-- no connection
abbrev pub disconnected : Served → Served
disconnected served = record served { connection = linked Apart }

-- whether the server takes requests
abbrev pub is_open : Phase → Bool
is_open Apart = false
is_open Opening = true
is_open Accepted = true
is_open Ended = false

-- bytes more for the server
abbrev pub with_requests : Served → List ℕ → Served
with_requests served bytes = record served { connection = record served.connection { requests = served.connection.requests ++ bytes } }

-- these bytes alone are left for the server
abbrev pub left_with : Served → List ℕ → Served
left_with served requests = record served { connection = record served.connection { requests = requests } }

-- the first bytes are taken out
abbrev pub without_output : Served → ℕ → Served
without_output served count = record served { connection = record served.connection { output = drop count served.connection.output } }

-- the server ends the connection
abbrev pub ended : Served → Served
ended served = record served { connection = record served.connection { phase = Ended } }

-- how many transactions each server has taken, after one of them took the next one, if there is one
abbrev pub advanced_by : Option Transaction → List ℕ → ℕ → List ℕ
advanced_by None taken server = taken
advanced_by (Some one) taken server = slice_set taken server (slice_index taken server + 1)

abbrev pub advanced : Served → ℕ → List ℕ
advanced served server = advanced_by (slice_get served.history.transactions (slice_index served.taken server)) served.taken server

-- The history goes on: the same first tree, and transactions after those that were there.
pub record Continues (old new : HistoryView) : Type 0 where
  pub nodes : new.nodes ≡ old.nodes
  pub more : List Transaction
  pub transactions : new.transactions ≡ old.transactions ++ more
