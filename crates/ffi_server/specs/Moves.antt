-- What becomes of a server in memory, by what is answered.
use Rattle.std.specs.Prelude.{⊤, ◌≡◌, ◌≤◌, ◌<◌, ◌+◌, ◌++◌, ℕ, suc, ℤ, pos, Bool, true, false, Result, Ok, Err}
use Rattle.std.specs.Prelude.{List, [], ◌∷◌, drop, take, length, slice_get, Option, Some}
use Rattle.zk_nodes.specs.History.{Change, Transaction, newest}
use Rattle.zk_history.specs.HistoryView.{HistoryView, empty_kept}
use Rattle.zk_conversation.specs.declared.raw.RawOperation.{RawOperation}
use Rattle.zk_conversation.specs.Calls.{Raw}
use Rattle.zk_laws.specs.Messages.{Ask, Request as Wanted}
use Rattle.theory_serving.specs.Wires.{IsFor, StandsFirst}
use Rattle.zk_bench.specs.declared.phase.Phase.TheVariants.{Accepted, Apart}
use Rattle.zk_bench.specs.Answerable.{IsAnswerable}
use Rattle.zk_bench.specs.Front.{IsShort, IsWhole}
use Rattle.zk_bench.specs.Served.{Served, Continues, started, linked, connected, disconnected, ended, is_open, advanced, with_requests}
use Rattle.zk_bench.specs.Served.{left_with, without_output}
use Rattle.zk_bench.specs.Stepping.{IsReady, AnswersFirst, ProcessesFirst, TakesSome, shown_of}
use Rattle.zk_bench.specs.Writing.{appended}
use Rattle.ffi_server.specs.Changes.{change_told}
use Rattle.ffi_server.specs.Refused.{IsNext, RefusesChange, RefusesNext, RefusesServer}
use Rattle.ffi_server.specs.declared.undone.Undone.{Undone}
use Rattle.ffi_server.specs.declared.undone.Undone.TheVariants.{Nothing, Memory}

-- what was done, or why it was not
abbrev pub Done : Type 0
Done = Result ⊤ Undone

-- a server of a session, over a history with the root alone
abbrev pub begun : (session : ℤ) → Served
begun session = record (started empty_kept) { session = session }

-- at this time
abbrev pub timed : (now : ℕ) → Served → Served
timed now served = record served { time = now }

-- whoever was ready stays so
abbrev pub StaysReady : Served → Served → Type 0
StaysReady before after = IsReady before → IsReady after

-- Memory ran out: the history goes on, maybe by a transaction without a change, and nothing else changes but the time.
pub record RanOut (before after : Served) : Type 0 where
  pub goes_on : Continues before.history after.history
  pub rest : after ≡ record before { history = after.history; time = after.time }

-- ---- what other sessions do

-- A change stands at the end of the history, as a transaction of its own.
pub record Changed (now : ℕ) (told : Option Change) (before after : Served) : Type 0 where
  pub change : Change
  pub is : told ≡ Some change
  pub follows : IsNext now change before.history
  pub appends : after ≡ record (timed now before) { history = appended before.history now change }

-- The change is made; or memory ran out; or nothing happened, for a reason.
abbrev pub Changes : (now : ℕ) (kind owner : ℤ) (path content : List ℕ) → (before : Served) → Done → (after : Served) → Type 0
Changes now kind owner path content before (Ok done) after = Changed now (change_told kind owner path content) before after
Changes now kind owner path content before (Err Memory) after = RanOut before after
Changes now kind owner path content before (Err why) after =
    RefusesChange now kind owner path content before.history why × (after ≡ before)

-- The next transaction that another server has, by the zxid of the last one that this one has.
abbrev pub next_of : (other mine : HistoryView) → Option Transaction
next_of other mine = slice_get other.transactions (newest 0 mine.transactions)

-- A server has learned a transaction of one change.
pub record Learned (next : Option Transaction) (before after : Served) : Type 0 where
  pub one : Transaction
  pub is : next ≡ Some one
  pub change : Change
  pub alone : one.changes ≡ change ∷ []
  pub time : ℕ
  pub moment : one.time ≡ pos time
  pub follows : IsNext time change before.history
  pub appends : after ≡ record (timed time before) { history = appended before.history time change }

abbrev pub Learns : (other : Served) → (before : Served) → Done → (after : Served) → Type 0
Learns other before (Ok done) after = Learned (next_of other.history before.history) before after
Learns other before (Err Memory) after = RanOut before after
Learns other before (Err why) after = RefusesNext (next_of other.history before.history) before.history why × (after ≡ before)

-- ---- the connection

-- A server of 1 to 8 does this.
pub record At (number : ℤ) (Does : (at : ℕ) → Type 0) : Type 0 where
  pub at : ℕ
  pub is : number ≡ pos (suc at)
  pub high : suc at ≤ 8
  pub does : Does at

-- A new connection to a server.
abbrev pub Connects : (number : ℤ) → (before : Served) → Done → (after : Served) → Type 0
Connects number before (Ok done) after = At number (λ at. after ≡ connected before at)
Connects number before (Err why) after = RefusesServer number why × (after ≡ before)

-- The connection is gone.
abbrev pub Cuts : (before : Served) → Done → (after : Served) → Type 0
Cuts before (Ok done) after = after ≡ disconnected before
Cuts before (Err why) after = ⊥

-- Bytes of the client came in, or are lost if no server takes requests.
pub record Heard (bytes : List ℕ) (before after : Served) : Type 0 where
  pub heard : is_open before.connection.phase ≡ true → after ≡ with_requests before bytes
  pub lost : is_open before.connection.phase ≡ false → after ≡ before

abbrev pub Hears : (bytes : List ℕ) → (before : Served) → Done → (after : Served) → Type 0
Hears bytes before (Ok done) after = Heard bytes before after
Hears bytes before (Err why) after = (why ≡ Memory) × (after ≡ before)

-- Bytes of the server went out, as many as there was room for, in their order.
pub record Said (room written : List ℕ) (count : ℕ) (before after : Served) : Type 0 where
  pub bytes : written ≡ take (length room) before.connection.output ++ drop count room
  pub count_is : count ≡ length (take (length room) before.connection.output)
  pub rest : after ≡ without_output before (length room)

-- A server has the connection; or none has it, and there is nothing to wait for; or memory ran out, and all stays.
abbrev pub Says : (room written : List ℕ) (count : ℕ) → (before : Served) → Done → (after : Served) → Type 0
Says room written count before (Ok done) after = Said room written count before after × (is_open before.connection.phase ≡ true)
Says room written count before (Err Nothing) after = Said room written count before after × (is_open before.connection.phase ≡ false)
Says room written count before (Err why) after = (why ≡ Memory) × (written ≡ room) × (count ≡ 0) × (after ≡ before)

-- ---- moves of a server

-- The connected server has processed the request that stood first, as a server of the laws does, and answered it if it has an answer.
-- At a call that its caller has spelled it has ended the connection, and sent nothing.
pub record Processed (before after : Served) : Type 0 where
  pub ready : StaysReady before after
  pub serves : (request : Wanted) (xid : ℤ) (payload rest : List ℕ) → IsReady before → is_open before.connection.phase ≡ true
      → StandsFirst request xid payload rest before.connection.requests → IsFor request (shown_of before).server.stage
      → ProcessesFirst request xid payload (shown_of before) (shown_of after)
  pub answers : (request : Wanted) (xid : ℤ) (payload rest : List ℕ) → IsReady before → is_open before.connection.phase ≡ true
      → StandsFirst request xid payload rest before.connection.requests → IsFor request (shown_of before).server.stage
      → IsAnswerable request before → AnswersFirst request xid (shown_of before) (shown_of after)
  pub ends_first : (operation : RawOperation) (given : List ℕ) (xid : ℤ) (payload rest : List ℕ) → before.connection.phase ≡ Accepted
      → StandsFirst (Ask (Raw operation given)) xid payload rest before.connection.requests → after ≡ ended (left_with before rest)
  pub takes : (count : ℕ) → is_open before.connection.phase ≡ true → IsWhole before.connection.requests count
      → after.connection.requests ≡ drop (4 + count) before.connection.requests
  pub idle : is_open before.connection.phase ≡ false → after ≡ before
  pub waits : IsShort before.connection.requests → after ≡ before
  pub history : Continues before.history after.history
  pub rest : after ≡ record before { history = after.history; taken = after.taken; connection = after.connection }

-- Memory ran out: the connection is gone.
pub record GaveUp (before after : Served) : Type 0 where
  pub gone : after.connection ≡ linked Apart
  pub ready : StaysReady before after
  pub history : Continues before.history after.history
  pub rest : after ≡ record before { history = after.history; taken = after.taken; connection = after.connection }

-- Bytes of a request were taken; or `Nothing` says that none were.
abbrev pub Processes : (now : ℕ) → (before : Served) → Done → (after : Served) → Type 0
Processes now before (Ok done) after =
    Processed (timed now before) after × (length after.connection.requests < length before.connection.requests)
Processes now before (Err Nothing) after =
    Processed (timed now before) after × (length before.connection.requests ≤ length after.connection.requests)
Processes now before (Err why) after = (why ≡ Memory) × GaveUp (timed now before) after

-- A server takes the next transaction, if there is one; the connected one sends the notices of the watches that fire.
pub record Took (before after : Served) (at : ℕ) : Type 0 where
  pub taken : after.taken ≡ advanced before at
  pub elsewhere : (at ≡ before.server → ⊥) → after.connection ≡ before.connection
  pub advances : IsReady before → at ≡ before.server → is_open before.connection.phase ≡ true
      → TakesSome (shown_of before) (shown_of after)
  pub apart : is_open before.connection.phase ≡ false → after.connection ≡ before.connection
  pub ready : StaysReady before after
  pub rest : after ≡ record before { taken = after.taken; connection = after.connection }

abbrev pub Takes : (number : ℤ) → (before : Served) → Done → (after : Served) → Type 0
Takes number before (Ok done) after = At number (Took before after)
Takes number before (Err Memory) after = GaveUp before after
Takes number before (Err why) after = RefusesServer number why × (after ≡ before)

-- From now on clients are told that the session has expired, or are admitted again.
abbrev pub Expires : (is_expired : Bool) → (before : Served) → Done → (after : Served) → Type 0
Expires is_expired before (Ok done) after = after ≡ record before { expired = is_expired }
Expires is_expired before (Err why) after = ⊥
