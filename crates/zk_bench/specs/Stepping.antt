-- Steps of a server on a connection, and what a bench shows in the words of the laws.
use Rattle.std.specs.Prelude.{ℕ, ◌≡◌, ◌<◌, ℤ, List, [], ◌∷◌, length, slice_index}
use Rattle.zk_history.specs.HistoryView.{history_of}
use Rattle.zk_records.specs.declared.code.Code.TheVariants as codes
use Rattle.zk_laws.specs.Server.{Watches, no_watches, zxid_held}
use Rattle.zk_laws.specs.ServerSteps.{ServerEnd, Stage, Waiting, Serving, Ended as Silent}
use Rattle.theory_serving.specs.Steps.{Step, processed_by}
use Rattle.theory_serving.specs.Shown.{Shown, AllTaken, Takes, GoesBy, Processes}
use Rattle.zk_laws.specs.Messages.{Request}
use Rattle.theory_serving.specs.Shown.{Phase as Going}
use Rattle.theory_serving.specs.Shown as shows
use Rattle.zk_bench.specs.declared.phase.Phase.{Phase}
use Rattle.zk_bench.specs.declared.phase.Phase.TheVariants.{Apart, Opening, Accepted, Ended}
use Rattle.zk_bench.specs.Serving.{watches_of}
use Rattle.zk_bench.specs.Answering.{name_set}
use Rattle.zk_bench.specs.Served.{Served, Linked}
use Rattle.zk_bench.specs.declared.stop.Stop.TheVariants as stops
use Rattle.zk_bench.specs.declared.stop.Refusal.TheVariants as refusals

-- how far a server is
abbrev pub stage_of : Phase → Stage
stage_of Apart = Silent
stage_of Opening = Waiting
stage_of Accepted = Serving
stage_of Ended = Silent

-- the watches that are shown
abbrev pub shown_watches : Linked → Watches
shown_watches connection = watches_of (name_set connection.data_watches) (name_set connection.child_watches)

-- how far the connection is, as what happens to a client asks
abbrev pub phase_of : Phase → Going
phase_of Apart = shows.Apart
phase_of Opening = shows.Open
phase_of Accepted = shows.Open
phase_of Ended = shows.Over

-- the connected server's end
abbrev pub end_of : Served → ServerEnd
end_of served = record {
  place = slice_index served.taken served.server;
  watches = shown_watches served.connection;
  stage = stage_of served.connection.phase;
}

-- what a bench shows
abbrev pub shown_of : Served → Shown
shown_of served = record {
  history = history_of served.history;
  server = end_of served;
  phase = phase_of served.connection.phase;
  requests = served.connection.requests;
  output = served.connection.output;
}

-- Each server holds a beginning of the history, and on a connection whose client was not admitted nothing is watched.
pub record IsReady (served : Served) : Type 0 where
  pub taken : AllTaken (history_of served.history) served.taken
  pub there : served.server < length served.taken
  pub unwatched : served.connection.phase ≡ Opening → shown_watches served.connection ≡ no_watches

-- The connected server takes transactions.
pub record TakesSome (old new : Shown) : Type 0 where
  pub steps : List Step
  pub takes : Takes steps old new

-- It processes the request whose frame stands first, unless it ends the connection.
pub record ProcessesFirst (request : Request) (xid : ℤ) (payload : List ℕ) (old new : Shown) : Type 0 where
  pub steps : List Step
  pub processes : Processes request xid payload steps old new

-- It answers that request: it has processed it, also where it ends the connection then.
pub record AnswersFirst (request : Request) (xid : ℤ) (old new : Shown) : Type 0 where
  pub steps : List Step
  pub goes : GoesBy xid (request ∷ []) steps old new
  pub done : processed_by steps ≡ 1

-- its zxid
abbrev pub zxid_of : Served → ℕ
zxid_of served = zxid_held (history_of served.history) (slice_index served.taken served.server)
