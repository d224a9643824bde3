-- What a server in memory shows, and what it does: servers over one history, and the connection to one of them.
use Rattle.std.specs.Prelude.{ℕ, ℤ, pos, ◌≡◌, ◌≢◌, ◌≤◌, false, List, [], ◌∷◌, ◌++◌, length}
use Rattle.std.specs.List.{All, AllByRecursion}
use Rattle.zk_frames.specs.Frame.{frame}
use Rattle.zk_nodes.specs.History.{History}
use Rattle.zk_turns.specs.Turns.{Output, Send, ends_connection}
use Rattle.zk_laws.specs.Messages.{Request}
use Rattle.theory_serving.specs.GoingOn.{GoesOn}
use Rattle.zk_laws.specs.ServerSteps.{ServerEnd}
use Rattle.zk_laws.specs.Served.{new_wire}
use Rattle.theory_serving.specs.Steps.{Step, Moves, ended_by, sent_by, processed_by}

-- how far the connection is: there is none, its server takes requests, its server has ended it
pub data Phase : Type 0 where
  Apart Open Over : Phase

-- The history; the connected server's end of the connection, and how far this is; the bytes of requests that came and are not
-- processed; the bytes that were sent and not received. Of the end and the requests nothing is meant but where the connection is open.
pub record Shown : Type 0 where
  pub history : History
  pub server : ServerEnd
  pub phase : Phase
  pub requests : List ℕ
  pub output : List ℕ

-- each server holds a beginning of the history: this many transactions
abbrev pub AllTaken : History → List ℕ → Type 0
AllTaken h taken = All (λ place. place ≤ length h.transactions) taken

-- a new connection to a server that holds this many transactions
abbrev pub connected : ℕ → Shown → Shown
connected place shown = record { history = shown.history; server = (new_wire place).server; phase = Open; requests = []; output = [] }

-- what is left once the first bytes are received
abbrev pub with_output : List ℕ → Shown → Shown
with_output output shown = record shown { output = output }

-- the bytes that these outputs of a client send
abbrev pub sent_in : List Output → List ℕ
sent_in [] = []
sent_in (Send bytes ∷ outputs) = bytes ++ sent_in outputs
sent_in (_ ∷ outputs) = sent_in outputs

-- with none of these outputs a connection is over
abbrev pub EndsNothing : List Output → Type 0
EndsNothing outputs = AllByRecursion (λ output. ends_connection output ≡ false) outputs

-- the bytes that were there, and where the connection is open those that came
abbrev pub more_requests : Phase → List ℕ → List ℕ → List ℕ
more_requests Open bytes came = bytes ++ came
more_requests _ bytes came = bytes

-- What the outputs of a client make of what is shown: the connected server gets what they send. Where one of them ends the
-- connection, nothing is meant but that the history stays.
pub record Hears (outputs : List Output) (old new : Shown) : Type 0 where
  pub history : new.history ≡ old.history
  pub gets : EndsNothing outputs → new ≡ record old { requests = more_requests old.phase old.requests (sent_in outputs) }

-- The connected server has gone on by these steps, with these requests to process, the first of which has this xid: over the
-- history as it is in the end. Where it has ended the connection then, the steps are those up to that.
pub record GoesBy (xid : ℤ) (asked : List Request) (steps : List Step) (old new : Shown) : Type 0 where
  pub history : GoesOn old.history new.history
  pub moves : Moves new.history xid asked steps old.server
  pub sent : new.output ≡ old.output ++ sent_by steps
  pub there : new.phase ≢ Apart
  pub ended : new.phase ≡ Open → new.server ≡ ended_by new.history steps old.server

-- It has gone on with no request to process: it has taken transactions.
pub record Takes (steps : List Step) (old new : Shown) : Type 0 where
  pub goes : GoesBy (pos 0) [] steps old new
  pub requests : new.phase ≡ Open → new.requests ≡ old.requests

-- It has processed the request whose frame stands first, unless it has ended the connection.
pub record Processes (request : Request) (xid : ℤ) (payload : List ℕ) (steps : List Step) (old new : Shown) : Type 0 where
  pub goes : GoesBy xid (request ∷ []) steps old new
  pub done : new.phase ≡ Open → processed_by steps ≡ 1
  pub requests : new.phase ≡ Open → old.requests ≡ frame payload ++ new.requests
