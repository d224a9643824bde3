-- What befalls the servers of a connection: what its stream takes they have, and what it gives they had sent.
use Rattle.std.specs.Prelude.{◌≡◌, ◌<◌, ◌^◌, ◌⊎◌, ℤ, ℕ, List, [], ◌∷◌, ◌++◌, length}
use Rattle.zk_frames.specs.Frame.{frame}
use Rattle.zk_nodes.specs.History.{IsHistory}
use Rattle.zk_laws.specs.Messages.{Request}
use Rattle.theory_serving.specs.GoingOn.{GoesOn}
use Rattle.theory_serving.specs.Steps.{Step}
use Rattle.theory_serving.specs.Shown.{more_requests, Open, Over, Processes, Shown, Takes as TakesMore}
use Rattle.theory_serving.specs.Wires.{IsFor, StandsFirst}

-- ---- what the servers do

-- The connected server processes the request whose frame stands first, whatever request that is read as.
pub record ProcessesNext (old new : Shown) : Type 0 where
  pub history : IsHistory old.history
  pub goes_on : GoesOn old.history new.history
  pub up : old.phase ≡ Open
  pub payload : List ℕ
  pub rest : List ℕ
  pub whole : old.requests ≡ frame payload ++ rest
  pub small : length payload < 2 ^ 31
  pub does : (request : Request) (xid : ℤ) (payload rest : List ℕ)
      → StandsFirst request xid payload rest old.requests → IsFor request old.server.stage
      → (steps : List Step) × Processes request xid payload steps old new

-- It takes transactions, of which there may be more then.
abbrev pub TakesNext : Shown → Shown → Type 0
TakesNext old new = (old.phase ≡ Open) × ((steps : List Step) × TakesMore steps old new)

-- It ends the connection, or has ended it, and what it sent before is still on its way; other servers go on.
pub record EndsHere (old new : Shown) : Type 0 where
  pub goes_on : GoesOn old.history new.history
  pub over : new.phase ≡ Over
  pub output : new.output ≡ old.output

-- What befalls a connection: its stream takes bytes, or gives some; or the servers go on.
pub data Act : Type 0 where
  Takes Gives : List ℕ → Act
  Serves : Act

-- What a stream takes the connected server has then. What it gives this server had sent, and none of it is given before what was sent
-- earlier.
abbrev pub Happens : Shown → Act → Shown → Type 0
Happens old (Takes bytes) new = new ≡ record old { requests = more_requests old.phase old.requests bytes }
Happens old (Gives bytes) new = (old.output ≡ bytes ++ new.output) × (new ≡ record old { output = new.output })
Happens old Serves new = TakesNext old new ⊎ (ProcessesNext old new ⊎ EndsHere old new)

abbrev pub taken_in : List Act → List ℕ
taken_in [] = []
taken_in (Takes bytes ∷ acts) = bytes ++ taken_in acts
taken_in (_ ∷ acts) = taken_in acts

abbrev pub given_in : List Act → List ℕ
given_in [] = []
given_in (Gives bytes ∷ acts) = bytes ++ given_in acts
given_in (_ ∷ acts) = given_in acts
