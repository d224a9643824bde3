-- The client made of messages, on one connection with a server: what may happen there, and what it makes of both. The proofs run
-- this client beside the one of bytes.
use Rattle.zk_conversation.specs.Pending.{closes}
use Rattle.zk_conversation.specs.Calls.{Call}
use Rattle.zk_nodes.specs.History.{History}
use Rattle.zk_watches.specs.Lists.{Lists}
use Rattle.std.specs.Prelude.{ℕ, ◌≡◌, nat_lt, Bool, true, false, ◌&&◌, if◌then◌else◌, List, [], ◌∷◌, ◌++◌, is_some, IsTrue, ◌⊎◌}
use Rattle.zk_laws.specs.Server.{Watches}
use Rattle.zk_turns.specs.Turns.{IsAskable}
use Rattle.zk_laws.specs.Messages.{Message, Request, Accepted, Expired, Replies, Restore, Ask, Ping}
use Rattle.zk_laws.specs.ServerSteps.{Stage, ServerEnd, ServerStep, Advances, IsNext, MayDo, messages_by, end_after}
use Rattle.zk_laws.proofs.Log.{Item, last, AreParts, Lost, Took, left_by}

-- the requests that carry the parts
abbrev pub restores : ℕ → List Lists → List Request
restores relative [] = []
restores relative (part ∷ []) = Restore true relative part ∷ []
restores relative (part ∷ next ∷ parts) = Restore false relative part ∷ restores relative (next ∷ parts)

-- requests and messages in flight, the first sent first; the server's place, watches and stage; whether the client took
-- the acceptance
pub record Connection : Type 0 where
  pub requests : List Request
  pub messages : List Message
  pub place : ℕ
  pub watches : Watches
  pub stage : Stage
  pub talking : Bool

-- there is one connection at a time, or none
pub data Link : Type 0 where
  Down : Link
  Up : Connection → Link

-- the client's list and its connection
pub record World : Type 0 where
  pub log : List Item
  pub link : Link

-- One thing that may happen on a connection. The client asks, pings, takes the acceptance and at once sends the parts, or
-- takes the next message; or the server takes a step.
pub data Step : Type 0 where
  Asks : Call → Step
  Pings : Step
  Joins : List Lists → Step
  Takes : Message → Step
  By_server : ServerStep → Step

-- all but the first
abbrev pub rest_of : {A : Type 0} → List A → List A
rest_of [] = []
rest_of (x ∷ xs) = xs

-- a reply to a watched read that leaves a watch, with a zxid below the last seen one
abbrev pub is_behind : List Item → Message → Bool
is_behind log (Replies question zxid result) = is_some (left_by question result) && nat_lt zxid (last log)
is_behind _ _ = false

-- the message is the last that a client takes on a connection: an expiry, or the reply to a close
abbrev pub ends : Message → Bool
ends Expired = true
ends (Replies question zxid result) = closes question
ends _ = false

-- the server's end of the connection
abbrev pub end_of : Connection → ServerEnd
end_of c = record { place = c.place; watches = c.watches; stage = c.stage }

-- what is left to be processed: each step of a server but the next transaction processes a request
abbrev pub left_over : ServerStep → List Request → List Request
left_over (Advances sent) requests = requests
left_over _ requests = rest_of requests

-- the connection after a step of the server
abbrev pub served : History → ServerStep → Connection → Connection
served h step c = record {
  requests = left_over step c.requests;
  messages = c.messages ++ messages_by h step c.place;
  place = (end_after h step (end_of c)).place;
  watches = (end_after h step (end_of c)).watches;
  stage = (end_after h step (end_of c)).stage;
  talking = c.talking;
}

-- the steps that may be taken
abbrev pub MayStep : History → Step → Connection → List Item → Type 0
MayStep h (Asks call) c log = IsTrue c.talking × IsAskable call
MayStep h Pings c log = IsTrue c.talking
MayStep h (Joins parts) c log = (c.talking ≡ false) × IsNext Accepted c.messages × AreParts log parts
MayStep h (Takes message) c log = IsNext message c.messages × ((c.talking ≡ true) ⊎ (message ≡ Expired))
MayStep h (By_server step) c log = MayDo h step (end_of c) c.requests

-- The world after a step.
abbrev pub stepped : History → Step → Connection → List Item → World
stepped h (Asks call) c log = record { log = log; link = Up (record c { requests = c.requests ++ Ask call ∷ [] }) }
stepped h Pings c log = record { log = log; link = Up (record c { requests = c.requests ++ Ping ∷ [] }) }
stepped h (Joins parts) c log = record {
  log = Took Accepted ∷ log;
  link = Up (record c { requests = c.requests ++ restores (last log) parts; messages = rest_of c.messages; talking = true });
}
stepped h (Takes message) c log =
    if is_behind log message
    then record { log = Lost ∷ log; link = Down }
    else record { log = Took message ∷ log; link = if ends message then Down else Up (record c { messages = rest_of c.messages }) }
stepped h (By_server step) c log = record { log = log; link = Up (served h step c) }
