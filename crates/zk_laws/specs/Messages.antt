-- What servers send and what clients send.
use Rattle.zk_conversation.specs.Questions.{Question}
use Rattle.zk_conversation.specs.Calls.{Call}
use Rattle.zk_watches.specs.Lists.{Lists}
use Rattle.std.specs.Prelude.{ℕ, ℤ, pos, negsuc, Bool}
use Rattle.zk_conversation.specs.Results.{Result}
use Rattle.zk_laws.specs.Server.{Notice}

-- What a server sends: the two answers to a ConnectRequest, the reply to a question with its zxid, the reply to a
-- setWatches request, a notice, the reply to a ping.
pub data Message : Type 0 where
  Accepted Expired Pong : Message
  Replies : Question → ℕ → Result → Message
  Watches_set : (is_last : Bool) → ℕ → Message
  Notifies : Notice → Message

-- What a client sends: the ConnectRequest with the last seen zxid, a setWatches request with its relative zxid, a call, a ping.
pub data Request : Type 0 where
  Connect : ℕ → Request
  Restore : (is_last : Bool) → ℕ → Lists → Request
  Ask : Call → Request
  Ping : Request

-- a zxid, where one below 0 counts as 0
abbrev pub from_zero : ℤ → ℕ
from_zero (pos n) = n
from_zero (negsuc n) = 0
