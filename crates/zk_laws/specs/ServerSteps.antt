-- The steps of a server on a connection: when it may take each, what it sends, and where it stands then.
use Rattle.std.specs.Prelude.{ℕ, suc, ◌≡◌, ◌≢◌, ◌<◌, ◌≤◌, Bool, if◌then◌else◌, List, [], ◌∷◌, ◌++◌, map, length, Some, None, slice_get}
use Rattle.zk_nodes.specs.History.{Change, History}
use Rattle.zk_watches.specs.Lists.{Lists}
use Rattle.zk_conversation.specs.Pending.{closes}
use Rattle.zk_conversation.specs.Questions.{question_of}
use Rattle.zk_conversation.specs.Calls.{Call}
use Rattle.zk_conversation.specs.Results.{Result}
use Rattle.zk_laws.specs.Server.{Notice, Watches, fires_all, leaves_set_all, AreSent, sets, tree_held, zxid_held, Gives, part_tells}
use Rattle.zk_laws.specs.Server.{part_sets, both}
use Rattle.zk_laws.specs.Messages.{Message, Request, Accepted, Expired, Replies, Watches_set, Notifies, Pong, Connect, Restore, Ask, Ping}

-- how far a server is on a connection: it has no request processed, or serves, or has given its last message
pub data Stage : Type 0 where
  Waiting Serving Ended : Stage

-- the server's end of a connection: how many transactions it holds, the watches that are set there, its stage
pub record ServerEnd : Type 0 where
  pub place : ℕ
  pub watches : Watches
  pub stage : Stage

-- The server goes on to the next transaction, sending notices, or processes the next request: it admits or refuses the client,
-- answers a question, sets watches again, or answers a ping.
pub data ServerStep : Type 0 where
  Advances : List Notice → ServerStep
  Admits Refuses : ℕ → ServerStep
  Answers : Call → Result → ServerStep
  Restores : (is_last : Bool) → ℕ → Lists → List Notice → ServerStep
  Pongs : ServerStep

-- x is the first of the list
abbrev pub IsNext : {A : Type 0} → A → List A → Type 0
IsNext x [] = ⊥
IsNext x (y ∷ ys) = x ≡ y

-- the changes of the transaction after the first place ones
abbrev pub changes_next : History → ℕ → List Change
changes_next h place = elim (slice_get h.transactions place) [ None ↦ [] | Some one ↦ one.changes ]

-- The steps that may be taken, with these requests to process (Guide, "ZooKeeper Sessions", "ZooKeeper Watches"; requests are
-- processed in the order sent, and a server whose zxid is below that of the ConnectRequest gives no answer).
abbrev pub MayDo : History → ServerStep → ServerEnd → List Request → Type 0
MayDo h (Advances sent) server requests = (server.stage ≢ Ended) × (server.place < length h.transactions)
    × AreSent (fires_all (changes_next h server.place) server.watches) sent
MayDo h (Admits seen) server requests = (server.stage ≡ Waiting) × IsNext (Connect seen) requests × (seen ≤ zxid_held h server.place)
MayDo h (Refuses seen) server requests = (server.stage ≡ Waiting) × IsNext (Connect seen) requests × (seen ≤ zxid_held h server.place)
MayDo h (Answers call result) server requests = (server.stage ≡ Serving) × IsNext (Ask call) requests × Gives h server.place call result
MayDo h (Restores is_last relative part sent) server requests =
    (server.stage ≡ Serving)
    × IsNext (Restore is_last relative part) requests × AreSent (part_tells relative (tree_held h server.place) part) sent
MayDo h Pongs server requests = (server.stage ≡ Serving) × IsNext Ping requests

-- what a server at that place sends by the step
abbrev pub messages_by : History → ServerStep → (place : ℕ) → List Message
messages_by h (Advances sent) place = map Notifies sent
messages_by h (Admits seen) place = Accepted ∷ []
messages_by h (Refuses seen) place = Expired ∷ []
messages_by h (Answers call result) place = Replies (question_of call) (zxid_held h place) result ∷ []
messages_by h (Restores is_last relative part sent) place = map Notifies sent ++ Watches_set is_last (zxid_held h place) ∷ []
messages_by h Pongs place = Pong ∷ []

-- where it stands after the step
abbrev pub end_after : History → ServerStep → ServerEnd → ServerEnd
end_after h (Advances sent) server =
    record server { place = suc server.place; watches = leaves_set_all (changes_next h server.place) server.watches }
end_after h (Admits seen) server = record server { stage = Serving }
end_after h (Refuses seen) server = record server { stage = Ended }
end_after h (Answers call result) server = record server
    { watches = both server.watches (sets (question_of call) result); stage = if closes (question_of call) then Ended else Serving }
end_after h (Restores is_last relative part sent) server =
    record server { watches = both server.watches (part_sets relative (tree_held h server.place) part) }
end_after h Pongs server = server
