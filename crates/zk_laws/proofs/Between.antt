-- An invariant between a client made of messages and its servers, whatever it says, and that each step keeps it: so what follows of bytes
-- and requests is proved once, of the runs of the model and of servers that keep to it at some paths alone.
use Rattle.std.specs.Prelude.{ℕ, ℤ, pos, ◌≡◌, ◌≢◌, ◌≤◌, ◌⊎◌, Bool, true, false, List, [], ◌∷◌, ◌++◌, map, length}
use Rattle.zk_nodes.specs.History.{History}
use Rattle.zk_conversation.specs.Calls.{Call}
use Rattle.zk_conversation.specs.Questions.{Question}
use Rattle.zk_conversation.specs.Results.{Result, Refused}
use Rattle.zk_watches.specs.Lists.{Lists}
use Rattle.zk_turns.specs.Turns.{IsAskable}
use Rattle.zk_laws.specs.Server.{Notice, HasCode, no_watches, zxid_held}
use Rattle.zk_laws.specs.Messages.{Message, Accepted, Expired, Replies, Notifies, Request, Connect, Restore, Ask, Ping, from_zero}
use Rattle.zk_laws.specs.ServerSteps.{Waiting, Serving, Ended, ServerEnd, ServerStep, Advances, Admits, Refuses, Answers, Restores, Pongs}
use Rattle.zk_laws.specs.ServerSteps.{IsNext, messages_by, end_after}
use Rattle.zk_laws.proofs.Log.{Item, Starts, Opened, Lost, Halted, Forgets, Took, last, AreParts}
use Rattle.zk_laws.proofs.Steps.{is_behind, ends, restores, left_over}

-- What holds of the client's items (`right`), and of an open connection beside them, by whether the client talks (`kept`). The results
-- that a server gives to a call with a zxid, which replies may follow these items, and which steps a server may take. Whether servers
-- depart: refuse a call with the zxid 0 or one below, or a part of setWatches.
pub record Invariant : Type 1 where
  pub right : List Item → Type 0
  pub kept : Bool → List Item → List Request → List Message → ServerEnd → Type 0
  pub gives : Call → ℕ → Result → Type 0
  pub follows : List Item → ℕ → Type 0
  pub may : ServerStep → ServerEnd → List Request → Type 0
  pub departs : Type 0

-- a call is refused, with the zxid 0 or one below
abbrev pub IsLow : ℤ → Result → Type 0
IsLow zxid (Refused code) = from_zero zxid ≡ 0
IsLow zxid _ = ⊥

-- which message may be first, before the acceptance is taken
abbrev pub MayBeFirst : Message → List Message → List Request → Type 0
MayBeFirst Accepted ms rs = ((ns : List Notice) × (ms ≡ map Notifies ns)) × (rs ≡ [])
MayBeFirst Expired ms rs = Unit {0}
MayBeFirst _ ms rs = ⊥

-- what a step of a server wants of where it stands
abbrev pub Allows : History → Invariant → ServerStep → ServerEnd → List Request → Type 0
Allows h v (Advances sent) server requests = server.stage ≢ Ended
Allows h v (Admits seen) server requests = (server.stage ≡ Waiting) × IsNext (Connect seen) requests
Allows h v (Refuses seen) server requests = (server.stage ≡ Waiting) × IsNext (Connect seen) requests
Allows h v (Answers call result) server requests =
    (server.stage ≡ Serving) × IsNext (Ask call) requests × v.gives call (zxid_held h server.place) result
Allows h v (Restores is_last relative part sent) server requests =
    (server.stage ≡ Serving) × IsNext (Restore is_last relative part) requests
Allows h v Pongs server requests = (server.stage ≡ Serving) × IsNext Ping requests

-- Each step keeps it.
pub record IsInvariant (h : History) (saved : ℕ) (v : Invariant) : Type 0 where
  pub first : v.right (Starts saved ∷ [])
  pub up : (b : Bool) (log : List Item) (rs : List Request) (ms : List Message) (server : ServerEnd)
      → v.kept b log rs ms server → v.right log
  pub opens : (log : List Item) (place : ℕ) → place ≤ length h.transactions → v.right log
      → v.kept false (Opened ∷ log) (Connect (last log) ∷ []) [] (record { place = place; watches = no_watches; stage = Waiting })
  pub loses : (log : List Item) → v.right log → v.right (Lost ∷ log)
  pub halts : (log : List Item) → v.right log → v.right (Halted ∷ log)
  pub forgets : (log : List Item) → v.right log → v.right (Forgets ∷ log)
  pub forgets_up : (b : Bool) (log : List Item) (rs : List Request) (ms : List Message) (server : ServerEnd)
      → v.kept b log rs ms server → v.kept b (Forgets ∷ log) rs ms server
  pub asks : (log : List Item) (rs : List Request) (ms : List Message) (server : ServerEnd) (call : Call)
      → IsAskable call → v.kept true log rs ms server → v.kept true log (rs ++ Ask call ∷ []) ms server
  pub pings : (log : List Item) (rs : List Request) (ms : List Message) (server : ServerEnd)
      → v.kept true log rs ms server → v.kept true log (rs ++ Ping ∷ []) ms server
  pub first_is : (log : List Item) (rs : List Request) (m : Message) (ms : List Message) (server : ServerEnd)
      → v.kept false log rs (m ∷ ms) server → MayBeFirst m ms rs
  pub joins : (log : List Item) (rs : List Request) (ms : List Message) (server : ServerEnd) (parts : List Lists)
      → AreParts log parts → v.kept false log rs (Accepted ∷ ms) server
      → v.kept true (Took Accepted ∷ log) (rs ++ restores (last log) parts) ms server
  pub expires : (log : List Item) (rs : List Request) (ms : List Message) (server : ServerEnd)
      → v.kept false log rs (Expired ∷ ms) server → v.right (Took Expired ∷ log)
  pub takes : (log : List Item) (rs : List Request) (m : Message) (ms : List Message) (server : ServerEnd)
      → is_behind log m ≡ false → ends m ≡ false → v.kept true log rs (m ∷ ms) server → v.kept true (Took m ∷ log) rs ms server
  pub closes : (log : List Item) (rs : List Request) (m : Message) (ms : List Message) (server : ServerEnd)
      → is_behind log m ≡ false → ends m ≡ true → v.kept true log rs (m ∷ ms) server → v.right (Took m ∷ log)
  pub replies : (log : List Item) (rs : List Request) (q : Question) (z : ℕ) (r : Result) (ms : List Message) (server : ServerEnd)
      → v.kept true log rs (Replies q z r ∷ ms) server
      → (is_behind log (Replies q z r) ≡ false) × (v.follows log z ⊎ (v.departs × IsLow (pos z) r))
  pub coded : (call : Call) (z : ℕ) (r : Result) → v.gives call z r → HasCode r
  pub waits : (log : List Item) (rs : List Request) (ms : List Message) (server : ServerEnd)
      → v.kept true log rs ms server → server.stage ≢ Waiting
  pub unended : v.departs → (log : List Item) (rs : List Request) (server : ServerEnd) → server.stage ≡ Ended
      → v.kept false log rs [] server → ⊥
  pub allows : (step : ServerStep) (server : ServerEnd) (rs : List Request) → v.may step server rs → Allows h v step server rs
  pub serves : (step : ServerStep) (b : Bool) (log : List Item) (rs : List Request) (ms : List Message) (server : ServerEnd)
      → v.may step server rs → v.kept b log rs ms server
      → v.kept b log (left_over step rs) (ms ++ messages_by h step server.place) (end_after h step server)
