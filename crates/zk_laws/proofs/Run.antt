-- A run of one client against servers, over many connections, message by message.
use Rattle.zk_nodes.specs.Path.{Text, path_of}
use Rattle.zk_nodes.specs.History.{History, view}
use Rattle.zk_nodes.specs.declared.side.Side.{Side}
use Rattle.std.specs.Prelude.{ℕ, ◌≡◌, ◌≤◌, false, List, [], ◌∷◌, length, Some, IsTrue, ⊤}
use Rattle.zk_laws.specs.Server.{no_watches, tree_held}
use Rattle.zk_laws.specs.Messages.{Message, Connect}
use Rattle.zk_laws.proofs.Log.{Item, last, good, Starts, Opened, Lost, Halted, Forgets, Answer, Suits}
use Rattle.zk_laws.proofs.Steps.{is_behind, Connection, Link, World, Step, MayStep, stepped, Down, Up}
use Rattle.zk_laws.specs.ServerSteps.{Waiting, IsNext}
use Rattle.zk_laws.specs.Laws.{AreRestored}

-- A client that starts from a saved zxid, or from 0.
abbrev pub start : ℕ → World
start saved = record { log = Starts saved ∷ []; link = Down }

-- What may happen in a world: a connection is opened to a server at any place, is lost with all that is in flight, at any
-- moment; the client halts; it is told to forget what is stale; or a step on the connection.
pub data Move : Type 0 where
  Opens : (place : ℕ) → Move
  Loses : Move
  Halts : Move
  Forgets_stale : Move
  Goes : Step → Move

-- steps need a connection
abbrev pub MayGo : History → Step → Link → List Item → Type 0
MayGo h step Down log = ⊥
MayGo h step (Up c) log = MayStep h step c log

-- the world after a step, where there is a connection
abbrev pub gone : History → Step → Link → List Item → World
gone h step Down log = record { log = log; link = Down }
gone h step (Up c) log = stepped h step c log

-- The moves that may come.
abbrev pub May : History → Move → World → Type 0
May h (Opens place) w = place ≤ length h.transactions
May h Loses w = ⊤
May h Halts w = ⊤
May h Forgets_stale w = ⊤
May h (Goes step) w = MayGo h step w.link w.log

-- a new connection: the ConnectRequest carries the last seen zxid
abbrev pub opened : ℕ → ℕ → Connection
opened seen place =
    record { requests = Connect seen ∷ []; messages = []; place = place; watches = no_watches; stage = Waiting; talking = false }

-- The world after a move.
abbrev pub moved : History → Move → World → World
moved h (Opens place) w = record { log = Opened ∷ w.log; link = Up (opened (last w.log) place) }
moved h Loses w = record { log = Lost ∷ w.log; link = Down }
moved h Halts w = record { log = Halted ∷ w.log; link = Down }
moved h Forgets_stale w = record { log = Forgets ∷ w.log; link = w.link }
moved h (Goes step) w = gone h step w.link w.log

-- A schedule is a list of moves, each of which may come where it stands.
abbrev pub IsSchedule : History → List Move → World → Type 0
IsSchedule h [] w = ⊤
IsSchedule h (move ∷ moves) w = May h move w × IsSchedule h moves (moved h move w)

-- The world after a schedule.
abbrev pub run : History → List Move → World → World
run h [] w = w
run h (move ∷ moves) w = run h moves (moved h move w)

-- What holds of each world that a schedule reaches

-- No message that comes next is behind the last seen zxid.
abbrev pub NoneBehind : World → Type 0
NoneBehind w = (c : Connection) (message : Message) → w.link ≡ Up c → IsNext message c.messages → is_behind w.log message ≡ false

-- Where the client talks, has taken all messages, and no setWatches request is under way, each good answer is what the
-- server would answer where it stands.
abbrev pub AgreesWhenQuiet : History → World → Type 0
AgreesWhenQuiet h w = (c : Connection) → w.link ≡ Up c → IsTrue c.talking → c.messages ≡ [] → AreRestored c.requests
    → (side : Side) (path : Text) (answer : Answer) → good side path w.log ≡ Some answer
    → Suits answer (view side (tree_held h c.place) (path_of path))
