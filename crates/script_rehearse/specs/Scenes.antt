-- What the lines after the one that makes the client make of it and of the servers, and what they print.
use Rattle.std.specs.Prelude.{◌≡◌, ◌≢◌, ◌-◌, ◌+◌, unsigned_abs, ℕ, ℤ, true, false, List, [], ◌∷◌, take, drop, Option, Some, None}
use Rattle.std.specs.FinSet as set
use Rattle.zk_frames.specs.Frame.{IsNegative}
use Rattle.zk_nodes.specs.Path.{Text}
use Rattle.zk_nodes.specs.History.{IsHistory}
use Rattle.zk_history.specs.HistoryView.{HistoryView, history_of}
use Rattle.zk_nodes.specs.Names.{Names as Texts}
use Rattle.zk_conversation.specs.Calls as call
use Rattle.zk_laws.specs.Messages.{Request}
use Rattle.theory_serving.specs.Wires.{IsFor, StandsFirst}
use Rattle.zk_frames.specs.Limits.{standard_limits}
use Rattle.zk_turns.specs.Ranges.{IsResumable}
use Rattle.zk_turns.specs.Turns.{Input, Opened, Bytes, Cut, Now, Call, Output, Start, new_start}
use Rattle.zk_turns.specs.View.{View, view_at}
use Rattle.zk_turns.specs.Rule.{Rule}
use Rattle.zk_bench.specs.Front.{IsShort, IsWhole}
use Rattle.zk_bench.specs.Stepping.{shown_of, IsReady, TakesSome, ProcessesFirst}
use Rattle.zk_bench.specs.Served.{Served, started, connected, disconnected, ended, is_open, advanced, without_output, Continues}
use Rattle.script_words.specs.Values.{AreNames}
use Rattle.script_replay.specs.CallLines.{Asked}
use Rattle.script_replay.specs.ClientLines.{ClientValue, CutLine, NowLine, CallLine}
use Rattle.script_replay.specs.Played.{DoesClient, HaltsAt, HaltsClient}
use Rattle.script_replay.specs.Shown.{TellsAll}
use Rattle.script_rehearse.specs.BenchLines.{BenchValue, OpenLine, TakeLine, ProcessLine, DeliverLine, ExpireLine, GoodLine, RejoinLine}
use Rattle.script_rehearse.specs.BenchLines.{ClientValueLine}
use Rattle.script_rehearse.specs.Good.{TellsPaths, agreeing_paths}
use Rattle.script_rehearse.specs.Heard.{heard_all}

-- the timeout that clients ask for, the client by its view, the servers, and the paths that calls named
pub record Scene : Type 0 where
  pub timeout : ℤ
  pub view : View
  pub bench : Served
  pub called : Texts

-- a new client, and servers over a history
abbrev pub first_scene : ℤ → HistoryView → Scene
first_scene timeout history =
    record { timeout = timeout; view = view_at (new_start (unsigned_abs timeout)) []; bench = started history; called = set.empty }

abbrev pub with_bench : Scene → Served → Scene
with_bench scene bench = record scene { bench = bench }

-- The client takes an input by the rule, the servers hear what it says, and the text is what it says.
pub record Plays (input : Input) (old new : Scene) (text : List ℕ) : Type 0 where
  pub outputs : List Output
  pub rule : Rule old.view (record { input = input; outputs = outputs }) new.view
  pub told : TellsAll outputs text
  pub rest : new ≡ record old { view = new.view; bench = heard_all outputs old.bench }

-- A server takes the next transaction: what the servers say of it. The connected one takes it as a server of the laws does, and
-- sends nothing if it takes no requests.
pub record TakesNext (old : Served) (server : ℕ) (new : Served) : Type 0 where
  pub taken : new.taken ≡ advanced old server
  pub elsewhere : server ≢ old.server → new.connection ≡ old.connection
  pub apart : is_open old.connection.phase ≡ false → new.connection ≡ old.connection
  pub ready : IsReady old → IsReady new
  pub advances : IsReady old → server ≡ old.server → is_open old.connection.phase ≡ true → TakesSome (shown_of old) (shown_of new)
  pub rest : new ≡ record old { taken = new.taken; connection = new.connection }

-- The connected server processes the next request: what the servers say of it. If the frame of a request stands first that is for
-- it, over a history, it processes that as a server of the laws does.
pub record Processes (old new : Served) : Type 0 where
  pub idle : is_open old.connection.phase ≡ false → new ≡ old
  pub waits : IsShort old.connection.requests → new ≡ old
  pub ends : is_open old.connection.phase ≡ true → IsNegative old.connection.requests → new ≡ ended old
  pub processed : (count : ℕ) → is_open old.connection.phase ≡ true → IsWhole old.connection.requests count
      → new.connection.requests ≡ drop (4 + count) old.connection.requests
  pub ready : IsReady old → IsReady new
  pub whole : IsHistory (history_of old.history)
  pub serves : (request : Request) (xid : ℤ) (payload rest : List ℕ)
      → IsReady old → is_open old.connection.phase ≡ true → StandsFirst request xid payload rest old.connection.requests
      → IsFor request (shown_of old).server.stage → ProcessesFirst request xid payload (shown_of old) (shown_of new)
  pub history : Continues old.history new.history
  pub rest : new ≡ record old { history = new.history; taken = new.taken; connection = new.connection }

-- Bytes come, if there are any.
abbrev pub Come : List ℕ → Scene → Scene → List ℕ → Type 0
Come [] old new text = (new ≡ old) × (text ≡ [])
Come (byte ∷ bytes) old new text = Plays (Bytes (byte ∷ bytes)) old new text

-- The first bytes of what the connected server sent come, and it has them no more.
abbrev pub Delivers : ℕ → Scene → Scene → List ℕ → Type 0
Delivers most old new text = Come (take most old.bench.connection.output) (with_bench old (without_output old.bench most)) new text

-- the path that a call names
abbrev pub named_path : call.Call → Option Text
named_path (call.Exists path watch) = Some path
named_path (call.GetData path watch) = Some path
named_path (call.GetChildren path watch) = Some path
named_path (call.SetData path bytes version) = Some path
named_path (call.Create path bytes mode) = Some path
named_path (call.Delete path version) = Some path
named_path call.Close = None
named_path (call.Raw operation given) = None

abbrev pub with_path : Option Text → Texts → Texts
with_path None called = called
with_path (Some path) called = set.insert called path

-- The client is asked, and the text that the call names, if it names one, is one of those that calls named.
abbrev pub Calls : Asked → Scene → Scene → List ℕ → Type 0
Calls asked old new text = Plays (Call asked.ticket asked.call)
    (record old { called = with_path (named_path asked.call) old.called }) new text

-- what a client begins with that takes up the session of another
abbrev pub taken_up : ℤ → View → Start
taken_up timeout view = record {
  timeout = unsigned_abs timeout;
  session = view.saved.session.session;
  password = view.saved.session.password;
  last = view.saved.last;
  limits = standard_limits;
}

-- another client, and no server connected
abbrev pub rejoined : Scene → Scene
rejoined scene = record scene { view = view_at (taken_up scene.timeout scene.view) []; bench = disconnected scene.bench }

-- Another client takes up the session, whose numbers and password are in range.
abbrev pub Rejoins : Scene → Scene → List ℕ → Type 0
Rejoins old new text = (new ≡ rejoined old) × (text ≡ []) × IsResumable (taken_up old.timeout old.view)

-- A connection to a server begins, counted from 0. It is one of the servers that are there, so that they stay as ready as they were.
abbrev pub Opens : ℕ → Scene → Scene → List ℕ → Type 0
Opens server old new text =
    Plays Opened (with_bench old (connected old.bench server)) new text × (IsReady old.bench → IsReady (connected old.bench server))

-- What is printed of the good answers: of each path that a call named, in the order of their bytes. What the servers keep is a history.
pub record TellsGood (scene : Scene) (text : List ℕ) : Type 0 where
  pub each : List Text
  pub are : AreNames each (set.contains scene.called)
  pub told : TellsPaths scene.view scene.bench.history each text
  pub history : IsHistory (history_of scene.bench.history)

-- The same where each of the good answers agrees with the history: that it does is printed of each, and nothing else.
pub record TellsAgreeing (scene : Scene) (text : List ℕ) : Type 0 where
  pub each : List Text
  pub are : AreNames each (set.contains scene.called)
  pub told : text ≡ agreeing_paths scene.view each

-- A look-up of the client, or the stale answers are taken out: nothing else changes.
pub record LooksUp (value : ClientValue) (old new : Scene) (text : List ℕ) : Type 0 where
  pub does : DoesClient value old.view new.view text
  pub rest : new ≡ record old { view = new.view }

-- With the connection's end no server is connected, and the time of the servers is the client's.
abbrev pub DoesClientLine : ClientValue → Scene → Scene → List ℕ → Type 0
DoesClientLine CutLine old new text = Plays Cut (with_bench old (disconnected old.bench)) new text
DoesClientLine (NowLine moment) old new text = Plays (Now moment) (with_bench old (record old.bench { time = moment })) new text
DoesClientLine (CallLine asked) old new text = Calls asked old new text
DoesClientLine value old new text = LooksUp value old new text

-- What a line makes of the scene, and what it prints.
abbrev pub DoesBench : BenchValue → Scene → Scene → List ℕ → Type 0
DoesBench (OpenLine server) old new text = Opens (server - 1) old new text
DoesBench (TakeLine server) old new text = TakesNext old.bench (server - 1) new.bench × (new ≡ with_bench old new.bench) × (text ≡ [])
DoesBench ProcessLine old new text = Processes old.bench new.bench × (new ≡ with_bench old new.bench) × (text ≡ [])
DoesBench (DeliverLine most) old new text = Delivers most old new text
DoesBench ExpireLine old new text = (new ≡ with_bench old (record old.bench { expired = true })) × (text ≡ [])
DoesBench GoodLine old new text = (new ≡ old) × TellsGood old text
DoesBench RejoinLine old new text = Rejoins old new text
DoesBench (ClientValueLine value) old new text = DoesClientLine value old new text

-- The client halts at what a line says: at an input that has an effect, and at nothing else.
abbrev pub HaltsBench : BenchValue → Scene → Scene → Type 0
HaltsBench (OpenLine server) old new = HaltsAt Opened old.view new.view
HaltsBench (DeliverLine most) old new = HaltsAt (Bytes (take most old.bench.connection.output)) old.view new.view
HaltsBench (ClientValueLine value) old new = HaltsClient value old.view new.view
HaltsBench value old new = ⊥
