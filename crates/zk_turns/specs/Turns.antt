-- What goes into a client and what comes out of it, turn after turn.
use Rattle.zk_nodes.specs.Path.{Text}
use Rattle.zk_nodes.specs.PathFault.{IsPath}
use Rattle.zk_conversation.specs.Results.{Result}
use Rattle.zk_conversation.specs.declared.fault.TalkFault.{TalkFault}
use Rattle.zk_frames.specs.declared.fault.FrameFault.{FrameFault}
use Rattle.zk_frames.specs.declared.limits.FrameLimits.{FrameLimits}
use Rattle.zk_frames.specs.Limits.{standard_limits}
use Rattle.zk_nodes.specs.declared.side.Side.{Side}
use Rattle.zk_records.specs.declared.event.Event.{Event}
use Rattle.zk_session.specs.declared.states.State.{State}
use Rattle.zk_session.specs.States.{is_final}
use Rattle.std.specs.Prelude.{◌≡◌, ◌≤◌, ⊤, ℕ, ℤ, Bool, true, false, List, [], ◌∷◌, map, replicate, FitsSigned}
use Rattle.std.specs.Int.{w32}
use Rattle.std.specs.Str.{is_utf8}
use Rattle.zk_conversation.specs.Calls as call

-- What a call is answered: its reply, with the zxid of the reply, or why there is none.
pub data Outcome : Type 0 where
  Replied : ℤ → Result → Outcome
  ConnectionLoss SessionExpired SessionClosed NotConnected TooManyWatches TooLarge TooManyPending : Outcome

-- Why a client gives its connection up: a length that is not admitted, a payload that does not read, silence, a reply that is
-- behind what was seen, or setWatches refused.
pub data Fault : Type 0 where
  Framed : FrameFault → Fault
  Talked : TalkFault → Fault
  Silent : Fault
  Behind : (seen came : ℤ) → Fault
  WatchesRefused : (code : ℤ) → Fault

pub data Input : Type 0 where
  Opened Cut : Input
  Bytes : List ℕ → Input
  Now : ℕ → Input
  Call : (ticket : ℕ) → call.Call → Input

-- a path is UTF-8, a version is of 32 bits, a mode is from 0 to 3
abbrev pub IsTyped : call.Call → Type 0
IsTyped (call.Exists path watch) = is_utf8 path ≡ true
IsTyped (call.GetData path watch) = is_utf8 path ≡ true
IsTyped (call.GetChildren path watch) = is_utf8 path ≡ true
IsTyped (call.SetData path bytes version) = (is_utf8 path ≡ true) × FitsSigned w32 version
IsTyped (call.Create path bytes mode) = (is_utf8 path ≡ true) × (mode ≤ 3)
IsTyped (call.Delete path version) = (is_utf8 path ≡ true) × FitsSigned w32 version
IsTyped call.Close = ⊤
IsTyped (call.Raw operation bytes) = ⊤

-- it is about a path, if what it is about is known
abbrev pub IsPathCall : call.Call → Type 0
IsPathCall (call.Exists path watch) = IsPath path
IsPathCall (call.GetData path watch) = IsPath path
IsPathCall (call.GetChildren path watch) = IsPath path
IsPathCall (call.SetData path bytes version) = IsPath path
IsPathCall (call.Create path bytes mode) = IsPath path
IsPathCall (call.Delete path version) = IsPath path
IsPathCall call.Close = ⊤
IsPathCall (call.Raw operation bytes) = ⊤

-- what a caller may ask: about a path, with values of their types
abbrev pub IsAskable : call.Call → Type 0
IsAskable asked = IsTyped asked × IsPathCall asked

pub data Output : Type 0 where
  Send : List ℕ → Output
  Answer : (ticket : ℕ) → Outcome → Output
  Report : Text → Side → Event → Output
  Enters : State → Output
  Drop : Fault → Output

-- With this output the connection is over: it is given up, or the session has ended.
abbrev pub ends_connection : Output → Bool
ends_connection (Drop fault) = true
ends_connection (Enters state) = is_final state
ends_connection _ = false

-- an input with the outputs that it gave
pub record Turn : Type 0 where
  pub input : Input
  pub outputs : List Output

-- What a client has gone through: turns, calls of forget_stale, and a halt.
pub data Item : Type 0 where
  Turned : Turn → Item
  Forgets Halts : Item

-- this holds of each call of the items
abbrev pub AsksOf : (call.Call → Type 0) → Input → Type 0
AsksOf P (Call ticket asked) = P asked
AsksOf P _ = ⊤

abbrev pub AllAskOf : (call.Call → Type 0) → List Item → Type 0
AllAskOf P [] = ⊤
AllAskOf P (Turned turn ∷ items) = AsksOf P turn.input × AllAskOf P items
AllAskOf P (_ ∷ items) = AllAskOf P items

-- what a caller asks is about a path, with values of their types
abbrev pub IsAsked : Input → Type 0
IsAsked input = AsksOf IsAskable input

-- What a client begins with: the timeout to ask for, a saved session, or 0, sixteen zero bytes and 0 for a new one, and how long
-- payloads may be.
pub record Start : Type 0 where
  pub timeout : ℕ
  pub session : ℤ
  pub password : List ℕ
  pub last : ℤ
  pub limits : FrameLimits

abbrev pub new_start : ℕ → Start
new_start timeout =
    record { timeout = timeout; session = ℤ.pos 0; password = replicate 16 0; last = ℤ.pos 0; limits = standard_limits }

-- What happens to a client, one thing at a time: bytes come one by one.
pub data Signal : Type 0 where
  Opens Cuts Forget Halt : Signal
  Comes Ticks : ℕ → Signal
  Calls : (ticket : ℕ) → call.Call → Signal

abbrev pub signals_of : Input → List Signal
signals_of Opened = Opens ∷ []
signals_of (Bytes bytes) = map Comes bytes
signals_of Cut = Cuts ∷ []
signals_of (Now moment) = Ticks moment ∷ []
signals_of (Call ticket asked) = Calls ticket asked ∷ []

abbrev pub signals : Item → List Signal
signals (Turned turn) = signals_of turn.input
signals Forgets = Forget ∷ []
signals Halts = Halt ∷ []
