-- What goes through a client's connection, byte by byte, over streams that know what they have still to give and what they took.
use Rattle.std.specs.Prelude.{◌≡◌, ⊤, ℕ, Bool, true, false, List, [], ◌∷◌, ◌++◌, Option, IfSome, is_some}
use Rattle.std.specs.List.{filter, flat_map, FoldsTo}
use Rattle.std.specs.Io.KnownBytes.{Appends}
use Rattle.zk_turns.specs.Turns.{Input, Output, Turn}
use Rattle.zk_turns.specs.Turns as turns
use Rattle.zk_turns.specs.View.{View}
use Rattle.zk_turns.specs.Rule.{Rule}
use Rattle.zk_client.specs.Clients.{view_of}
use Rattle.script_replay.specs.ClientLines.{CallLine, ClientValue, CutLine, NowLine}
use Rattle.script_replay.specs.Played.{DoesClient}
use Rattle.zk_link.specs.declared.brought.Brought.{Brought}
use Rattle.zk_link.specs.declared.brought.Brought.TheVariants as brought
use Rattle.script_live.specs.Exchanged.{known_of, Exchanges, Known}
use Rattle.script_live.specs.declared.joint.Joint.{Joint}
use Rattle.script_live.specs.Frames.{frames}
use Rattle.script_live.specs.Trails.{is_given, kept}

-- the bytes that a client is handed by an input
abbrev pub bytes_of : Input → List ℕ
bytes_of (turns.Bytes bytes) = bytes
bytes_of input = []

-- the bytes that a read has brought
abbrev pub piece_in : {A : Type 0} → Brought A → List ℕ
piece_in (brought.Piece bytes) = bytes.items
piece_in brought = []

-- A client, whether it has a connection, what is left to be written, what the stream knows, and what was read and is not handed to the
-- client yet.
pub record Flow : Type 0 where
  pub view : View
  pub is_open : Bool
  pub unsent : List ℕ
  pub known : Known
  pub held : List ℕ

abbrev pub flow_of : {A S : Type 0} → (remaining contents : S → Option (List ℕ)) → Joint A S → Flow
flow_of remaining contents joint = record {
  view = view_of joint.client;
  is_open = is_some joint.stream;
  unsent = joint.unsent.items;
  known = known_of remaining contents joint.stream;
  held = [];
}

-- these bytes are read, and not handed to the client yet
abbrev pub holding : List ℕ → Flow → Flow
holding held flow = record flow { held = held }

-- The client takes an input: what is held is handed to it, whole. What it sends goes after what is unsent, as long as the connection is
-- there then.
abbrev pub HearsSo : Flow → Turn → Flow → Type 0
HearsSo old turn new =
    Rule old.view turn new.view × (new.is_open ≡ kept turn.outputs old.is_open) × (bytes_of turn.input ≡ old.held) × (new.held ≡ [])
    × (new.is_open ≡ true → Exchanges (old.unsent ++ frames turn.outputs) new.unsent old.known new.known [])

-- A connection is there then, with nothing to be written.
abbrev pub HoldsSo : Flow → Flow → Type 0
HoldsSo old new = (new.view ≡ old.view) × (new.is_open ≡ true) × (new.unsent ≡ []) × (new.held ≡ [])

-- no connection begins by an input
abbrev pub IsMidway : Input → Type 0
IsMidway turns.Opened = ⊥
IsMidway input = ⊤

-- a line that is no input of a client: it looks something up, or forgets what is stale
abbrev pub IsLook : ClientValue → Type 0
IsLook CutLine = ⊥
IsLook (NowLine moment) = ⊥
IsLook (CallLine asked) = ⊥
IsLook value = ⊤

-- Some is written and a read is made; the client takes an input, by a turn; a connection begins; it is over; no address connects; the
-- client is looked at, and this is printed.
pub data Deed : Type 0 where
  Reads : Deed
  Hears : Turn → Deed
  Begins : Turn → Deed
  Ends : Turn → Deed
  Fails : Deed
  Looks : ClientValue → (text : List ℕ) → Deed

-- What each does. What a read brings is held, and is what the client is handed next, whole; nothing else is handed to it as bytes, and
-- nothing is read before that. Without a connection a read brings nothing. A connection begins if there was none, and the client is told
-- so before anything else; if it is over the client is told too.
abbrev pub Carries : Flow → Deed → Flow → Type 0
Carries old Reads new =
    Exchanges old.unsent new.unsent old.known new.known new.held × (old.held ≡ []) × (old.is_open ≡ false → new.held ≡ [])
    × (new.view ≡ old.view) × (new.is_open ≡ old.is_open)
Carries old (Hears turn) new = HearsSo old turn new × IsMidway turn.input
Carries old (Begins turn) new =
    ((between : Flow) × HoldsSo old between × HearsSo between turn new) × (turn.input ≡ turns.Opened)
    × (old.is_open ≡ false) × (old.held ≡ [])
Carries old (Ends turn) new =
    Rule old.view turn new.view × (turn.input ≡ turns.Cut) × (new.is_open ≡ false) × (old.held ≡ []) × (new.held ≡ [])
Carries old Fails new = (new ≡ old) × (old.held ≡ [])
Carries old (Looks value text) new =
    DoesClient value old.view new.view text × IsLook value × (new ≡ record old { view = new.view }) × (old.held ≡ [])

-- A client takes an input: what it says is given, in order, or sent.
pub record Delivers (input : Input) (before after : List Output) (old new : Flow) : Type 0 where
  pub outputs : List Output
  pub given : after ≡ before ++ filter is_given outputs
  pub hears : HearsSo (holding (bytes_of input) old) (record { input = input; outputs = outputs }) new

-- The connection is over: the client takes that, and what it says is given, in order.
pub record Cuts (before after : List Output) (old new : Flow) : Type 0 where
  pub outputs : List Output
  pub given : after ≡ before ++ filter is_given outputs
  pub ends : Carries old (Ends (record { input = turns.Cut; outputs = outputs })) new

-- ---- what follows, as long as one connection lasts

-- No connection begins.
abbrev pub AreWithin : List Deed → Type 0
AreWithin [] = ⊤
AreWithin (Begins turn ∷ deeds) = ⊥
AreWithin (deed ∷ deeds) = AreWithin deeds

-- what the client is handed of the connection
abbrev pub handed_by : Deed → List ℕ
handed_by (Hears turn) = bytes_of turn.input
handed_by deed = []

-- what it sends
abbrev pub sent_by : Deed → List ℕ
sent_by (Hears turn) = frames turn.outputs
sent_by deed = []

-- What the client is handed, joined, is a beginning of what the stream had to give.
abbrev pub BytesComeWhole : Type 0
BytesComeWhole =
    (deeds : List Deed) → (old new : Flow) → FoldsTo Carries old deeds new → AreWithin deeds
    → old.held ≡ [] → IfSome old.known.left (λ bytes. (rest : List ℕ) × (bytes ≡ flat_map handed_by deeds ++ rest))

-- And as long as the connection is there, what the stream took is a beginning of what was unsent, and was sent since: the rest is unsent.
abbrev pub BytesGoWhole : Type 0
BytesGoWhole =
    (deeds : List Deed) → (old new : Flow) → FoldsTo Carries old deeds new → AreWithin deeds
    → new.is_open ≡ true
    → (written : List ℕ) × Appends old.known.took new.known.took written × (old.unsent ++ flat_map sent_by deeds ≡ written ++ new.unsent)
