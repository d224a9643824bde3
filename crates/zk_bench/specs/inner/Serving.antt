-- What contracts of private functions say: nobody has to believe it.
use Rattle.std.specs.Prelude.{ℕ, ℤ, ◌≡◌, ◌<◌, ◌^◌, Bool, ◌&&◌, ◌||◌, if◌then◌else◌, false, List, [], ◌++◌, map, length}
use Rattle.std.specs.List.{flat_map}
use Rattle.zk_jute.specs.Layout.{Layout, Value}
use Rattle.zk_jute.specs.Spelling.{spelling, Fits}
use Rattle.zk_frames.specs.Frame.{frame}
use Rattle.zk_nodes.specs.Path.{NodePath, path_eq}
use Rattle.zk_nodes.specs.inner.Names.{names_of}
use Rattle.zk_nodes.specs.declared.side.Side.TheVariants.{Data, Child}
use Rattle.zk_records.specs.declared.event.Event.{Event}
use Rattle.zk_records.specs.Events.{concerns}
use Rattle.zk_records.specs.Layouts.{reply_header, connect_response_front}
use Rattle.zk_records.specs.Response.{Response, response_spelling}
use Rattle.zk_laws.specs.Server.{Watches, Notice, told, AreSent}
use Rattle.zk_laws.specs.Messages.{Message, Notifies}
use Rattle.zk_laws.specs.Served.{IsPayload, ArePayloads}
use Rattle.zk_bench.specs.declared.watches.Watches.{Watches as Texts}
use Rattle.zk_bench.specs.Serving.{watches_of, FitsReply}

-- the watches of a connection
abbrev pub watched : {A : Type 0} → Texts A → Watches
watched texts = watches_of (names_of texts.data) (names_of texts.child)

-- what an event at a path fires: a notice for each side that is watched
abbrev pub fires_at : Event → NodePath → Watches → List Notice
fires_at event at watches =
    (if concerns event Data then told Data at event watches else []) ++ (if concerns event Child then told Child at event watches else [])

-- the watches that it leaves
abbrev pub leaves_at : Event → NodePath → Watches → Watches
leaves_at event at watches side path = if concerns event side && path_eq path at then false else watches side path

-- whether a side is watched that the event concerns
abbrev pub is_watched : Event → NodePath → Watches → Bool
is_watched event at watches = (concerns event Data && watches Data at) || (concerns event Child && watches Child at)

-- A result can be sent.
pub record CanBeSent (layout : Layout) (value : Value layout) : Type 0 where
  pub fits : Fits layout value
  pub small : FitsReply (length (spelling layout value))

-- So can an answer to a ConnectRequest.
pub record CanBeTold (response : Response) : Type 0 where
  pub fits : Fits connect_response_front response.front
  pub small : length (response_spelling response) < 2 ^ 31

-- A payload of a header and a record is sent.
pub record Sends (header : Value reply_header) (layout : Layout) (value : Value layout) (old new : List ℕ) : Type 0 where
  pub header_fits : Fits reply_header header
  pub value_fits : Fits layout value
  pub small : length (spelling reply_header header ++ spelling layout value) < 2 ^ 31
  pub output : new ≡ old ++ frame (spelling reply_header header ++ spelling layout value)

-- A payload of a header alone is sent.
pub record SendsHeader (header : Value reply_header) (old new : List ℕ) : Type 0 where
  pub fits : Fits reply_header header
  pub small : length (spelling reply_header header) < 2 ^ 31
  pub output : new ≡ old ++ frame (spelling reply_header header)

-- What is fired is sent, as it may be.
pub record Tells (fired : List Notice) (old new : List ℕ) : Type 0 where
  pub sent : List Notice
  pub payloads : List (List ℕ)
  pub admitted : AreSent fired sent
  pub spelled : (xid : ℤ) → ArePayloads xid (map Notifies sent) payloads
  pub output : new ≡ old ++ flat_map frame payloads

-- A payload of an answer to a ConnectRequest is sent.
pub record SendsResponse (response : Response) (old new : List ℕ) : Type 0 where
  pub fits : Fits connect_response_front response.front
  pub small : length (response_spelling response) < 2 ^ 31
  pub output : new ≡ old ++ frame (response_spelling response)

-- A message is sent whose payload does not tell an xid.
pub record SendsMessage (message : Message) (old new : List ℕ) : Type 0 where
  pub payload : List ℕ
  pub small : length payload < 2 ^ 31
  pub spelled : (xid : ℤ) → IsPayload xid message payload
  pub output : new ≡ old ++ frame payload
