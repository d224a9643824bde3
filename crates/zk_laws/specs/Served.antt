-- Servers that meet the bytes of a client: what their messages look like on the wire, which requests they process, and
-- schedules of their moves between the turns of a client.
use Rattle.zk_turns.specs.Spelled.{IsHeaded, HasRecord, HasResult}
use Rattle.zk_conversation.specs.Results.{response_timeout, Result, NoNode, Refused}
use Rattle.zk_jute.specs.Lenient.{or_empty}
use Rattle.zk_conversation.specs.Calls.{part_xid, ping_xid, call_payload, connect_payload, part_payload, ping_payload}
use Rattle.zk_records.specs.Events.{event_number}
use Rattle.zk_records.specs.Response.{Response, IsPayload as IsResponse}
use Rattle.zk_records.specs.Layouts.{watcher_event}
use Rattle.std.specs.Prelude.{Option, ℕ, ℤ, pos, negsuc, ◌≡◌, ◌<◌, ◌≤◌, ◌+◌, ◌^◌, int_lt, Bool, true, false, not, ◌&&◌, List, [], ◌∷◌, ◌++◌}
use Rattle.std.specs.Prelude.{map, drop, length, ⊤, ◌⊎◌}
use Rattle.std.specs.List.{flat_map}
use Rattle.zk_turns.specs.Turns.{Start, Item, Turned, Bytes, Opened as Opening}
use Rattle.zk_frames.specs.Frame.{frame}
use Rattle.zk_turns.specs.Past.{Past, Began, Asked, Pinged, last_of, session_of, lists_of, xid_of, state_of, is_open, has_halted}
use Rattle.zk_turns.specs.Past.{Took as Takes_in, Accepted as Accepts}
use Rattle.zk_watches.specs.Lists.{Lists}
use Rattle.zk_watches.specs.Parts.{parts}
use Rattle.zk_turns.specs.Taken.{past_of}
use Rattle.zk_nodes.specs.History.{History}
use Rattle.zk_turns.specs.Meaning.{Among}
use Rattle.zk_laws.specs.Server.{no_watches}
use Rattle.zk_laws.specs.Messages.{Message, Accepted, Expired, Replies, Watches_set, Notifies, Pong, Request, Connect, Restore, Ask, Ping}
use Rattle.zk_laws.specs.Messages.{from_zero}
use Rattle.zk_laws.specs.ServerSteps.{ServerEnd, Waiting, Ended, ServerStep, Advances, MayDo, messages_by, end_after}

-- What a client asked, as it is in the bytes that it sent

-- a request with its payload and its xid
pub record Sent : Type 0 where
  pub payload : List ℕ
  pub xid : ℤ
  pub request : Request

-- the parts of setWatches
abbrev pub part_requests : ℤ → List Lists → List Sent
part_requests relative [] = []
part_requests relative (part ∷ []) =
    record {
      payload = part_payload relative part.data_watches part.exist_watches part.child_watches;
      xid = part_xid;
      request = Restore true (from_zero relative) part;
    } ∷ []
part_requests relative (part ∷ next ∷ more) =
    record {
      payload = part_payload relative part.data_watches part.exist_watches part.child_watches;
      xid = part_xid;
      request = Restore false (from_zero relative) part;
    } ∷ part_requests relative (next ∷ more)

module _ (start : Start) where
  -- The requests of the newest connection, in the order in which they were sent. Their frames, joined, are the bytes sent.
  abbrev pub requests : Past → List Sent
  requests [] = []
  requests (Began ∷ past) =
      record {
        payload = connect_payload (last_of start past) (pos start.timeout) (session_of start past).session (session_of start
            past).password;
        xid = pos 0;
        request = Connect (from_zero (last_of start past));
      } ∷ []
  requests (Takes_in (Accepts welcome) ∷ past) = requests past ++ part_requests (last_of start past) (parts (lists_of past))
  requests (Asked ticket call ∷ past) =
      requests past ++ record { payload = call_payload (pos (xid_of past)) call; xid = pos (xid_of past); request = Ask call }
      ∷ []
  requests (Pinged ∷ past) = requests past ++ record { payload = ping_payload; xid = ping_xid; request = Ping } ∷ []
  requests (_ ∷ past) = requests past

-- What a message looks like on the wire

-- the error code of a reply
abbrev pub code_of : Result → ℤ
code_of NoNode = negsuc 100
code_of (Refused code) = code
code_of _ = pos 0

-- The payload is the message's: the spelling of its header and of its record, and after it any bytes. A reply has the xid of
-- its request; the zxid and the code of a notice or a pong may be any. An accepted response has a timeout above 0.
abbrev pub IsPayload : ℤ → Message → List ℕ → Type 0
IsPayload xid Accepted payload =
    (response : Response) × (ignored : List ℕ) × IsResponse payload response ignored × (int_lt (pos 0) (response_timeout response) ≡ true)
IsPayload xid Expired payload =
    (response : Response) × (ignored : List ℕ) × IsResponse payload response ignored × (int_lt (pos 0) (response_timeout response) ≡ false)
IsPayload xid (Replies question zxid result) payload = (behind : List ℕ) × IsHeaded xid (pos zxid)
    (code_of result) payload behind × HasResult question result behind
IsPayload xid (Watches_set is_last zxid) payload = (behind : List ℕ) × IsHeaded xid (pos zxid) (pos 0) payload behind
IsPayload xid (Notifies notice) payload =
    (zxid : ℤ) × (err : ℤ) × (behind : List ℕ) × IsHeaded (negsuc 0) zxid err payload behind
    × (state : ℤ) × (path : Option (List ℕ)) × HasRecord watcher_event (event_number notice.event, (state, path)) behind
    × (or_empty path ≡ notice.path)
IsPayload xid Pong payload = (zxid : ℤ) × (err : ℤ) × (behind : List ℕ) × IsHeaded ping_xid zxid err payload behind

-- The payloads are those of the messages, each of a length that a frame can tell.
abbrev pub ArePayloads : ℤ → List Message → List (List ℕ) → Type 0
ArePayloads xid [] [] = ⊤
ArePayloads xid (message ∷ messages) (payload ∷ payloads) =
    (length payload < 2 ^ 31) × IsPayload xid message payload × ArePayloads xid messages payloads
ArePayloads xid _ _ = ⊥

-- A server on the open connection

-- the server's end; how many requests of the connection it has processed; what it has sent and the client has not received yet
pub record Wire : Type 0 where
  pub server : ServerEnd
  pub processed : ℕ
  pub coming : List ℕ

-- as a connection begins, at a place
abbrev pub new_wire : ℕ → Wire
new_wire place = record { server = record { place = place; watches = no_watches; stage = Waiting }; processed = 0; coming = [] }

-- before any connection
abbrev pub no_wire : Wire
no_wire = record { server = record { place = 0; watches = no_watches; stage = Ended }; processed = 0; coming = [] }

-- there is an open connection
abbrev pub is_going : Past → Bool
is_going past = is_open (state_of past) && not (has_halted past)

-- the requests that stand whole in the bytes sent and are not processed yet
abbrev pub unread : Start → Past → Wire → List Sent
unread start past wire = drop wire.processed (requests start past)

-- the xid of the first request
abbrev pub first_xid : List Sent → ℤ
first_xid [] = pos 0
first_xid (sent ∷ more) = sent.xid

-- A server's move on the open connection: a step with the requests that stand whole in the bytes sent, whose messages have
-- these payloads.
pub record MayServe (h : History) (start : Start) (step : ServerStep) (payloads : List (List ℕ)) (past : Past) (wire : Wire) : Type 0 where
  pub going : is_going past ≡ true
  pub may : MayDo h step wire.server (map (λ sent. sent.request) (unread start past wire))
  pub told : ArePayloads (first_xid (unread start past wire)) (messages_by h step wire.server.place) payloads

-- The server afterwards: all steps but the next transaction have processed a request.
abbrev pub wire_on : History → ServerStep → List (List ℕ) → Wire → Wire
wire_on h step payloads wire =
    record {
      server = end_after h step wire.server;
      processed = wire.processed + (elim step [ Advances sent ↦ 0 | _ ↦ 1 ]);
      coming = wire.coming ++ flat_map frame payloads;
    }

-- Schedules

-- An entry of a schedule: an item of the client, with the place of the server to which a connection would begin; or a
-- server's move, with the payloads of what it sends.
pub data Entry : Type 0 where
  Goes_on : (place : ℕ) → Item → Entry
  Serves : ServerStep → (payloads : List (List ℕ)) → Entry

-- the items among the entries, the newest first
abbrev pub items_in : List Entry → List Item
items_in [] = []
items_in (Goes_on place item ∷ earlier) = item ∷ items_in earlier
items_in (Serves step payloads ∷ earlier) = items_in earlier

-- the server after an item: a connection begins, or bytes are received
abbrev pub wire_past : ℕ → Item → Wire → Wire
wire_past place (Turned turn) wire =
    elim turn.input [ Opening ↦ new_wire place | Bytes bytes ↦ record wire { coming = drop (length bytes) wire.coming } | _ ↦ wire ]
wire_past place _ wire = wire

-- the server after these entries
abbrev pub wire_of : History → List Entry → Wire
wire_of h [] = no_wire
wire_of h (Goes_on place item ∷ earlier) = wire_past place item (wire_of h earlier)
wire_of h (Serves step payloads ∷ earlier) = wire_on h step payloads (wire_of h earlier)

-- the payload is one of those that the servers have sent
abbrev pub WasSent : List Entry → List ℕ → Type 0
WasSent [] payload = ⊥
WasSent (Goes_on place item ∷ earlier) payload = WasSent earlier payload
WasSent (Serves step payloads ∷ earlier) payload = Among payload payloads ⊎ WasSent earlier payload

-- What may come in a schedule: a connection begins at any place, what is received is a beginning of what was sent.
abbrev pub MayEnter : History → Start → Entry → Past → Wire → Type 0
MayEnter h start (Goes_on place (Turned turn)) past wire =
    elim turn.input [
      | Opening ↦ place ≤ length h.transactions
      | Bytes bytes ↦ is_going past ≡ true → (rest : List ℕ) × (wire.coming ≡ bytes ++ rest)
      | _ ↦ ⊤
    ]
MayEnter h start (Goes_on place _) past wire = ⊤
MayEnter h start (Serves step payloads) past wire = MayServe h start step payloads past wire

-- A schedule has the newest entry first, as items have.
abbrev pub IsServing : History → Start → List Entry → Type 0
IsServing h start [] = ⊤
IsServing h start (entry ∷ earlier) = MayEnter h start entry (past_of start (items_in earlier))
    (wire_of h earlier) × IsServing h start earlier

-- The client was served by servers that hold beginnings of the history: there is a schedule of its items.
pub record Served (h : History) (start : Start) (items : List Item) : Type 0 where
  pub entries : List Entry
  pub whole : items_in entries ≡ items
  pub may : IsServing h start entries
