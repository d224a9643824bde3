-- Schedules of a client whose servers keep to the model at some paths.
use Rattle.std.specs.Prelude.{ℕ, ℤ, pos, ◌≡◌, ◌≢◌, ◌<◌, ◌+◌, ◌^◌, Bool, true, List, [], ◌∷◌, ◌++◌, map, length, ⊤, ◌⊎◌}
use Rattle.std.specs.List.{flat_map}
use Rattle.zk_nodes.specs.Path.{Text}
use Rattle.zk_nodes.specs.History.{History}
use Rattle.zk_conversation.specs.Calls.{Call, part_xid}
use Rattle.zk_frames.specs.Frame.{frame}
use Rattle.zk_watches.specs.Lists.{Lists}
use Rattle.zk_turns.specs.Turns.{Start, Item}
use Rattle.zk_turns.specs.Past.{Past}
use Rattle.zk_turns.specs.Taken.{past_of}
use Rattle.zk_turns.specs.Spelled.{IsHeaded}
use Rattle.zk_turns.specs.Meaning.{Among}
use Rattle.zk_laws.specs.Server.{Notice, IsOther}
use Rattle.zk_laws.specs.Messages.{Restore, Ask, Notifies, from_zero}
use Rattle.zk_laws.specs.ServerSteps.{ServerStep, Serving, Ended, IsNext, messages_by}
use Rattle.zk_laws.specs.Served.{Entry, Goes_on, Serves, MayEnter, Wire, no_wire, unread, first_xid, is_going, ArePayloads, wire_past}
use Rattle.zk_laws.specs.Served.{wire_on}
use Rattle.theory_local.specs.LocalSteps.{MayDoAt}

-- An entry of a schedule: an item of the client, or a server's move. Beside the steps of the model a server tells anything at
-- any moment; refuses a call, whatever it is about, in a reply with the zxid 0 or one below; or answers a part of
-- setWatches with an error: what it sends on that connection from then on may be any bytes.
pub data LocalEntry : Type 0 where
  Goes : (place : ℕ) → Item → LocalEntry
  Steps : ServerStep → (payloads : List (List ℕ)) → LocalEntry
  Tells : List Notice → (payloads : List (List ℕ)) → LocalEntry
  Denies : Call → (payload : List ℕ) → LocalEntry
  Fails : (payload : List ℕ) → (rest : List ℕ) → LocalEntry

-- the client's items, the newest first
abbrev pub items_at : List LocalEntry → List Item
items_at [] = []
items_at (Goes place item ∷ earlier) = item ∷ items_at earlier
items_at (_ ∷ earlier) = items_at earlier

-- the server after these entries
abbrev pub wire_at : History → List LocalEntry → Wire
wire_at h [] = no_wire
wire_at h (Goes place item ∷ earlier) = wire_past place item (wire_at h earlier)
wire_at h (Steps step payloads ∷ earlier) = wire_on h step payloads (wire_at h earlier)
wire_at h (Tells sent payloads ∷ earlier) = record (wire_at h earlier) { coming = (wire_at h earlier).coming ++ flat_map frame payloads }
wire_at h (Denies call payload ∷ earlier) =
    record (wire_at h earlier) { processed = (wire_at h earlier).processed + 1; coming = (wire_at h earlier).coming ++ frame payload }
wire_at h (Fails payload rest ∷ earlier) =
    record (wire_at h earlier)
    { server = record ((wire_at h earlier).server) { stage = Ended }; coming = (wire_at h earlier).coming ++ frame payload ++ rest }

-- the payload is one of those that the servers have sent
abbrev pub WasSentAt : List LocalEntry → List ℕ → Type 0
WasSentAt [] payload = ⊥
WasSentAt (Goes place item ∷ earlier) payload = WasSentAt earlier payload
WasSentAt (Steps step payloads ∷ earlier) payload = Among payload payloads ⊎ WasSentAt earlier payload
WasSentAt (Tells sent payloads ∷ earlier) payload = Among payload payloads ⊎ WasSentAt earlier payload
WasSentAt (Denies call denying ∷ earlier) payload = (payload ≡ denying) ⊎ WasSentAt earlier payload
WasSentAt (Fails failing rest ∷ earlier) payload = (payload ≡ failing) ⊎ WasSentAt earlier payload

-- A server's step on the open connection, with the payloads of its messages.
pub record MayStepAt (P : Text → Type 0) (h : History) (start : Start) (step : ServerStep) (payloads : List (List ℕ)) (past : Past)
    (wire : Wire) : Type 0 where
  pub going : is_going past ≡ true
  pub may : MayDoAt P h step wire.server (map (λ sent. sent.request) (unread start past wire))
  pub told : ArePayloads (first_xid (unread start past wire)) (messages_by h step wire.server.place) payloads

-- Any notices, to a client that was admitted.
pub record MayTell (sent : List Notice) (payloads : List (List ℕ)) (past : Past) (wire : Wire) : Type 0 where
  pub going : is_going past ≡ true
  pub serving : wire.server.stage ≡ Serving
  pub told : ArePayloads (pos 0) (map Notifies sent) payloads

-- A reply with a code that is neither 0 nor -101, and with the zxid 0 or one below, where a call comes next.
pub record MayDeny (start : Start) (call : Call) (payload : List ℕ) (past : Past) (wire : Wire) : Type 0 where
  pub going : is_going past ≡ true
  pub serving : wire.server.stage ≡ Serving
  pub next : IsNext (Ask call) (map (λ sent. sent.request) (unread start past wire))
  pub short : length payload < 2 ^ 31
  pub error : (zxid : ℤ) × (code : ℤ) × (behind : List ℕ) × (from_zero zxid ≡ 0) × IsOther code
      × IsHeaded (first_xid (unread start past wire)) zxid code payload behind

-- A reply with an error where a part of setWatches comes next.
pub record MayFail (start : Start) (payload : List ℕ) (past : Past) (wire : Wire) : Type 0 where
  pub going : is_going past ≡ true
  pub serving : wire.server.stage ≡ Serving
  pub next : (is_last : Bool) × (relative : ℕ) × (part : Lists)
      × IsNext (Restore is_last relative part) (map (λ sent. sent.request) (unread start past wire))
  pub short : length payload < 2 ^ 31
  pub error : (zxid : ℤ) × (code : ℤ) × (behind : List ℕ) × (code ≢ pos 0) × IsHeaded part_xid zxid code payload behind

-- What may come in a schedule.
abbrev pub MayEnterAt : (Text → Type 0) → History → Start → LocalEntry → Past → Wire → Type 0
MayEnterAt P h start (Goes place item) past wire = MayEnter h start (Goes_on place item) past wire
MayEnterAt P h start (Steps step payloads) past wire = MayStepAt P h start step payloads past wire
MayEnterAt P h start (Tells sent payloads) past wire = MayTell sent payloads past wire
MayEnterAt P h start (Denies call payload) past wire = MayDeny start call payload past wire
MayEnterAt P h start (Fails payload rest) past wire = MayFail start payload past wire

-- A schedule has the newest entry first.
abbrev pub IsServingAt : (Text → Type 0) → History → Start → List LocalEntry → Type 0
IsServingAt P h start [] = ⊤
IsServingAt P h start (entry ∷ earlier) =
    MayEnterAt P h start entry (past_of start (items_at earlier)) (wire_at h earlier) × IsServingAt P h start earlier

-- The client was served by servers that keep to the model at these paths: there is a schedule of its items.
pub record ServedAt (P : Text → Type 0) (h : History) (start : Start) (items : List Item) : Type 0 where
  pub entries : List LocalEntry
  pub whole : items_at entries ≡ items
  pub may : IsServingAt P h start entries

-- an entry of a schedule of the model
abbrev pub local_of : Entry → LocalEntry
local_of (Goes_on place item) = Goes place item
local_of (Serves step payloads) = Steps step payloads
