-- What a server finds in the bytes of a connection, when it cuts them into frames.
use Rattle.std.specs.Prelude.{◌≡◌, ℕ, ℤ, pos, ◌≤◌, ◌<◌, ◌+◌, ◌^◌, false, List, [], ◌∷◌, ◌++◌, length, map, Some, Ok, ⊤}
use Rattle.std.specs.List.{flat_map, AllByRecursion}
use Rattle.zk_jute.specs.Layout.{Layout, Value}
use Rattle.zk_jute.specs.Reading.{reading}
use Rattle.zk_records.specs.Layouts.{connect_request}
use Rattle.zk_records.specs.Operations.{operation_number, body_layout, request_layout}
use Rattle.zk_records.specs.declared.operation.Operation.{Operation}
use Rattle.zk_records.specs.declared.operation.Operation.TheVariants as operation
use Rattle.zk_conversation.specs.Calls.{wording, texts_value}
use Rattle.zk_frames.specs.Frame.{joined, length_field}
use Rattle.zk_turns.specs.Turns.{Start, Item}
use Rattle.zk_turns.specs.Sent.{sends, outputs_of}
use Rattle.zk_turns.specs.Spelled.{ReadsAs}
use Rattle.zk_turns.specs.Taken.{past_of}
use Rattle.zk_laws.specs.Messages.{Request, Connect, Restore, Ask, Ping}
use Rattle.zk_laws.specs.Served.{Sent, requests}

-- the bytes that the newest connection was sent
abbrev pub stream_of : List Item → List ℕ
stream_of items = flat_map (λ bytes. bytes) (sends (outputs_of items))

-- the payloads of what was asked on it, in order
abbrev pub payloads_of : Start → List Item → List (List ℕ)
payloads_of start items = map (λ sent. sent.payload) (requests start (past_of start items))

-- each payload is of a length that four bytes with a sign can tell
abbrev pub AreTold : List (List ℕ) → Type 0
AreTold payloads = AllByRecursion (λ payload. length payload < 2 ^ 31) payloads

-- Bytes are cut into frames: after the frames of these payloads stands less than a whole one.
pub record IsCutInto (payloads : List (List ℕ)) (rest bytes : List ℕ) : Type 0 where
  pub whole : bytes ≡ joined payloads ++ rest
  pub told : AreTold payloads
  pub short : 4 ≤ length rest → length rest < 4 + length_field rest

-- the payload is read as this record, and nothing is left
abbrev pub IsRecord : (layout : Layout) → Value layout → List ℕ → Type 0
IsRecord layout value payload = reading layout (length payload) payload ≡ Ok (value, [])

-- it is read as a header with this xid and the operation's number, and this record
abbrev pub IsRequest : ℤ → (operation : Operation) → Value (body_layout operation) → List ℕ → Type 0
IsRequest xid operation body payload = IsRecord (request_layout operation) (xid, (operation_number operation, body)) payload

-- What a server reads in the payload of a request is what was asked.
abbrev pub IsReadAs : Request → ℤ → List ℕ → Type 0
IsReadAs (Connect seen) xid payload =
    (timeout : ℤ) × (session : ℤ) × (password : List ℕ)
    × IsRecord connect_request (pos 0, (pos seen, (timeout, (session, (Some password, false))))) payload
IsReadAs (Restore is_last relative part) xid payload =
    IsRequest xid operation.SetWatches
    (pos relative, (texts_value part.data_watches, (texts_value part.exist_watches, texts_value part.child_watches))) payload
IsReadAs (Ask call) xid payload = ReadsAs xid (wording call) (length payload) payload []
IsReadAs Ping xid payload = IsRequest xid operation.Ping tt payload

-- each payload is read as the request in its place
abbrev pub AreReadAs : List Sent → List (List ℕ) → Type 0
AreReadAs sent [] = ⊤
AreReadAs [] (payload ∷ payloads) = ⊥
AreReadAs (first ∷ more) (payload ∷ payloads) = IsReadAs first.request first.xid payload × AreReadAs more payloads
