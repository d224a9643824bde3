-- What a caller asks, and the payload of each request.
use Rattle.std.specs.Prelude.{ℕ, ℤ, pos, negsuc, ◌==◌, Bool, false, List, ◌++◌, map, Option, Some, None, if◌then◌else◌}
use Rattle.zk_nodes.specs.Path.{Text}
use Rattle.zk_jute.specs.Layout.{Value}
use Rattle.zk_jute.specs.Spelling.{spelling}
use Rattle.zk_records.specs.declared.operation.Operation.{Operation}
use Rattle.zk_records.specs.declared.operation.Operation.TheVariants as operation
use Rattle.zk_records.specs.Layouts.{connect_request, request_header}
use Rattle.zk_records.specs.OpenAcl.{open_acl}
use Rattle.zk_records.specs.Operations.{operation_number, body_layout, request_layout}
use Rattle.zk_conversation.specs.declared.raw.RawOperation.{RawOperation}
use Rattle.zk_conversation.specs.declared.raw.RawOperation.TheVariants as raw

-- the type number of a request that a caller spells
abbrev pub raw_number : RawOperation → ℤ
raw_number raw.GetAcl = pos 6
raw_number raw.SetAcl = pos 7
raw_number raw.Sync = pos 9
raw_number raw.Multi = pos 14
raw_number raw.Create2 = pos 15
raw_number raw.CreateContainer = pos 19
raw_number raw.CreateTtl = pos 21
raw_number raw.MultiRead = pos 22
raw_number raw.GetEphemerals = pos 103
raw_number raw.GetAllChildrenNumber = pos 104
raw_number raw.WhoAmI = pos 107

-- the one of a number, if it is one
abbrev pub raw_numbered : ℤ → Option RawOperation
raw_numbered (pos n) =
    if n == 6 then Some raw.GetAcl
    else if n == 7 then Some raw.SetAcl
    else if n == 9 then Some raw.Sync
    else if n == 14 then Some raw.Multi
    else if n == 15 then Some raw.Create2
    else if n == 19 then Some raw.CreateContainer
    else if n == 21 then Some raw.CreateTtl
    else if n == 22 then Some raw.MultiRead
    else if n == 103 then Some raw.GetEphemerals
    else if n == 104 then Some raw.GetAllChildrenNumber
    else if n == 107 then Some raw.WhoAmI
    else None
raw_numbered (negsuc n) = None

-- What a caller asks. A read says whether it is to leave a watch; data may be null; a create has a mode from 0 to 3. Of what a
-- caller spells there are the bytes that stand after the header.
pub data Call : Type 0 where
  Exists GetData GetChildren : (path : Text) → (watch : Bool) → Call
  SetData : (path : Text) → (bytes : Option (List ℕ)) → (version : ℤ) → Call
  Create : (path : Text) → (bytes : Option (List ℕ)) → (mode : ℕ) → Call
  Delete : (path : Text) → (version : ℤ) → Call
  Close : Call
  Raw : RawOperation → (bytes : List ℕ) → Call

-- What a request says after its xid: an operation with its record, or the number of one with bytes as the caller has spelled them.
pub data Wording : Type 0 where
  Spelled : (operation : Operation) → Value (body_layout operation) → Wording
  Given : (operation : ℤ) → (bytes : List ℕ) → Wording

-- the names below a node are asked for together with its Stat
abbrev pub wording : Call → Wording
wording (Exists path watch) = Spelled operation.Exists (Some path, watch)
wording (GetData path watch) = Spelled operation.GetData (Some path, watch)
wording (GetChildren path watch) = Spelled operation.GetChildren2 (Some path, watch)
wording (SetData path bytes version) = Spelled operation.SetData (Some path, (bytes, version))
wording (Create path bytes mode) = Spelled operation.Create (Some path, (bytes, (open_acl, pos mode)))
wording (Delete path version) = Spelled operation.Delete (Some path, version)
wording Close = Spelled operation.CloseSession tt
wording (Raw operation bytes) = Given (raw_number operation) bytes

-- the payload of a request: its header, and the record of its operation
abbrev pub request_payload : (xid : ℤ) (operation : Operation) → Value (body_layout operation) → List ℕ
request_payload xid operation body = spelling (request_layout operation) (xid, (operation_number operation, body))

-- the same, or the header with the bytes of the caller
abbrev pub worded_payload : (xid : ℤ) → Wording → List ℕ
worded_payload xid (Spelled operation body) = request_payload xid operation body
worded_payload xid (Given operation bytes) = spelling request_header (xid, operation) ++ bytes

unfoldable pub call_payload : (xid : ℤ) → Call → List ℕ
call_payload xid call = worded_payload xid (wording call)

-- The first message of a connection has no header. Its protocol version is 0, and it never asks for a read-only server.
unfoldable pub connect_payload : (last timeout session : ℤ) (password : List ℕ) → List ℕ
connect_payload last timeout session password = spelling connect_request (pos 0, (last, (timeout, (session, (Some password, false)))))

-- the reserved xids of what a client asks by itself
abbrev pub ping_xid : ℤ
ping_xid = negsuc 1

abbrev pub part_xid : ℤ
part_xid = negsuc 7

unfoldable pub ping_payload : List ℕ
ping_payload = request_payload ping_xid operation.Ping tt

-- a list of texts that is not null, and has no null in it
abbrev pub texts_value : List Text → Option (List (Option (List ℕ)))
texts_value texts = Some (map Some texts)

-- setWatches: the paths whose data, absence and children are known as of the relative zxid
unfoldable pub part_payload : (relative : ℤ) (data_watches exist_watches child_watches : List Text) → List ℕ
part_payload relative data_watches exist_watches child_watches =
    request_payload part_xid operation.SetWatches
    (relative, (texts_value data_watches, (texts_value exist_watches, texts_value child_watches)))
