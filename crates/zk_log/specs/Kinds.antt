-- The operations of entries: their numbers, and their fields in the order of the file.
use Rattle.std.specs.Prelude.{ℕ, ℤ, pos, negsuc, Bool, true, ◌&&◌, List, [], ◌∷◌, length, take, Option, Some, None, ◌==◌}
use Rattle.std.specs.Prelude.{if◌then◌else◌}
use Rattle.std.specs.Int.{w32, from_be_bytes}
use Rattle.zk_jute.specs.Layout.{Layout, nothing, int, long, boolean, buffer, ustring, vector, ◌⨾◌}
use Rattle.zk_log.specs.declared.kind.TxnKind.{TxnKind}
use Rattle.zk_log.specs.declared.kind.TxnKind.TheVariants.{Create, Create2, CreateContainer, CreateTtl, Delete, DeleteContainer, Set}
use Rattle.zk_log.specs.declared.kind.TxnKind.TheVariants.{Reconfig, SetAcl, Check, Multi, CreateSession, CloseSession}
use Rattle.zk_log.specs.declared.kind.TxnKind.TheVariants.{CloseSessionAlone, Error}

-- perms, scheme, id
abbrev pub acl : Layout
acl = int ⨾ (ustring ⨾ ustring)

-- path, data, acl, ephemeral, parentCVersion
abbrev pub node : Layout
node = ustring ⨾ (buffer ⨾ (vector acl ⨾ (boolean ⨾ int)))

-- path, data, acl, parentCVersion
abbrev pub container : Layout
container = ustring ⨾ (buffer ⨾ (vector acl ⨾ int))

-- path, data, acl, parentCVersion, ttl
abbrev pub ttl : Layout
ttl = ustring ⨾ (buffer ⨾ (vector acl ⨾ (int ⨾ long)))

-- path, data, version
abbrev pub node_data : Layout
node_data = ustring ⨾ (buffer ⨾ int)

-- path, acl, version
abbrev pub node_acl : Layout
node_acl = ustring ⨾ (vector acl ⨾ int)

-- path, version
abbrev pub node_version : Layout
node_version = ustring ⨾ int

-- a part of a multi: its operation's number, and its fields
abbrev pub part : Layout
part = int ⨾ buffer

-- Error and CreateSession have one number, a code and a timeout. A session is closed with the paths of its ephemeral nodes, or, by
-- older servers and as they are set, with none.
abbrev pub fields : TxnKind → Layout
fields Create = node
fields Create2 = node
fields CreateContainer = container
fields CreateTtl = ttl
fields Delete = ustring
fields DeleteContainer = ustring
fields Set = node_data
fields Reconfig = node_data
fields SetAcl = node_acl
fields Check = node_version
fields Multi = vector part
fields CreateSession = int
fields CloseSession = vector ustring
fields CloseSessionAlone = nothing
fields Error = int

-- negsuc n is -(n + 1)
abbrev pub kind_number : TxnKind → ℤ
kind_number Create = pos 1
kind_number Create2 = pos 15
kind_number CreateContainer = pos 19
kind_number CreateTtl = pos 21
kind_number Delete = pos 2
kind_number DeleteContainer = pos 20
kind_number Set = pos 5
kind_number Reconfig = pos 16
kind_number SetAcl = pos 7
kind_number Check = pos 13
kind_number Multi = pos 14
kind_number CreateSession = negsuc 9
kind_number CloseSession = negsuc 10
kind_number CloseSessionAlone = negsuc 10
kind_number Error = negsuc 0

-- Trailing the header of a close stand no paths: nothing, or a digest, which has 12 bytes and begins with its version, 2. No list of paths
-- begins so, since two paths take more.
unfoldable pub stands_alone : List ℕ → Bool
stands_alone [] = true
stands_alone (byte ∷ bytes) = (length (byte ∷ bytes) == 12) && (from_be_bytes w32 (take 4 (byte ∷ bytes)) == 2)

-- The kind of an entry by its number and the bytes after its header, if it is one.
unfoldable pub kind_at : ℤ → List ℕ → Option TxnKind
kind_at (pos n) behind =
    if n == 1 then Some Create
    else if n == 2 then Some Delete
    else if n == 5 then Some Set
    else if n == 7 then Some SetAcl
    else if n == 13 then Some Check
    else if n == 14 then Some Multi
    else if n == 15 then Some Create2
    else if n == 16 then Some Reconfig
    else if n == 19 then Some CreateContainer
    else if n == 20 then Some DeleteContainer
    else if n == 21 then Some CreateTtl
    else None
kind_at (negsuc n) behind =
    if n == 0 then Some Error
    else if n == 9 then Some CreateSession
    else if n == 10 then (if stands_alone behind then Some CloseSessionAlone else Some CloseSession)
    else None
