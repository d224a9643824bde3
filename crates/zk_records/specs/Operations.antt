-- The operations, their numbers, and what stands after the header of each.
use Rattle.std.specs.Prelude.{ℤ, pos, negsuc, Option, Some, None, ◌==◌, if◌then◌else◌}
use Rattle.zk_jute.specs.Layout.{Layout, nothing, int, ◌⨾◌}
use Rattle.zk_records.specs.declared.operation.Operation.{Operation}
use Rattle.zk_records.specs.declared.operation.Operation.TheVariants.{Create, Delete, Exists, GetData, SetData, GetChildren, Ping}
use Rattle.zk_records.specs.declared.operation.Operation.TheVariants.{GetChildren2, SetWatches, CloseSession}
use Rattle.zk_records.specs.Layouts.{read_request, set_data_request, create_request, delete_request, set_watches}

abbrev pub operation_number : Operation → ℤ
operation_number Create = pos 1
operation_number Delete = pos 2
operation_number Exists = pos 3
operation_number GetData = pos 4
operation_number SetData = pos 5
operation_number GetChildren = pos 8
operation_number Ping = pos 11
operation_number GetChildren2 = pos 12
operation_number SetWatches = pos 101
operation_number CloseSession = negsuc 10

-- the operation of a number, if it is one
abbrev pub operation_numbered : ℤ → Option Operation
operation_numbered (pos n) =
    if n == 1 then Some Create
    else if n == 2 then Some Delete
    else if n == 3 then Some Exists
    else if n == 4 then Some GetData
    else if n == 5 then Some SetData
    else if n == 8 then Some GetChildren
    else if n == 11 then Some Ping
    else if n == 12 then Some GetChildren2
    else if n == 101 then Some SetWatches
    else None
operation_numbered (negsuc n) = if n == 10 then Some CloseSession else None

abbrev pub body_layout : Operation → Layout
body_layout Create = create_request
body_layout Delete = delete_request
body_layout Exists = read_request
body_layout GetData = read_request
body_layout SetData = set_data_request
body_layout GetChildren = read_request
body_layout Ping = nothing
body_layout GetChildren2 = read_request
body_layout SetWatches = set_watches
body_layout CloseSession = nothing

-- xid, type, and the record of that type
abbrev pub request_layout : Operation → Layout
request_layout operation = int ⨾ (int ⨾ body_layout operation)
