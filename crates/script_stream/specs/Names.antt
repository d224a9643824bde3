-- The names that ZooKeeper gives to numbers.
use Rattle.std.specs.Prelude.{ℕ, ℤ, pos, negsuc, zero, suc, List, codes, Option, Some, None, ◌==◌, if◌then◌else◌}
use Rattle.zk_records.specs.declared.operation.Operation.{Operation}
use Rattle.zk_records.specs.declared.operation.Operation.TheVariants.{Create, Delete, Exists, GetData, SetData, GetChildren, Ping}
use Rattle.zk_records.specs.declared.operation.Operation.TheVariants.{GetChildren2, SetWatches, CloseSession}
use Rattle.zk_records.specs.declared.event.Event.{Event}
use Rattle.zk_records.specs.declared.event.Event.TheVariants.{Created, Deleted, DataChanged, ChildrenChanged}
use Rattle.zk_records.specs.declared.code.Code.{Code}
use Rattle.zk_records.specs.declared.code.Code.TheVariants as code
use Rattle.zk_records.specs.Operations.{operation_numbered}
use Rattle.zk_records.specs.Events.{event_of}
use Rattle.zk_records.specs.Codes.{code_of}

abbrev pub operation_name : Operation → List ℕ
operation_name Create = codes "create"
operation_name Delete = codes "delete"
operation_name Exists = codes "exists"
operation_name GetData = codes "getData"
operation_name SetData = codes "setData"
operation_name GetChildren = codes "getChildren"
operation_name Ping = codes "ping"
operation_name GetChildren2 = codes "getChildren2"
operation_name SetWatches = codes "setWatches"
operation_name CloseSession = codes "closeSession"

-- the names of types whose records are not read here
abbrev pub other_name : ℤ → List ℕ
other_name (pos n) =
    if n == 6 then codes "getACL"
    else if n == 7 then codes "setACL"
    else if n == 9 then codes "sync"
    else if n == 13 then codes "check"
    else if n == 14 then codes "multi"
    else if n == 15 then codes "create2"
    else if n == 16 then codes "reconfig"
    else if n == 18 then codes "removeWatches"
    else if n == 19 then codes "createContainer"
    else if n == 21 then codes "createTTL"
    else if n == 22 then codes "multiRead"
    else if n == 100 then codes "auth"
    else if n == 102 then codes "sasl"
    else if n == 105 then codes "setWatches2"
    else if n == 106 then codes "addWatch"
    else codes "unknown"
other_name (negsuc n) = codes "unknown"

abbrev pub name_by : Option Operation → ℤ → List ℕ
name_by (Some operation) number = operation_name operation
name_by None number = other_name number

abbrev pub type_name : ℤ → List ℕ
type_name number = name_by (operation_numbered number) number

abbrev pub event_by : Option Event → List ℕ
event_by (Some Created) = codes "NodeCreated"
event_by (Some Deleted) = codes "NodeDeleted"
event_by (Some DataChanged) = codes "NodeDataChanged"
event_by (Some ChildrenChanged) = codes "NodeChildrenChanged"
event_by None = codes "unknown"

abbrev pub event_name : ℤ → List ℕ
event_name number = event_by (event_of number)

abbrev pub code_by : Code → List ℕ
code_by code.ConnectionLoss = codes "ConnectionLoss"
code_by code.Unimplemented = codes "Unimplemented"
code_by code.BadArguments = codes "BadArguments"
code_by code.NoNode = codes "NoNode"
code_by code.NoAuth = codes "NoAuth"
code_by code.BadVersion = codes "BadVersion"
code_by code.NoChildrenForEphemerals = codes "NoChildrenForEphemerals"
code_by code.NodeExists = codes "NodeExists"
code_by code.NotEmpty = codes "NotEmpty"
code_by code.SessionExpired = codes "SessionExpired"
code_by code.InvalidAcl = codes "InvalidACL"
code_by code.SessionMoved = codes "SessionMoved"
code_by (code.Other (pos zero)) = codes "Ok"
code_by (code.Other (pos (suc n))) = codes "unknown"
code_by (code.Other (negsuc n)) = codes "unknown"

unfoldable pub code_name : ℤ → List ℕ
code_name number = code_by (code_of number)
