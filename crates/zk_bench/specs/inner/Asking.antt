-- What a request asks of a server that has accepted the client, in the words of the laws.
use Rattle.std.specs.Prelude.{ℕ, pos, ◌≡◌, ◌≤◌, Some, ⊤}
use Rattle.zk_jute.specs.Layout.{Value}
use Rattle.zk_nodes.specs.PathFault.{IsPath}
use Rattle.zk_records.specs.declared.operation.Operation.{Operation}
use Rattle.zk_records.specs.declared.operation.Operation.TheVariants as operation
use Rattle.zk_records.specs.declared.request.Request.{Request}
use Rattle.zk_records.specs.Operations.{body_layout}
use Rattle.zk_records.specs.Request.{operation_of, body_of}
use Rattle.zk_conversation.specs.Calls as call
use Rattle.zk_conversation.specs.Calls.{Call, texts_value}
use Rattle.zk_watches.specs.Lists.{Lists}
use Rattle.zk_laws.specs.Messages as wanted
use Rattle.zk_bench.specs.inner.Answering.{IsRead}
use Rattle.zk_bench.specs.inner.Restoring.{ArePaths}

-- The record after the header of an operation is that of this call: of a path, and with a mode from 0 to 3.
abbrev pub IsBodyOf : (named : Operation) → Value (body_layout named) → Call → Type 0
IsBodyOf operation.Exists body (call.Exists text watch) = IsPath text × (body.0 ≡ Some text) × (body.1 ≡ watch)
IsBodyOf operation.GetData body (call.GetData text watch) = IsPath text × (body.0 ≡ Some text) × (body.1 ≡ watch)
IsBodyOf operation.GetChildren2 body (call.GetChildren text watch) = IsPath text × (body.0 ≡ Some text) × (body.1 ≡ watch)
IsBodyOf operation.SetData body (call.SetData text content version) =
    IsPath text × (body.0 ≡ Some text) × (body.1.0 ≡ content) × (body.1.1 ≡ version)
IsBodyOf operation.Create body (call.Create text content mode) =
    IsPath text × (body.0 ≡ Some text) × (body.1.0 ≡ content) × (body.1.1.1 ≡ pos mode) × (mode ≤ 3)
IsBodyOf operation.Delete body (call.Delete text version) = IsPath text × (body.0 ≡ Some text) × (body.1 ≡ version)
IsBodyOf operation.CloseSession body call.Close = ⊤
IsBodyOf _ _ _ = ⊥

-- It is that of a part of setWatches: of paths, with this relative zxid.
abbrev pub IsPartOf : (named : Operation) → Value (body_layout named) → ℕ → Lists → Type 0
IsPartOf operation.SetWatches body since part =
    (body.0 ≡ pos since) × (body.1.0 ≡ texts_value part.data_watches) × (body.1.1.0 ≡ texts_value part.exist_watches)
    × (body.1.1.1 ≡ texts_value part.child_watches) × ArePaths part
IsPartOf _ _ since part = ⊥

abbrev pub IsPing : Operation → Type 0
IsPing operation.Ping = ⊤
IsPing _ = ⊥

-- The record asks for this.
abbrev pub Wants : (named : Operation) → Value (body_layout named) → wanted.Request → Type 0
Wants named body (wanted.Connect seen) = ⊥
Wants named body (wanted.Restore is_last since part) = IsPartOf named body since part
Wants named body (wanted.Ask asked) = IsBodyOf named body asked
Wants named body wanted.Ping = IsPing named

-- So does the request.
abbrev pub Asks : {A : Type 0} → Request A → wanted.Request → Type 0
Asks request asked = Wants (operation_of request) (body_of request) asked

-- It is a read, or a part of setWatches: the history stays as it is.
abbrev pub IsLook : wanted.Request → Type 0
IsLook (wanted.Restore is_last since part) = ⊤
IsLook (wanted.Ask asked) = IsRead asked
IsLook _ = ⊥
