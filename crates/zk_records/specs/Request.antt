-- What a request asks, without where it lies in memory.
use Rattle.std.specs.Prelude.{map}
use Rattle.std.specs.Option.{option_map}
use Rattle.zk_jute.specs.Layout.{Value}
use Rattle.zk_records.specs.declared.read_request.ReadRequest.{ReadRequest}
use Rattle.zk_records.specs.declared.acl.Acl.{Acl}
use Rattle.zk_records.specs.declared.operation.Operation.{Operation}
use Rattle.zk_records.specs.declared.operation.Operation.TheVariants as operation
use Rattle.zk_records.specs.declared.request.Request.{Request}
use Rattle.zk_records.specs.declared.request.Request.TheVariants as request
use Rattle.zk_records.specs.Layouts.{acl, read_request}
use Rattle.zk_records.specs.Operations.{body_layout}

abbrev pub operation_of : {A : Type 0} → Request A → Operation
operation_of (request.Exists r) = operation.Exists
operation_of (request.GetData r) = operation.GetData
operation_of (request.GetChildren r) = operation.GetChildren
operation_of (request.GetChildren2 r) = operation.GetChildren2
operation_of (request.SetData r) = operation.SetData
operation_of (request.Create r) = operation.Create
operation_of (request.Delete r) = operation.Delete
operation_of (request.SetWatches r) = operation.SetWatches
operation_of request.Ping = operation.Ping
operation_of request.CloseSession = operation.CloseSession

abbrev pub read_of : {A : Type 0} → ReadRequest A → Value read_request
read_of r = (r.path, r.watch)

abbrev pub acl_of : {A : Type 0} → Acl A → Value acl
acl_of a = (a.perms, (a.id.scheme, a.id.id))

abbrev pub body_of : {A : Type 0} → (r : Request A) → Value (body_layout (operation_of r))
body_of (request.Exists r) = read_of r
body_of (request.GetData r) = read_of r
body_of (request.GetChildren r) = read_of r
body_of (request.GetChildren2 r) = read_of r
body_of (request.SetData r) = (r.path, (r.bytes, r.version))
body_of (request.Create r) = (r.path, (r.bytes, (option_map (λ v. map acl_of v.items) r.acl.elements, r.flags)))
body_of (request.Delete r) = (r.path, r.version)
body_of (request.SetWatches r) = (
  r.relative_zxid,
  (
    option_map (λ v. map (λ t. t) v.items) r.data_watches.elements,
    (option_map (λ v. map (λ t. t) v.items) r.exist_watches.elements, option_map (λ v. map (λ t. t) v.items) r.child_watches.elements),
  ),
)
body_of request.Ping = tt
body_of request.CloseSession = tt
