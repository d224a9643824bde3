-- A request as it arrives: its header, and the record of the operation that the header's type means. Another
-- type is a fault of its own, which is told once the header is whole.
use Rattle.std.specs.Prelude.{ℕ, ℤ, List, Option, Some, None, Result, Ok, Err}
use Rattle.zk_jute.specs.declared.fault.TakeError.{TakeError}
use Rattle.zk_jute.specs.Layout.{Value}
use Rattle.zk_jute.specs.Reading.{reading}
use Rattle.zk_records.specs.declared.operation.Operation.{Operation}
use Rattle.zk_records.specs.declared.request.Request.{Request}
use Rattle.zk_records.specs.declared.request_fault.RequestFault.{RequestFault}
use Rattle.zk_records.specs.declared.request_fault.RequestFault.TheVariants.{Unknown, Unread}
use Rattle.zk_records.specs.Layouts.{request_header}
use Rattle.zk_records.specs.Operations.{operation_number, operation_numbered, body_layout, request_layout}
use Rattle.zk_records.specs.Request.{operation_of, body_of}

pub record Asked : Type 0 where
  pub xid : ℤ
  pub operation : Operation
  pub body : Value (body_layout operation)

abbrev pub asked_of : {A : Type 0} → ℤ → Request A → Asked
asked_of xid r = record { xid = xid; operation = operation_of r; body = body_of r }

-- what the payload of its frame spells
abbrev pub asked_value : (asked : Asked) → Value (request_layout asked.operation)
asked_value asked = (asked.xid, (operation_number asked.operation, asked.body))

abbrev pub with_body : ℤ → (operation : Operation)
    → Result (Value (body_layout operation) × List ℕ) TakeError → Result (Asked × List ℕ) RequestFault
with_body xid operation (Ok found) = Ok (record { xid = xid; operation = operation; body = found.0 }, found.1)
with_body xid operation (Err fault) = Err (Unread fault)

abbrev pub behind_header : ℕ → Value request_header → Option Operation → List ℕ → Result (Asked × List ℕ) RequestFault
behind_header end header (Some operation) bytes = with_body header.0 operation (reading (body_layout operation) end bytes)
behind_header end header None bytes = Err (Unknown header.1)

abbrev pub with_header : ℕ → Result (Value request_header × List ℕ) TakeError → Result (Asked × List ℕ) RequestFault
with_header end (Ok found) = behind_header end found.0 (operation_numbered found.0.1) found.1
with_header end (Err fault) = Err (Unread fault)

unfoldable pub request_at : ℕ → List ℕ → Result (Asked × List ℕ) RequestFault
request_at end bytes = with_header end (reading request_header end bytes)
