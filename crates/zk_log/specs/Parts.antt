-- The parts of a multi, as operations with their fields.
use Rattle.std.specs.Prelude.{ℕ, ℤ, List, [], ◌∷◌, length, Option, Some, None, Result, Ok, Err}
use Rattle.zk_jute.specs.declared.fault.TakeError.{TakeError}
use Rattle.zk_jute.specs.Layout.{Value}
use Rattle.zk_jute.specs.Reading.{place_of, reading}
use Rattle.zk_log.specs.declared.kind.TxnKind.{TxnKind}
use Rattle.zk_log.specs.declared.entry_fault.EntryFault.{EntryFault}
use Rattle.zk_log.specs.declared.entry_fault.EntryFault.TheVariants.{Unread, Unknown, Trailing}
use Rattle.zk_log.specs.declared.txn.Txn.{Txn}
use Rattle.zk_log.specs.Kinds.{kind_at, fields}
use Rattle.zk_log.specs.Views.{kind_of, body_of}

-- an operation with its fields
pub record Operation : Type 0 where
  pub kind : TxnKind
  pub body : Value (fields kind)

abbrev pub operation_of : {A : Type 0} → Txn A → Operation
operation_of t = record { kind = kind_of t; body = body_of t }

-- an operation, if no bytes are left after it
abbrev pub left_at : ℕ → List ℕ → Operation → Result Operation EntryFault
left_at place [] operation = Ok operation
left_at place (byte ∷ bytes) operation = Err (Trailing place)

abbrev pub with_fields : ℕ → (kind : TxnKind) → Result (Value (fields kind) × List ℕ) TakeError → Result Operation EntryFault
with_fields end kind (Ok found) = left_at (place_of end found.1) found.1 (record { kind = kind; body = found.0 })
with_fields end kind (Err fault) = Err (Unread fault)

abbrev pub with_number : ℤ → List ℕ → Option TxnKind → Result Operation EntryFault
with_number number bytes None = Err (Unknown number)
with_number number bytes (Some kind) = with_fields (length bytes) kind (reading (fields kind) (length bytes) bytes)

-- the operation of this number that these bytes are, all of them
unfoldable pub part_at : ℤ → List ℕ → Result Operation EntryFault
part_at number bytes = with_number number bytes (kind_at number bytes)
