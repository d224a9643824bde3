-- What a read brings, and what a write takes.
use Rattle.std.specs.Prelude.{◌≡◌, ◌==◌, ⊤, ℕ, Bool, true, false, if◌then◌else◌, List, Option, Some, None, Result, Ok, Err}
use Rattle.std.specs.Io.KnownBytes.{Consumes, Keeps}
use Rattle.std_io.specs.IoError.{error_kind}
use Rattle.std_io.specs.declared.io.error.Error.{Error}
use Rattle.std_io.specs.declared.io.kind.ErrorKind.{ErrorKind}
use Rattle.std_io.specs.declared.io.kind.ErrorKind.TheVariants.{WouldBlock, TimedOut, Interrupted, ConnectionRefused, ConnectionReset}
use Rattle.std_io.specs.declared.io.kind.ErrorKind.TheVariants.{HostUnreachable, NetworkUnreachable, NotFound}
use Rattle.zk_driver.specs.declared.reason.Reason.{Reason}
use Rattle.zk_driver.specs.declared.reason.Reason.TheVariants as reason
use Rattle.zk_link.specs.declared.brought.Brought.{Brought}
use Rattle.zk_link.specs.declared.brought.Brought.TheVariants as brought
use Rattle.zk_driver.specs.declared.bring.Reading.{Reading}
use Rattle.zk_driver.specs.declared.bring.Reading.TheVariants.{Bytes, Nothing, End}

-- whether a read or a write that failed so may succeed later
abbrev pub is_late : ErrorKind → Bool
is_late WouldBlock = true
is_late TimedOut = true
is_late Interrupted = true
is_late _ = false

-- the reason that an error has
abbrev pub reason_of : ErrorKind → Reason
reason_of ConnectionRefused = reason.Refused
reason_of TimedOut = reason.TimedOut
reason_of ConnectionReset = reason.Reset
reason_of HostUnreachable = reason.Unreachable
reason_of NetworkUnreachable = reason.Unreachable
reason_of NotFound = reason.NotFound
reason_of kind = reason.Other

-- What a read has brought. One that failed, and not because it was late, is the end of a connection, as one that has no more bytes.
abbrev pub reading_of : Result ℕ Error → Reading
reading_of (Ok count) = if count == 0 then End reason.EndOfStream else Bytes count
reading_of (Err fault) = if is_late (error_kind fault) then Nothing else End (reason_of (error_kind fault))

-- How many bytes a write took, or none if the connection has failed.
abbrev pub written_by : Result ℕ Error → Option ℕ
written_by (Ok count) = if count == 0 then None else Some count
written_by (Err fault) = if is_late (error_kind fault) then Some 0 else None

-- Of a stream that knows what it will give: a piece is what it gave by the read, from the first byte on, and nothing takes none of it.
abbrev pub Gives : {A : Type 0} → (before after : Option (List ℕ)) → Brought A → Type 0
Gives before after (brought.Piece bytes) = Consumes before after bytes.items
Gives before after brought.Nothing = Keeps before after
Gives before after brought.End = ⊤

-- What was brought is what the stream that is there gave by a read: a piece is the first bytes that it had, in order, and none of the
-- others is gone.
abbrev pub IsBrought : {A S : Type 0} → (remaining : S → Option (List ℕ)) → (stream : Option S) → Brought A → Type 0
IsBrought remaining stream brought.End = ⊤
IsBrought {A} {S} remaining stream brought = (before after : S) × (stream ≡ Some after) × Gives (remaining before) (remaining after) brought
