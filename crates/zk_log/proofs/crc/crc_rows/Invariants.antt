-- The rows so far are those of the bytes below the next one.
use Rattle.std.proofs.Common.{◌≡◌, ℕ, ◌<◌, length, get_or}
use Rattle.zk_log.specs.Crc.{crc_row}
use Rattle.zk_log.proofs.crc.crc_rows.Given as goal

abbrev pub invariant-loop-byte : goal.invariant-loop-byte
invariant-loop-byte g l = record {
  count : length l.rows.items ≡ l.byte;
  each : (byte : ℕ) → byte < l.byte → get_or l.rows.items byte 0 ≡ crc_row byte;
}
