-- What is left of the bytes, from the CRC so far on, gives the CRC of all of them.
use Rattle.std.proofs.Common.{◌≡◌, drop}
use Rattle.zk_log.specs.Crc.{crc_after}
use Rattle.zk_log.proofs.crc.crc_after.Given as goal

abbrev pub invariant-loop-byte : goal.invariant-loop-byte
invariant-loop-byte l = crc_after (drop l.byte-index l.bytes) l.crc ≡ crc_after l.bytes l.fn.crc
