-- What is left of the bytes, from the sums so far on, gives the sums of all of them. The sums are not taken modulo the prime yet, and have
-- grown by so many bytes since they were.
use Rattle.std.proofs.Common.{◌≡◌, ◌<◌, ◌≤◌, ◌+◌, ◌*◌, ◌%◌, drop}
use Rattle.zk_log.specs.Checksum.{sums_after}
use Rattle.zk_log.proofs.checksum.adler32.Given as goal

abbrev pub invariant-loop-byte : goal.invariant-loop-byte
invariant-loop-byte l = record {
  count : l.count < 1024;
  first : l.first ≤ 65520 + l.count * 255;
  second : l.second ≤ 65520 + l.count * 326640;
  left : sums_after (drop l.byte-index l.bytes) (l.first % 65521) (l.second % 65521) ≡ sums_after l.bytes 1 0;
}
