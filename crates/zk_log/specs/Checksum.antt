-- Adler-32, the checksum of entries (RFC 1950).
use Rattle.std.specs.Prelude.{ℕ, ◌+◌, ◌*◌, ◌%◌, List, [], ◌∷◌}

-- Two sums: of the bytes, and of the first sum after each byte. Both are taken modulo 65,521.
abbrev pub sums_after : List ℕ → ℕ → ℕ → ℕ × ℕ
sums_after [] first second = (first, second)
sums_after (byte ∷ bytes) first second = sums_after bytes ((first + byte) % 65521) ((second + (first + byte) % 65521) % 65521)

-- The sums begin with 1 and 0; the second is the upper half.
unfoldable pub adler32 : List ℕ → ℕ
adler32 bytes = let sums = sums_after bytes 1 0 in sums.1 * 65536 + sums.0
