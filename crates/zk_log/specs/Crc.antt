-- CRC-32 (RFC 1952): a table of what each byte makes of it, and the CRC of bytes one after another.
use Rattle.std.specs.Prelude.{◌≡◌, ℕ, ◌/◌, ◌%◌, ◌<◌, ◌==◌, if◌then◌else◌, List, [], ◌∷◌, length, slice_index, bit_xor}

-- a step of one bit; the polynomial is EDB88320 hex
abbrev pub crc_bit : ℕ → ℕ
crc_bit crc = if crc % 2 == 0 then crc / 2 else bit_xor (crc / 2) 3988292384

abbrev pub crc_half : ℕ → ℕ
crc_half crc = crc_bit (crc_bit (crc_bit (crc_bit crc)))

-- what a byte makes
unfoldable pub crc_row : ℕ → ℕ
crc_row byte = crc_half (crc_half byte)

-- these are what the bytes from 0 to 255 make
pub record IsTable (rows : List ℕ) : Type 0 where
  pub count : length rows ≡ 256
  pub each : (byte : ℕ) → byte < 256 → slice_index rows byte ≡ crc_row byte

unfoldable pub crc_byte : (crc byte : ℕ) → ℕ
crc_byte crc byte = bit_xor (crc / 256) (crc_row (bit_xor crc byte % 256))

-- the CRC so far, after these bytes
abbrev pub crc_after : List ℕ → ℕ → ℕ
crc_after [] crc = crc
crc_after (byte ∷ bytes) crc = crc_after bytes (crc_byte crc byte)

-- it begins with ones, and ends by turning each bit
abbrev pub crc_begun : ℕ
crc_begun = 4294967295

abbrev pub crc_ended : ℕ → ℕ
crc_ended crc = bit_xor crc 4294967295
