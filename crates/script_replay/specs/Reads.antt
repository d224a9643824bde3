-- What the words of lines that drive a client mean.
use Rattle.std.specs.Prelude.{ℕ, ℤ, pos, negsuc, ◌-◌, ◌==◌, Bool, true, false, nat_le, if◌then◌else◌, List, [], ◌∷◌, codes, length, Option}
use Rattle.std.specs.Prelude.{Some, None, Result, Ok, Err, bytes_eq, option_and_then}
use Rattle.std.specs.Option.{ok_or, option_map}
use Rattle.script_words.specs.declared.script_fault.ScriptFault.{ScriptFault}
use Rattle.script_words.specs.declared.script_fault.ScriptFault.TheVariants.{Words, Number, Hex}
use Rattle.script_words.specs.Numbers.{natural_of}
use Rattle.script_words.specs.Reads.{◌>>=◌, zxid_read, data_at}
use Rattle.zk_limits.specs.declared.limits.TheConstants.{LONGEST_PASSWORD}

-- from 0 to 2^64 - 1
unfoldable pub natural_at : List ℕ → Result ℕ ScriptFault
natural_at word = ok_or (natural_of 18446744073709551615 word) Number

-- from 1 to 2^31 - 1
unfoldable pub timeout_at : List ℕ → Result ℤ ScriptFault
timeout_at word = zxid_read (natural_of 2147483647 word)

-- the number below 0 of this size; 0 has no minus sign
abbrev pub below_zero : ℕ → Option ℤ
below_zero n = if n == 0 then None else Some (negsuc (n - 1))

-- from the least to the greatest number of two's complement, with a minus sign before a negative one
unfoldable pub integer_of : (greatest least : ℕ) → List ℕ → Option ℤ
integer_of greatest least [] = None
integer_of greatest least (b ∷ bytes) =
    if b == 45 then option_and_then below_zero (natural_of least bytes) else option_map pos (natural_of greatest (b ∷ bytes))

-- from -2^31 to 2^31 - 1
unfoldable pub version_at : List ℕ → Result ℤ ScriptFault
version_at word = ok_or (integer_of 2147483647 2147483648 word) Number

-- from -2^63 to 2^63 - 1
unfoldable pub session_at : List ℕ → Result ℤ ScriptFault
session_at word = ok_or (integer_of 9223372036854775807 9223372036854775808 word) Number

-- 0 or 1
abbrev pub boolean_at : List ℕ → Result Bool ScriptFault
boolean_at word = if bytes_eq word (codes "0") then Ok false else (if bytes_eq word (codes "1") then Ok true else Err Words)

-- the mode of a create, from 0 to 3
abbrev pub mode_read : Option ℕ → Result ℕ ScriptFault
mode_read (Some n) = if nat_le n 3 then Ok n else Err Number
mode_read None = Err Number

unfoldable pub mode_at : List ℕ → Result ℕ ScriptFault
mode_at word = mode_read (natural_of 9 word)

-- bytes that are not null
unfoldable pub bytes_at : List ℕ → Result (List ℕ) ScriptFault
bytes_at word = data_at word >>= λ bytes. ok_or bytes Hex

-- A password of more bytes than a server can bring is none of the words allowed, which is told before a number that is none. A
-- word that is no hex is told after it.
abbrev pub password_read : Result (List ℕ) ScriptFault → Result (Option (List ℕ)) ScriptFault
password_read (Ok bytes) = if nat_le (length bytes) LONGEST_PASSWORD then Ok (Some bytes) else Err Words
password_read (Err fault) = Ok None

unfoldable pub password_at : List ℕ → Result (Option (List ℕ)) ScriptFault
password_at word = password_read (bytes_at word)
