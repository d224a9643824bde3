-- A session that is put away, and its spelling as bytes and as text.
use Rattle.std.specs.Prelude.{◌≡◌, ◌≢◌, ◌≤◌, ℕ, ℤ, pos, ◌≤ℤ◌, int_lt, nat_lt, if◌then◌else◌, List, [], ◌∷◌, ◌++◌, length, codes, Some, None}
use Rattle.std.specs.Prelude.{Result, Ok, Err, MatchResult, FitsSigned}
use Rattle.std.specs.Fmt.{decimal, signed_decimal}
use Rattle.std.specs.Int.{w64}
use Rattle.hex.specs.declared.error.FromHexError.{FromHexError}
use Rattle.hex.specs.declared.error.FromHexError.TheVariants.{InvalidHexCharacter, OutOfMemory}
use Rattle.zk_jute.specs.FaultText.{take_error_words}
use Rattle.zk_jute.specs.Layout.{Layout, long, buffer, ◌⨾◌, Value}
use Rattle.zk_jute.specs.Reading.{reading}
use Rattle.zk_jute.specs.Spelling.{IsBytes, spelling}
use Rattle.zk_jute.specs.declared.fault.TakeError.{TakeError}
use Rattle.zk_client.specs.declared.saved_fault.SavedFault.{SavedFault}
use Rattle.zk_client.specs.declared.saved_fault.SavedFault.TheVariants.{NotHex, OddDigits, Unread, BytesBehind, NoPassword, LongPassword}
use Rattle.zk_client.specs.declared.saved_fault.SavedFault.TheVariants.{NegativeZxid, Memory}
use Rattle.zk_limits.specs.declared.limits.TheConstants.{LONGEST_PASSWORD}

-- what is put away: the session's id, its password, and the last seen zxid
pub record PutAway : Type 0 where
  pub session : ℤ
  pub password : List ℕ
  pub last : ℤ

-- what a client can be resumed from
pub record IsInRange (password : List ℕ) (last : ℤ) : Type 0 where
  pub short : length password ≤ LONGEST_PASSWORD
  pub counts : pos 0 ≤ℤ last

-- what a session can be put away as
pub record CanBePutAway (value : PutAway) : Type 0 where
  pub in_range : IsInRange value.password value.last
  pub session : FitsSigned w64 value.session
  pub last : FitsSigned w64 value.last
  pub bytes : IsBytes value.password

-- ---- the spelling

-- long session; buffer password; long lastZxid
abbrev pub saved_layout : Layout
saved_layout = long ⨾ (buffer ⨾ long)

abbrev pub saved_bytes : PutAway → List ℕ
saved_bytes value = spelling saved_layout (value.session, (Some value.password, value.last))

-- ---- what is refused, and as what

-- three fields: a password that is too long is told before a zxid below 0
abbrev pub put_away : ℤ → List ℕ → ℤ → Result PutAway SavedFault
put_away session password last =
    if nat_lt LONGEST_PASSWORD (length password) then Err (LongPassword (length password))
    else if int_lt last (pos 0) then Err (NegativeZxid last)
    else Ok (record { session = session; password = password; last = last })

-- a record, and the bytes after it
abbrev pub record_read : Result (Value saved_layout × List ℕ) TakeError → Result PutAway SavedFault
record_read (Ok ((session, (Some password, last)), [])) = put_away session password last
record_read (Ok ((session, (None, last)), [])) = Err NoPassword
record_read (Ok (fields, b ∷ rest)) = Err (BytesBehind (length (b ∷ rest)))
record_read (Err fault) = Err (Unread fault)

abbrev pub bytes_read : List ℕ → Result PutAway SavedFault
bytes_read bytes = record_read (reading saved_layout (length bytes) bytes)

-- why a text of this many bytes is no digits
abbrev pub no_digits : ℕ → FromHexError → SavedFault
no_digits count (InvalidHexCharacter c place) = NotHex place
no_digits count OutOfMemory = Memory
no_digits count _ = OddDigits count

abbrev pub digits_read : ℕ → Result (List ℕ) FromHexError → Result PutAway SavedFault
digits_read count (Ok bytes) = bytes_read bytes
digits_read count (Err fault) = Err (no_digits count fault)

-- ---- what calls answer

-- a fault is told, and a value is given unless memory runs out
abbrev pub Gives : Result PutAway SavedFault → Result PutAway SavedFault → Type 0
Gives (Ok value) result = MatchResult result (λ saved. saved ≡ value) (λ fault. fault ≡ Memory)
Gives (Err fault) result = result ≡ Err fault

-- the same, where memory may also run out before a fault is seen
abbrev pub GivesLater : Result PutAway SavedFault → Result PutAway SavedFault → Type 0
GivesLater read (Ok saved) = read ≡ Ok saved
GivesLater read (Err fault) = fault ≢ Memory → read ≡ Err fault

-- ---- how a fault is shown

abbrev pub saved_fault_text : SavedFault → List ℕ
saved_fault_text (NotHex place) = codes "the byte at place " ++ decimal place ++ codes " is no hexadecimal digit"
saved_fault_text (OddDigits count) = codes "an odd number of hexadecimal digits: " ++ decimal count
saved_fault_text (Unread fault) = codes "no saved session: " ++ take_error_words fault
saved_fault_text (BytesBehind count) = codes "bytes after the saved session: " ++ decimal count
saved_fault_text NoPassword = codes "the password is null"
saved_fault_text (LongPassword length) = codes "a password of " ++ decimal length ++ codes " bytes, where 4194284 are the most"
saved_fault_text (NegativeZxid last) = codes "the last seen zxid is below 0: " ++ signed_decimal last
saved_fault_text Memory = codes "out of memory"

-- how {:?} shows a saved session: without its password
abbrev pub saved_debug_text : PutAway → List ℕ
saved_debug_text value = codes "SavedSession { session: "
    ++ (signed_decimal value.session ++ (codes ", last_zxid: " ++ (signed_decimal value.last ++ codes ", .. }")))
