-- What is put away is read again, and what is read was spelled so: by the laws of the layouts that its bytes have, and digit by digit as
-- text.
use Rattle.std.proofs.Common.{◌≡◌, ℕ, zero, suc, ◌<◌, ◌≤◌, ℤ, pos, negsuc, ◌≤ℤ◌, Bool, true, false, List, [], ◌∷◌, ◌++◌, length, Some, None}
use Rattle.std.proofs.Common.{Result, Ok, Err, refl, sym, ap, subst, ◌∙◌, arith}
use Rattle.std.specs.Prelude.{IfOk, MatchResult, int_lt, nat_lt, if◌then◌else◌}
use Rattle.std.specs.Int.{w32, w64, byte_at, bytes_high_first, cast_unsigned}
use Rattle.std.proofs.lemmas.Bool.{le-ltb}
use Rattle.std.proofs.lemmas.Int.{ints}
use Rattle.std.proofs.lemmas.List.{append-nil}
use Rattle.hex.specs.Hex.{decode_of, encode_lower}
use Rattle.hex.proofs.HexLemmas.{decode_of-encode_lower}
use Rattle.zk_jute.specs.inner.Laws.{reads}
use Rattle.zk_jute.specs.Layout.{Value}
use Rattle.zk_jute.specs.Reading.{reading}
use Rattle.zk_jute.specs.Spelling.{IsBytes, Fits, spelling, long_bytes, int_bytes, counted_bytes}
use Rattle.zk_jute.specs.declared.fault.TakeError.{TakeError}
use Rattle.zk_client.specs.declared.saved_fault.SavedFault.{SavedFault}
use Rattle.zk_client.specs.declared.saved_fault.SavedFault.TheVariants.{Memory}
use Rattle.zk_client.specs.SavedSessions.{PutAway, IsInRange, CanBePutAway, Gives, bytes_read, put_away, record_read}
use Rattle.zk_client.specs.SavedSessions.{saved_bytes, saved_layout}
use Rattle.zk_limits.specs.declared.limits.TheConstants.{LONGEST_PASSWORD}

-- ---- bytes

IsBytes-append : (a b : List ℕ) → IsBytes a → IsBytes b → IsBytes (a ++ b)
IsBytes-append [] b fits_a fits_b i = fits_b i
IsBytes-append (x ∷ a) b fits_a fits_b zero = fits_a 0
IsBytes-append (x ∷ a) b fits_a fits_b (suc i) = IsBytes-append a b (λ k. fits_a (suc k)) fits_b i

byte_at-fits : (i n : ℕ) → byte_at i n < 256
byte_at-fits zero n = omega arith
byte_at-fits (suc i) n = omega arith

IsBytes-high_first : (k n : ℕ) → IsBytes (bytes_high_first k n)
IsBytes-high_first zero n i = omega arith
IsBytes-high_first (suc k) n zero = byte_at-fits k n
IsBytes-high_first (suc k) n (suc i) = IsBytes-high_first k n i

IsBytes-int_bytes : (z : ℤ) → IsBytes (int_bytes z)
unfolding int_bytes
IsBytes-int_bytes z = IsBytes-high_first 4 (cast_unsigned w32 z)

IsBytes-long_bytes : (z : ℤ) → IsBytes (long_bytes z)
unfolding long_bytes
IsBytes-long_bytes z = IsBytes-high_first 8 (cast_unsigned w64 z)

IsBytes-counted : (bytes : List ℕ) → IsBytes bytes → IsBytes (counted_bytes (λ b. b) (Some bytes))
unfolding counted_bytes
IsBytes-counted bytes fits = IsBytes-append (int_bytes (pos (length bytes))) bytes (IsBytes-int_bytes (pos (length bytes))) fits

IsBytes-saved_bytes : (value : PutAway) → IsBytes value.password → IsBytes (saved_bytes value)
IsBytes-saved_bytes value fits =
    let counted : List ℕ = counted_bytes (λ b. b) (Some value.password) in
    IsBytes-append (long_bytes value.session) (counted ++ long_bytes value.last) (IsBytes-long_bytes value.session)
    (IsBytes-append counted (long_bytes value.last) (IsBytes-counted value.password fits) (IsBytes-long_bytes value.last))

-- ---- what was put away is read again

not_below : (last : ℤ) → pos 0 ≤ℤ last → int_lt last (pos 0) ≡ false
not_below (pos n) counts = le-ltb n 0 (omega arith)
not_below (negsuc n) counts = absurd (omega (arith, ints))

put_away-in_range : (value : PutAway) → IsInRange value.password value.last → put_away value.session value.password value.last ≡ Ok value
put_away-in_range value in_range =
    let short : nat_lt LONGEST_PASSWORD (length value.password) ≡ false = le-ltb _ _ in_range.short in
    rw (short, not_below value.last in_range.counts) refl

bytes_read-saved_bytes : (value : PutAway) (bytes : List ℕ) → CanBePutAway value → bytes ≡ saved_bytes value → bytes_read bytes ≡ Ok value
bytes_read-saved_bytes value bytes can e =
    let short : length value.password ≤ LONGEST_PASSWORD = can.in_range.short in
    let fields : Value saved_layout = (value.session, (Some value.password, value.last)) in
    let fits : Fits saved_layout fields = (can.session, (omega arith, can.last)) in
    let again : reading saved_layout (length bytes) bytes ≡ Ok (fields, []) =
    ap (reading saved_layout (length bytes)) (e ∙ sym (append-nil (saved_bytes value)))
    ∙ (reads saved_layout (length bytes)).again fields [] fits in
    ap record_read again ∙ put_away-in_range value can.in_range

-- reading gives what was put away, unless memory runs out
pub only_saved : (value : PutAway) (bytes : List ℕ) (result : Result PutAway SavedFault) → CanBePutAway value → bytes ≡ saved_bytes value
    → Gives (bytes_read bytes) result → MatchResult result (λ saved. saved ≡ value) (λ fault. fault ≡ Memory)
only_saved value bytes result can e gives =
    subst (λ (read : Result PutAway SavedFault). Gives read result) (bytes_read-saved_bytes value bytes can e) gives

-- the digits of what was put away stand for its bytes
pub decode_of-saved_text : (value : PutAway) (text : List ℕ)
    → CanBePutAway value → text ≡ encode_lower (saved_bytes value) → decode_of text ≡ Ok (saved_bytes value)
decode_of-saved_text value text can e = ap decode_of e ∙ decode_of-encode_lower (saved_bytes value) (IsBytes-saved_bytes value can.bytes)

-- ---- what is read was spelled so

chosen : (long below : Bool) (first second : SavedFault) (value saved : PutAway)
    → Gives (if long then Err first else if below then Err second else Ok value) (Ok saved) → saved ≡ value
chosen true below first second value saved gives = absurd cc
chosen false true first second value saved gives = absurd cc
chosen false false first second value saved gives = gives

found_in : (bytes : List ℕ) (read : Result (Value saved_layout × List ℕ) TakeError)
    → ((found : Value saved_layout × List ℕ) → read ≡ Ok found → bytes ≡ spelling saved_layout found.0 ++ found.1)
    → (saved : PutAway) → Gives (record_read read) (Ok saved) → bytes ≡ saved_bytes saved
found_in bytes (Ok ((session, (Some password, last)), [])) spelled saved gives =
    let value : PutAway = record { session = session; password = password; last = last } in
    let same : saved ≡ value = chosen (nat_lt LONGEST_PASSWORD (length password)) (int_lt last (pos 0)) _ _ value saved gives in
    spelled ((session, (Some password, last)), []) refl ∙ append-nil (saved_bytes value) ∙ ap saved_bytes (sym same)
found_in bytes (Ok ((session, (None, last)), [])) spelled saved gives = absurd cc
found_in bytes (Ok (fields, b ∷ rest)) spelled saved gives = absurd cc
found_in bytes (Err fault) spelled saved gives = absurd cc

pub found_saved : (bytes : List ℕ) (result : Result PutAway SavedFault)
    → IsBytes bytes → Gives (bytes_read bytes) result → IfOk result (λ saved. bytes ≡ saved_bytes saved)
found_saved bytes (Ok saved) fits gives =
    found_in bytes (reading saved_layout (length bytes) bytes)
    (λ found e. ((reads saved_layout (length bytes)).takes bytes found fits e).0.parts) saved gives
found_saved bytes (Err fault) fits gives = tt
