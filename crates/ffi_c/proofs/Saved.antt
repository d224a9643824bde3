-- Bytes that are no saved session are so for another reason than want of memory.
use Rattle.std.proofs.Common.{◌≡◌, Bool, true, false, List, [], ◌∷◌, ℕ, ℤ, pos, Some, None, length, refl, sym, ap, ◌∙◌}
use Rattle.std.proofs.Common.{true≢false}
use Rattle.std.specs.Prelude.{◌≢◌, Result, Ok, Err, if◌then◌else◌, int_lt, nat_lt}
use Rattle.zk_jute.specs.Layout.{Value}
use Rattle.zk_jute.specs.Reading.{reading}
use Rattle.zk_jute.specs.declared.fault.TakeError.{TakeError}
use Rattle.zk_client.specs.SavedSessions.{PutAway, bytes_read, record_read, saved_layout}
use Rattle.zk_client.specs.declared.saved_fault.SavedFault.{SavedFault}
use Rattle.zk_client.specs.declared.saved_fault.SavedFault.TheVariants.{NotHex, OddDigits, Unread, BytesBehind, NoPassword, LongPassword}
use Rattle.zk_client.specs.declared.saved_fault.SavedFault.TheVariants.{NegativeZxid, Memory}
use Rattle.zk_limits.specs.declared.limits.TheConstants.{LONGEST_PASSWORD}

abbrev is_memory : SavedFault → Bool
is_memory (NotHex place) = false
is_memory (OddDigits count) = false
is_memory (Unread fault) = false
is_memory (BytesBehind count) = false
is_memory NoPassword = false
is_memory (LongPassword length) = false
is_memory (NegativeZxid last) = false
is_memory Memory = true

abbrev wants_memory : Result PutAway SavedFault → Bool
wants_memory (Ok put) = false
wants_memory (Err fault) = is_memory fault

put_away_by : (long below : Bool) (password : List ℕ) (last : ℤ) (put : PutAway)
    → wants_memory (if long then Err (LongPassword (length password)) else if below then Err (NegativeZxid last) else Ok put) ≡ false
put_away_by true below password last put = refl
put_away_by false true password last put = refl
put_away_by false false password last put = refl

record_wants : (r : Result (Value saved_layout × List ℕ) TakeError) → wants_memory (record_read r) ≡ false
record_wants (Ok ((session, (Some password, last)), [])) =
    put_away_by (nat_lt LONGEST_PASSWORD (length password)) (int_lt last (pos 0)) password last
    (record { session = session; password = password; last = last })
record_wants (Ok ((session, (None, last)), [])) = refl
record_wants (Ok (fields, b ∷ rest)) = refl
record_wants (Err fault) = refl

pub not_memory : (bytes : List ℕ) (fault : SavedFault) → bytes_read bytes ≡ Err fault → fault ≢ Memory
not_memory bytes fault reads is =
    absurd (true≢false (sym (ap (λ r. wants_memory r) (reads ∙ ap Err is)) ∙ record_wants (reading saved_layout (length bytes) bytes)))
