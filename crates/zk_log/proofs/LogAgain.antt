-- What is spelled as a log is read as that log: its header, a record for each entry, and what comes after them.
use Rattle.std.proofs.Common.{◌≡◌, ℕ, zero, suc, ◌+◌, ◌%◌, ◌≤◌, ◌<◌, ℤ, pos, arith, Bool, true, false, cond, List, [], ◌∷◌, ◌++◌, length}
use Rattle.std.proofs.Common.{map, Option, Some, None, Result, Ok, Err, refl, sym, ap, subst, ◌∙◌, append_assoc}
use Rattle.std.specs.Prelude.{◌≢◌, ◌&&◌, ◌==◌, int_lt, FitsSigned, MatchResult}
use Rattle.std.specs.Int.{w64}
use Rattle.std.specs.List.{flat_map, AllByRecursion}
use Rattle.std.proofs.Math.Nat.{mod-lt}
use Rattle.std.proofs.lemmas.Bool.Decides.{Decides-int_eq}
use Rattle.std.proofs.lemmas.List.{length-append}
use Rattle.std.proofs.lemmas.List.Concat.{flat_map-cons}
use Rattle.zk_jute.specs.Spelling.{spelling, int_bytes, long_bytes, HasLength}
use Rattle.zk_jute.specs.Reading.{place_of, reading}
use Rattle.zk_jute.specs.inner.Laws.{reads}
use Rattle.zk_log.specs.declared.log_fault.LogFault.{LogFault}
use Rattle.zk_log.specs.declared.log_fault.LogFault.TheVariants as log
use Rattle.zk_log.specs.Checksum.{sums_after, adler32}
use Rattle.zk_log.specs.Format.{Logged, EntryFits, behind_front, entry_bytes, record_front, record_bytes, file_header, magic, version}
use Rattle.zk_log.specs.Reading.{are_zeros, Zeros, Torn, Holds, with_entry, with_record, record_at, Placed, Entries}
use Rattle.zk_log.specs.Reading.{put_first, above, placed_at, with_placed, with_found, entries_at, ReadLog, with_entries, with_header}
use Rattle.zk_log.specs.Reading.{log_at, logged, EndsLog, IsLog, StandInOrder}
use Rattle.zk_log.proofs.EntryLaws.{entry_again}
use Rattle.zk_log.proofs.HeaderLaws.{GivesLog, header_is}

abbrev good : {A : Type 0} → A → Result A LogFault
good x = Ok x

-- ---- a record

and_false : (a b : Bool) → b ≡ false → (a && b) ≡ false
and_false true b e = e
and_false false b e = refl

-- the B after an entry is no zero
not_zeros : (front more : List ℕ) → are_zeros ((front ++ 66 ∷ []) ++ more) ≡ false
not_zeros [] more = refl
not_zeros (byte ∷ front) more = and_false (byte == 0) (are_zeros ((front ++ 66 ∷ []) ++ more)) (not_zeros front more)

sums_below : (bytes : List ℕ) (first second : ℕ) → first < 65521 → second < 65521
    → ((sums_after bytes first second).0 < 65521) × ((sums_after bytes first second).1 < 65521)
sums_below [] first second f s = (f, s)
sums_below (byte ∷ bytes) first second f s =
    sums_below bytes ((first + byte) % 65521) ((second + (first + byte) % 65521) % 65521)
    (mod-lt (first + byte) (omega arith)) (mod-lt (second + (first + byte) % 65521) (omega arith))

sum_fits : (entry : List ℕ) → FitsSigned w64 (pos (adler32 entry))
unfolding adler32
sum_fits entry = let below = sums_below entry 1 0 (omega arith) (omega arith) in omega (arith, below.0, below.1)

front_again : (end : ℕ) (entry more : List ℕ) → HasLength entry
    → reading record_front end (record_bytes entry ++ more) ≡ Ok ((pos (adler32 entry), Some entry), 66 ∷ more)
front_again end entry more short =
    ap (reading record_front end) (append_assoc (spelling record_front (pos (adler32 entry), Some entry)) (66 ∷ []) more)
    ∙ (reads record_front end).again (pos (adler32 entry), Some entry) (66 ∷ more) (sum_fits entry, short)

sum_again : (place : ℕ) (sum : ℤ) (entry more : List ℕ) → 0 < length entry → sum ≡ pos (adler32 entry)
    → with_entry place sum entry (66 ∷ more) ≡ Ok (Holds entry more)
sum_again place sum [] more some same = absurd (omega arith)
sum_again place sum (first ∷ entry) more some same =
    ap (λ (b : Bool). cond b (good (Holds (first ∷ entry) more)) (Err (log.Checksum place)))
    ((Decides-int_eq sum (pos (adler32 (first ∷ entry)))).1 same)

record_again : (place : ℕ) (entry more : List ℕ) → 0 < length entry → HasLength entry
    → record_at place (record_bytes entry ++ more) ≡ Ok (Holds entry more)
unfolding record_at
record_again place entry more some short =
    let bytes : List ℕ = record_bytes entry ++ more in
    ap (λ (b : Bool). cond b (good Zeros) (with_record place (reading record_front (length bytes) bytes)))
    (not_zeros (spelling record_front (pos (adler32 entry), Some entry)) more)
    ∙ ap (with_record place) (front_again (length bytes) entry more short)
    ∙ sum_again place (pos (adler32 entry)) entry more some refl

zeros_again : (place : ℕ) (rest : List ℕ) → are_zeros rest ≡ true → record_at place rest ≡ Ok Zeros
unfolding record_at
zeros_again place rest is =
    ap (λ (b : Bool). cond b (good Zeros) (with_record place (reading record_front (length rest) rest))) is

-- ---- an entry

long_length : (z : ℤ) → length (long_bytes z) ≡ 8
unfolding long_bytes
long_length z = refl

begins_long : (z : ℤ) (a b : List ℕ) → 0 < length ((long_bytes z ++ a) ++ b)
begins_long z a b = omega (arith, length-append (long_bytes z ++ a) b, length-append (long_bytes z) a, long_length z)

-- no entry is empty
some_entry : (entry : Logged) → 0 < length (entry_bytes entry)
some_entry entry = begins_long entry.session _ (behind_front entry)

abbrev placed : ℕ → Logged → Placed
placed place entry = record { place = place; entry = entry }

placed_again : (place : ℕ) (low : ℤ) (one : Placed) → EntryFits one.entry → one.place ≡ place → int_lt low one.entry.zxid ≡ true
    → placed_at place low (entry_bytes one.entry) ≡ good one
unfolding placed_at
placed_again place low one fits at rises =
    ap (above place low) (entry_again (entry_bytes one.entry) one.entry fits refl)
    ∙ ap (λ (b : Bool). cond b (good (placed place one.entry)) (Err (log.Order place one.entry.zxid))) rises
    ∙ ap (λ (p : ℕ). good (placed p one.entry)) (sym at)

-- ---- entries

abbrev records : List Placed → List ℕ
records entries = flat_map record_bytes (map entry_bytes (logged entries))

next_records : (one : Placed) (others : List Placed) (rest : List ℕ)
    → records (one ∷ others) ++ rest ≡ record_bytes (entry_bytes one.entry) ++ (records others ++ rest)
next_records one others rest =
    ap (λ (x : List ℕ). x ++ rest) (flat_map-cons record_bytes (entry_bytes one.entry) (map entry_bytes (logged others)))
    ∙ append_assoc (record_bytes (entry_bytes one.entry)) (records others) rest

not_torn : (place : ℕ) → record_at place [] ≡ Ok Torn → ⊥
unfolding record_at
not_torn place e = cc

abbrev torn_after : ℕ → Result Entries LogFault
torn_after place = Ok ([], Some place)

-- what comes after the records
rest_again : (most end : ℕ) (low : ℤ) (rest : List ℕ) (torn : Option ℕ) → length rest ≤ most → EndsLog end rest torn
    → entries_at most end low rest ≡ good ([], torn)
rest_again zero end low rest None le ends = refl
rest_again zero end low [] (Some place) le ends = absurd (not_torn place ends.1)
rest_again zero end low (byte ∷ rest) (Some place) le ends = absurd (omega arith)
rest_again (suc most) end low rest None le ends =
    ap (with_found (place_of end rest) low (entries_at most end)) (zeros_again (place_of end rest) rest ends)
rest_again (suc most) end low rest (Some place) le ends =
    ap (with_found (place_of end rest) low (entries_at most end)) (subst (λ (p : ℕ). record_at p rest ≡ Ok Torn) ends.0 ends.1)
    ∙ ap (λ (p : ℕ). torn_after p) (sym ends.0)

-- a record, and what is read after it
step : (most end place : ℕ) (low : ℤ) (bytes entry more : List ℕ) (one : Placed) (found : Entries) → place_of end bytes ≡ place
    → bytes ≡ record_bytes entry ++ more → record_at place (record_bytes entry ++ more) ≡ Ok (Holds entry more)
    → placed_at place low entry ≡ good one → entries_at most end one.entry.zxid more ≡ good found
    → entries_at (suc most) end low bytes ≡ good (one ∷ found.0, found.1)
step most end place low bytes entry more one found at parts holds stands others =
    ap (λ (p : ℕ). with_found p low (entries_at most end) (record_at p bytes)) at
    ∙ ap (λ (b : List ℕ). with_found place low (entries_at most end) (record_at place b)) parts
    ∙ ap (with_found place low (entries_at most end)) holds
    ∙ ap (with_placed (λ zxid. entries_at most end zxid more)) stands
    ∙ ap (put_first one) others

-- how long what begins with a record is
pub record_length : (bytes entry more : List ℕ) → bytes ≡ record_bytes entry ++ more
    → (length bytes ≡ length (record_bytes entry) + length more) × (0 < length (record_bytes entry))
record_length bytes entry more parts =
    let front : List ℕ = spelling record_front (pos (adler32 entry), Some entry) in
    (ap (λ (x : List ℕ). length x) parts ∙ length-append (record_bytes entry) more, omega (arith, length-append front (66 ∷ [])))

entries_again : (entries : List Placed) (most end place : ℕ) (low : ℤ) (bytes rest : List ℕ) (torn : Option ℕ)
    → bytes ≡ records entries ++ rest → length bytes ≤ most → place + length bytes ≡ end → AllByRecursion EntryFits (logged entries)
    → StandInOrder place low entries → EndsLog end rest torn → entries_at most end low bytes ≡ good (entries, torn)
entries_again [] most end place low bytes rest torn parts le at fits order ends =
    ap (entries_at most end low) parts ∙ rest_again most end low rest torn (omega (arith, ap (λ (x : List ℕ). length x) parts)) ends
entries_again (one ∷ others) zero end place low bytes rest torn parts le at fits order ends =
    let long = record_length bytes (entry_bytes one.entry) (records others ++ rest) (parts ∙ next_records one others rest) in
    absurd (omega (arith, long.0, long.1))
entries_again (one ∷ others) (suc most) end place low bytes rest torn parts le at fits order ends =
    let entry : List ℕ = entry_bytes one.entry in
    let more : List ℕ = records others ++ rest in
    let split : bytes ≡ record_bytes entry ++ more = parts ∙ next_records one others rest in
    let long = record_length bytes entry more split in
    step most end place low bytes entry more one (others, torn) (omega arith) split
    (record_again place entry more (some_entry one.entry) order.1) (placed_again place low one fits.0 order.0 order.2)
    (entries_again others most end (place + length (record_bytes entry)) one.entry.zxid more rest torn refl
    (omega (arith, long.0, long.1)) (omega (arith, long.0)) fits.1 order.3 ends)

-- ---- a log

pub header_length : (m v d : ℤ) → length (spelling file_header (m, (v, d))) ≡ 16
unfolding int_bytes long_bytes
header_length m v d = refl

log_again : (bytes : List ℕ) (found : ReadLog) → IsLog bytes found → log_at bytes ≡ good found
unfolding log_at
log_again bytes found is =
    let end : ℕ = length bytes in
    let front : List ℕ = spelling file_header (magic, (version, found.dbid)) in
    let behind : List ℕ = records found.entries ++ is.rest in
    let parts : bytes ≡ front ++ behind = is.parts ∙ append_assoc front (records found.entries) is.rest in
    let read : reading file_header end bytes ≡ Ok ((magic, (version, found.dbid)), behind) =
    ap (reading file_header end) parts
    ∙ (reads file_header end).again (magic, (version, found.dbid)) behind (omega arith, (omega arith, is.dbid)) in
    let at : 16 + length behind ≡ end = omega (
      arith,
      ap (λ (x : List ℕ). length x) parts,
      length-append front behind,
      header_length magic version found.dbid,
    ) in
    ap (with_header end) read ∙ header_is end behind magic version found.dbid refl refl
    ∙ ap (with_entries found.dbid)
    (entries_again found.entries (length behind) end 16 (pos 0) behind is.rest found.torn refl (omega arith) at
    is.fits is.order is.ends)

-- no fault but memory is one of what is read
is_memory : (read : Result ReadLog LogFault) (found : ReadLog) (fault : LogFault) → (fault ≢ log.Memory → read ≡ Err fault)
    → read ≡ Ok found → fault ≡ log.Memory
is_memory read found (log.Header short) fails given = let e = fails (λ h. cc) in absurd (cc (e, given))
is_memory read found log.Magic fails given = let e = fails (λ h. cc) in absurd (cc (e, given))
is_memory read found (log.Version number) fails given = let e = fails (λ h. cc) in absurd (cc (e, given))
is_memory read found (log.Length place) fails given = let e = fails (λ h. cc) in absurd (cc (e, given))
is_memory read found (log.EndByte place) fails given = let e = fails (λ h. cc) in absurd (cc (e, given))
is_memory read found (log.Checksum place) fails given = let e = fails (λ h. cc) in absurd (cc (e, given))
is_memory read found (log.Entry place fault) fails given = let e = fails (λ h. cc) in absurd (cc (e, given))
is_memory read found (log.Order place zxid) fails given = let e = fails (λ h. cc) in absurd (cc (e, given))
is_memory read found log.Memory fails given = refl

good_is : (x y : ReadLog) → good x ≡ good y → x ≡ y
good_is x y e = cc

pub log_only_of : {T : Type 0} (view : T → ReadLog) (bytes : List ℕ) (result : Result T LogFault) (found : ReadLog) → IsLog bytes found
    → GivesLog view (log_at bytes) result → MatchResult result (λ l. view l ≡ found) (λ e. e ≡ log.Memory)
log_only_of view bytes (Ok l) found is gives = good_is (view l) found (sym gives ∙ log_again bytes found is)
log_only_of view bytes (Err fault) found is gives = is_memory (log_at bytes) found fault gives (log_again bytes found is)
