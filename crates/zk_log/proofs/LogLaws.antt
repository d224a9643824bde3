-- A log that is read is spelled so: its header, a record for each entry, and after them zeros, or a record that is cut off.
use Rattle.std.proofs.Common.{◌≡◌, ℕ, zero, suc, ◌+◌, ◌≤◌, ◌<◌, ℤ, pos, arith, Bool, true, false, cond, List, [], ◌∷◌, ◌++◌, length, map}
use Rattle.std.proofs.Common.{Option, Some, None, Result, Ok, Err, refl, sym, ap, subst, ◌∙◌, append_assoc, inl, inr}
use Rattle.std.specs.Prelude.{IfOk, ◌==◌, int_lt, FitsSigned}
use Rattle.std.specs.Int.{w64}
use Rattle.std.proofs.lemmas.Bool.{cases_lt}
use Rattle.std.proofs.lemmas.List.{get_or_append_left, get_or-append-add, get_or_past, length-append}
use Rattle.std.specs.List.{flat_map, AllByRecursion}
use Rattle.std.specs.Ordering.{int_eq}
use Rattle.std.proofs.lemmas.Bool.Decides.{Decides-eqb, Decides-int_eq}
use Rattle.std.proofs.lemmas.List.Concat.{flat_map-cons}
use Rattle.zk_jute.specs.declared.fault.TakeError.{TakeError}
use Rattle.zk_jute.specs.declared.fault.TakeError.TheVariants.{Short, BadLength, BadBool, NotUtf8, Memory}
use Rattle.zk_jute.specs.Layout.{Value, buffer}
use Rattle.zk_jute.specs.Spelling.{IsBytes, spelling, HasLength, counted_bytes, int_bytes, long_bytes}
use Rattle.zk_jute.specs.Reading.{place_of, reading}
use Rattle.zk_jute.specs.inner.Laws.{Takes, reads}
use Rattle.zk_log.specs.declared.entry_fault.EntryFault.{EntryFault}
use Rattle.zk_log.specs.declared.log_fault.LogFault.{LogFault}
use Rattle.zk_log.specs.declared.log_fault.LogFault.TheVariants as log
use Rattle.zk_log.specs.Checksum.{adler32}
use Rattle.zk_log.specs.Format.{Logged, EntryFits, entry_bytes, record_front, record_bytes, file_header, magic, version}
use Rattle.zk_log.specs.Reading.{are_zeros, Found, Zeros, Torn, Holds, unended, with_end, with_entry}
use Rattle.zk_log.specs.Reading.{with_record, record_at, Placed, Entries}
use Rattle.zk_log.specs.Reading.{put_first, above, placed_at, with_placed, with_found, entries_at, ReadLog}
use Rattle.zk_log.specs.Reading.{with_entries, with_header, log_at}
use Rattle.zk_log.specs.Reading.{logged, EndsLog, IsLog, StandInOrder}
use Rattle.zk_log.specs.Reading.{entry_at}
use Rattle.zk_log.proofs.EntryLaws.{entry_takes}
use Rattle.zk_log.proofs.HeaderLaws.{GivesLog}
use Rattle.zk_log.proofs.LogAgain.{record_length, header_length}

abbrev good : {A : Type 0} → A → Result A LogFault
good x = Ok x

good_is : {A : Type 0} (x y : A) → good x ≡ good y → x ≡ y
good_is x y e = cc

-- ---- a record

abbrev placed_ok : Placed → Result Placed LogFault
placed_ok one = Ok one

placed_is : (x y : Placed) → placed_ok x ≡ placed_ok y → x ≡ y
placed_is x y e = cc

-- what is known of what was found: a record is spelled so, and zeros are zeros
abbrev IsFound : List ℕ → Found → Type 0
IsFound bytes Zeros = are_zeros bytes ≡ true
IsFound bytes Torn = Unit {0}
IsFound bytes (Holds entry more) = Takes bytes (record_bytes entry) more × HasLength entry

guard : (bytes : List ℕ) (b : Bool) (x found : Found) (fault : LogFault) → cond b (good x) (Err fault) ≡ Ok found
    → (b ≡ true → IsFound bytes x) → IsFound bytes found
guard bytes true x found fault e is = subst (IsFound bytes) (good_is x found e) (is refl)
guard bytes false x found fault e is = absurd cc

holds : (start : List ℕ) (sum : ℤ) (entry : List ℕ) (byte : ℕ) (more : List ℕ)
    → Takes start (spelling record_front (sum, Some entry)) (byte ∷ more) → byte ≡ 66 → sum ≡ pos (adler32 entry)
    → Takes start (record_bytes entry) more
holds start sum entry byte more taken is_end is_sum = record {
  parts = taken.parts ∙ ap (λ (z : ℤ). spelling record_front (z, Some entry) ++ byte ∷ more) is_sum
      ∙ ap (λ (b : ℕ). spelling record_front (pos (adler32 entry), Some entry) ++ b ∷ more) is_end
      ∙ sym (append_assoc (spelling record_front (pos (adler32 entry), Some entry)) (66 ∷ []) more);
  rest_fits = λ i. taken.rest_fits (suc i);
}

byte_found : (start : List ℕ) (place : ℕ) (sum : ℤ) (entry : List ℕ) (byte : ℕ) (more : List ℕ) (found : Found) (b : Bool)
    → (byte == 66) ≡ b → Takes start (spelling record_front (sum, Some entry)) (byte ∷ more) → HasLength entry
    → cond b (cond (int_eq sum (pos (adler32 entry))) (good (Holds entry more)) (Err (log.Checksum place)))
    (unended place byte more) ≡ Ok found
    → IsFound start found
byte_found start place sum entry byte more found true is taken short e =
    guard start (int_eq sum (pos (adler32 entry))) (Holds entry more) found (log.Checksum place) e
    (λ same.
    (holds start sum entry byte more taken ((Decides-eqb byte 66).0 is) ((Decides-int_eq sum (pos (adler32 entry))).0 same), short))
byte_found start place sum entry byte more found false is taken short e =
    guard start (are_zeros (byte ∷ more)) Torn found (log.EndByte place) e (λ zeros. tt)

end_found : (start : List ℕ) (place : ℕ) (sum : ℤ) (entry bytes : List ℕ) (found : Found)
    → Takes start (spelling record_front (sum, Some entry)) bytes → HasLength entry → with_end place sum entry bytes ≡ Ok found
    → IsFound start found
end_found start place sum entry [] found taken short e = subst (IsFound start) (good_is Torn found e) tt
end_found start place sum entry (byte ∷ more) found taken short e =
    byte_found start place sum entry byte more found (byte == 66) refl taken short e

entry_found : (start : List ℕ) (place : ℕ) (sum : ℤ) (entry bytes : List ℕ) (found : Found)
    → Takes start (spelling record_front (sum, Some entry)) bytes → HasLength entry → with_entry place sum entry bytes ≡ Ok found
    → IsFound start found
entry_found start place sum [] bytes found taken short e = guard start (are_zeros bytes) Torn found (log.Length place) e (λ zeros. tt)
entry_found start place sum (first ∷ entry) bytes found taken short e = end_found start place sum (first ∷ entry) bytes found taken short e

front_found : (start : List ℕ) (place end : ℕ) (read : Result (Value record_front × List ℕ) TakeError) (found : Found)
    → IsBytes start → reading record_front end start ≡ read → with_record place read ≡ Ok found → IsFound start found
front_found start place end (Ok ((sum, Some entry), bytes)) found fits is e =
    let t = (reads record_front end).takes start ((sum, Some entry), bytes) fits is in
    entry_found start place sum entry bytes found t.0 t.1.1 e
front_found start place end (Ok ((sum, None), bytes)) found fits is e = absurd cc
front_found start place end (Err (Short short)) found fits is e = subst (IsFound start) (good_is Torn found e) tt
front_found start place end (Err (BadLength bad)) found fits is e = absurd cc
front_found start place end (Err (BadBool bad)) found fits is e = absurd cc
front_found start place end (Err (NotUtf8 bad)) found fits is e = absurd cc
front_found start place end (Err Memory) found fits is e = absurd cc

zeros_found : (start : List ℕ) (place : ℕ) (found : Found) (b : Bool) → are_zeros start ≡ b → IsBytes start
    → cond b (good Zeros) (with_record place (reading record_front (length start) start)) ≡ Ok found → IsFound start found
zeros_found start place found true is fits e = subst (IsFound start) (good_is Zeros found e) is
zeros_found start place found false is fits e =
    front_found start place (length start) (reading record_front (length start) start) found fits refl e

record_found : (place : ℕ) (bytes : List ℕ) (found : Found) → IsBytes bytes → record_at place bytes ≡ Ok found → IsFound bytes found
unfolding record_at
record_found place bytes found fits e = zeros_found bytes place found (are_zeros bytes) refl fits e

-- ---- entries

-- the bytes of records of these entries, which stand in order after a zxid, and what comes after them
record AreEntries (end : ℕ) (low : ℤ) (bytes : List ℕ) (found : Entries) : Type 0 where
  rest : List ℕ
  parts : bytes ≡ flat_map record_bytes (map entry_bytes (logged found.0)) ++ rest
  fits : AllByRecursion EntryFits (logged found.0)
  ends : EndsLog end rest found.1
  order : StandInOrder (place_of end bytes) low found.0

no_entries : (end : ℕ) (low : ℤ) (bytes : List ℕ) (torn : Option ℕ) → EndsLog end bytes torn → AreEntries end low bytes ([], torn)
no_entries end low bytes torn ends = record { rest = bytes; parts = refl; fits = tt; ends = ends; order = tt }

-- an entry of these bytes, at a place, and after a zxid
record IsPlaced (place : ℕ) (low : ℤ) (bytes : List ℕ) (one : Placed) : Type 0 where
  entry : EntryFits one.entry × (bytes ≡ entry_bytes one.entry)
  begins : one.place ≡ place
  rises : int_lt low one.entry.zxid ≡ true

next_place : (end : ℕ) (bytes entry more : List ℕ) → length bytes ≤ end → bytes ≡ record_bytes entry ++ more
    → place_of end more ≡ place_of end bytes + length (record_bytes entry)
next_place end bytes entry more within parts = omega (arith, (record_length bytes entry more parts).0)

-- an entry whose bytes are these, and whose record begins others
one_more : (end : ℕ) (low : ℤ) (bytes entry more : List ℕ) (one : Placed) (found : Entries) → length bytes ≤ end
    → bytes ≡ record_bytes entry ++ more → HasLength entry → IsPlaced (place_of end bytes) low entry one
    → AreEntries end one.entry.zxid more found → AreEntries end low bytes (one ∷ found.0, found.1)
one_more end low bytes entry more one found within parts short is others = record {
  rest = others.rest;
  parts = parts ∙ ap (λ (x : List ℕ). record_bytes entry ++ x) others.parts
      ∙ ap (λ (x : List ℕ). record_bytes x ++ (flat_map record_bytes (map entry_bytes (logged found.0)) ++ others.rest)) is.entry.1
      ∙ sym (append_assoc (record_bytes (entry_bytes one.entry)) (flat_map record_bytes (map entry_bytes (logged found.0))) others.rest)
      ∙ ap (λ (x : List ℕ). x ++ others.rest)
      (sym (flat_map-cons record_bytes (entry_bytes one.entry) (map entry_bytes (logged found.0))));
  fits = (is.entry.0, others.fits);
  ends = others.ends;
  order = (
    is.begins,
    subst HasLength is.entry.1 short,
    is.rises,
    subst (λ (p : ℕ). StandInOrder p one.entry.zxid found.0)
        (next_place end bytes entry more within parts
        ∙ ap (λ (x : List ℕ). place_of end bytes + length (record_bytes x)) is.entry.1) others.order,
  );
}

good_entries : (x y : Entries) → good x ≡ good y → x ≡ y
good_entries x y e = cc

put_found : (end : ℕ) (low : ℤ) (bytes entry more : List ℕ) (one : Placed) (read : Result Entries LogFault) (found : Entries)
    → length bytes ≤ end → bytes ≡ record_bytes entry ++ more → HasLength entry → IsPlaced (place_of end bytes) low entry one
    → ((others : Entries) → read ≡ Ok others → AreEntries end one.entry.zxid more others) → put_first one read ≡ Ok found
    → AreEntries end low bytes found
put_found end low bytes entry more one (Ok others) found within parts short is after e =
    subst (AreEntries end low bytes) (good_entries (one ∷ others.0, others.1) found e)
    (one_more end low bytes entry more one others within parts short is (after others refl))
put_found end low bytes entry more one (Err fault) found within parts short is after e = absurd cc

-- a placed entry is that of its bytes
above_is : (place : ℕ) (low : ℤ) (bytes : List ℕ) (read : Result Logged EntryFault) (one : Placed) → IsBytes bytes
    → entry_at bytes ≡ read → above place low read ≡ Ok one → IsPlaced place low bytes one
above_is place low bytes (Ok entry) one fits is e = rises place low bytes entry one (int_lt low entry.zxid) refl fits is e where
  rises : (place : ℕ) (low : ℤ) (bytes : List ℕ) (entry : Logged) (one : Placed) (b : Bool) → int_lt low entry.zxid ≡ b → IsBytes bytes
      → entry_at bytes ≡ Ok entry
      → cond b (Ok (record { place = place; entry = entry })) (Err (log.Order place entry.zxid)) ≡ placed_ok one
      → IsPlaced place low bytes one
  rises place low bytes entry one true above fits is e =
      subst (IsPlaced place low bytes) (placed_is (record { place = place; entry = entry }) one e)
      (record { entry = entry_takes bytes entry fits is; begins = refl; rises = above })
  rises place low bytes entry one false above fits is e = absurd cc
above_is place low bytes (Err fault) one fits is e = absurd cc

placed_found : (place : ℕ) (low : ℤ) (bytes : List ℕ) (one : Placed) → IsBytes bytes → placed_at place low bytes ≡ Ok one
    → IsPlaced place low bytes one
unfolding placed_at
placed_found place low bytes one fits e = above_is place low bytes (entry_at bytes) one fits refl e

is_left : (a b : List ℕ) → IsBytes (a ++ b) → IsBytes a
is_left a b h i =
    elim (cases_lt i (length a)) [
      | inl lt ↦ subst (λ (x : ℕ). x < 256) (get_or_append_left a b 0 i lt) (h i)
      | inr le ↦ subst (λ (x : ℕ). x < 256) (sym (get_or_past a i 0 le)) (omega arith)
    ]

is_right : (a b : List ℕ) → IsBytes (a ++ b) → IsBytes b
is_right a b h i = subst (λ (x : ℕ). x < 256) (get_or-append-add a b i 0) (h (length a + i))

counted_fits : (entry : List ℕ) → IsBytes (spelling buffer (Some entry)) → IsBytes entry
unfolding counted_bytes
counted_fits entry h = is_right (int_bytes (pos (length entry))) entry h

-- the bytes of an entry within a record are bytes
entry_fits : (bytes entry more : List ℕ) → Takes bytes (record_bytes entry) more → IsBytes bytes → IsBytes entry
entry_fits bytes entry more taken fits =
    let whole : IsBytes (record_bytes entry) = is_left (record_bytes entry) more (subst IsBytes taken.parts fits) in
    let front : IsBytes (spelling record_front (pos (adler32 entry), Some entry)) =
    is_left (spelling record_front (pos (adler32 entry), Some entry)) (66 ∷ []) whole in
    counted_fits entry (is_right (long_bytes (pos (adler32 entry))) (spelling buffer (Some entry)) front)

fewer_left : (most : ℕ) (bytes front more : List ℕ) → bytes ≡ (front ++ 66 ∷ []) ++ more → length bytes ≤ suc most → length more ≤ most
fewer_left most bytes front more parts le =
    omega (arith, ap (λ (x : List ℕ). length x) parts, length-append (front ++ 66 ∷ []) more, length-append front (66 ∷ []))

-- what reading at most so many records gives is spelled so
EntriesFound : ℕ → ℕ → Type 0
EntriesFound most end =
    (low : ℤ) (bytes : List ℕ) (found : Entries) → length bytes ≤ most → length bytes ≤ end → IsBytes bytes
    → entries_at most end low bytes ≡ Ok found → AreEntries end low bytes found

placed_step : (most end : ℕ) (low : ℤ) (bytes entry more : List ℕ) (read : Result Placed LogFault) (found : Entries)
    → EntriesFound most end → length bytes ≤ suc most → length bytes ≤ end → IsBytes bytes
    → Takes bytes (record_bytes entry) more × HasLength entry → placed_at (place_of end bytes) low entry ≡ read
    → with_placed (λ zxid. entries_at most end zxid more) read ≡ Ok found → AreEntries end low bytes found
unfolding EntriesFound
placed_step most end low bytes entry more (Ok one) found others le within fits taken is e =
    let front : List ℕ = spelling record_front (pos (adler32 entry), Some entry) in
    put_found end low bytes entry more one (entries_at most end one.entry.zxid more) found within taken.0.parts taken.1
    (placed_found (place_of end bytes) low entry one (entry_fits bytes entry more taken.0 fits) is)
    (λ rest read. others one.entry.zxid more rest (fewer_left most bytes front more taken.0.parts le)
    (fewer_left end bytes front more taken.0.parts (omega (arith, within))) taken.0.rest_fits read) e
placed_step most end low bytes entry more (Err fault) found others le within fits taken is e = absurd cc

found_step : (most end : ℕ) (low : ℤ) (bytes : List ℕ) (read : Result Found LogFault) (found : Entries)
    → EntriesFound most end → length bytes ≤ suc most → length bytes ≤ end → IsBytes bytes → record_at (place_of end bytes) bytes ≡ read
    → with_found (place_of end bytes) low (entries_at most end) read ≡ Ok found → AreEntries end low bytes found
found_step most end low bytes (Ok Zeros) found others le within fits is e =
    subst (AreEntries end low bytes) (good_entries ([], None) found e)
    (no_entries end low bytes None (record_found (place_of end bytes) bytes Zeros fits is))
found_step most end low bytes (Ok Torn) found others le within fits is e =
    subst (AreEntries end low bytes) (good_entries ([], Some (place_of end bytes)) found e)
    (no_entries end low bytes (Some (place_of end bytes)) (refl, is))
found_step most end low bytes (Ok (Holds entry more)) found others le within fits is e =
    placed_step most end low bytes entry more (placed_at (place_of end bytes) low entry) found others le within fits
    (record_found (place_of end bytes) bytes (Holds entry more) fits is) refl e
found_step most end low bytes (Err fault) found others le within fits is e = absurd cc

none_found : (end : ℕ) (low : ℤ) (bytes : List ℕ) (found : Entries) → length bytes ≤ 0 → entries_at zero end low bytes ≡ Ok found
    → AreEntries end low bytes found
none_found end low [] found le e = subst (AreEntries end low []) (good_entries ([], None) found e) (no_entries end low [] None refl)
none_found end low (byte ∷ bytes) found le e = absurd (omega arith)

entries_found : (most end : ℕ) → EntriesFound most end
unfolding EntriesFound
entries_found zero end low bytes found le within fits e = none_found end low bytes found le e
entries_found (suc most) end low bytes found le within fits e =
    found_step most end low bytes (record_at (place_of end bytes) bytes) found (entries_found most end) le within fits refl e

-- ---- a log

good_log : (x y : ReadLog) → good x ≡ good y → x ≡ y
good_log x y e = cc

entries_of_log : (bytes rest : List ℕ) (d : ℤ) (read : Result Entries LogFault) (found : ReadLog)
    → bytes ≡ spelling file_header (magic, (version, d)) ++ rest → FitsSigned w64 d
    → ((entries : Entries) → read ≡ Ok entries → AreEntries (length bytes) (pos 0) rest entries) → with_entries d read ≡ Ok found
    → IsLog bytes found
entries_of_log bytes rest d (Ok entries) found parts fits are e =
    let those = are entries refl in
    let front : List ℕ = spelling file_header (magic, (version, d)) in
    let first : place_of (length bytes) rest ≡ 16 =
    omega (arith, ap (λ (x : List ℕ). length x) parts, length-append front rest, header_length magic version d) in
    subst (IsLog bytes) (good_log (record { dbid = d; entries = entries.0; torn = entries.1 }) found e) (
    record {
      rest = those.rest;
      parts = parts ∙ ap (λ (x : List ℕ). front ++ x) those.parts
          ∙ sym (append_assoc front (flat_map record_bytes (map entry_bytes (logged entries.0))) those.rest);
      dbid = fits;
      fits = those.fits;
      order = subst (λ (p : ℕ). StandInOrder p (pos 0) entries.0) first those.order;
      ends = those.ends;
    }
    )
entries_of_log bytes rest d (Err fault) found parts fits are e = absurd cc

header_found : (bytes rest : List ℕ) (m v d : ℤ) (found : ReadLog) (is_magic is_version : Bool) → int_eq m magic ≡ is_magic
    → int_eq v version ≡ is_version → Takes bytes (spelling file_header (m, (v, d))) rest → FitsSigned w64 d
    → cond is_magic
    (cond is_version (with_entries d (entries_at (length rest) (length bytes) (pos 0) rest)) (Err (log.Version v)))
    (Err log.Magic) ≡ Ok found
    → IsLog bytes found
unfolding EntriesFound
header_found bytes rest m v d found true true e f taken fits g =
    entries_of_log bytes rest d (entries_at (length rest) (length bytes) (pos 0) rest) found
    (taken.parts ∙ ap (λ (x : ℤ). spelling file_header (x, (v, d)) ++ rest) ((Decides-int_eq m magic).0 e)
    ∙ ap (λ (x : ℤ). spelling file_header (magic, (x, d)) ++ rest) ((Decides-int_eq v version).0 f)) fits
    (λ entries read. entries_found (length rest) (length bytes) (pos 0) rest entries (omega arith)
    (omega (arith, ap (λ (x : List ℕ). length x) taken.parts, length-append (spelling file_header (m, (v, d))) rest))
    taken.rest_fits read) g
header_found bytes rest m v d found true false e f taken fits g = absurd cc
header_found bytes rest m v d found false is_version e f taken fits g = absurd cc

with_header_found : (bytes : List ℕ) (read : Result (Value file_header × List ℕ) TakeError) (found : ReadLog) → IsBytes bytes
    → reading file_header (length bytes) bytes ≡ read → with_header (length bytes) read ≡ Ok found → IsLog bytes found
with_header_found bytes (Ok ((m, (v, d)), rest)) found fits is e =
    let t = (reads file_header (length bytes)).takes bytes ((m, (v, d)), rest) fits is in
    header_found bytes rest m v d found (int_eq m magic) (int_eq v version) refl refl t.0 t.1.1.1 e
with_header_found bytes (Err fault) found fits is e = absurd cc

log_found : (bytes : List ℕ) (found : ReadLog) → IsBytes bytes → log_at bytes ≡ Ok found → IsLog bytes found
unfolding log_at
log_found bytes found fits e = with_header_found bytes (reading file_header (length bytes) bytes) found fits refl e

pub log_found_of : {T : Type 0} (view : T → ReadLog) (bytes : List ℕ) (result : Result T LogFault) → IsBytes bytes
    → GivesLog view (log_at bytes) result → IfOk result (λ l. IsLog bytes (view l))
log_found_of view bytes (Ok l) fits gives = log_found bytes (view l) fits gives
log_found_of view bytes (Err fault) fits gives = tt
