-- Reading from left to right, with the first fault that is met.
use Rattle.std.specs.Prelude.{◌≡◌, ℕ, zero, suc, ◌-◌, ℤ, pos, int_lt, Bool, true, List, [], ◌∷◌, length, Option, Some, None}
use Rattle.std.specs.Prelude.{Result, Ok, Err, ◌+◌, ◌++◌, map, ◌==◌, if◌then◌else◌, FitsSigned, ⊤}
use Rattle.std.specs.Int.{w64}
use Rattle.std.specs.List.{list_all, AllByRecursion}
use Rattle.std.specs.Ordering.{int_eq}
use Rattle.zk_jute.specs.declared.fault.TakeError.{TakeError}
use Rattle.zk_jute.specs.declared.fault.TakeError.TheVariants.{Short}
use Rattle.zk_jute.specs.Layout.{Value}
use Rattle.zk_jute.specs.Spelling.{HasLength}
use Rattle.zk_jute.specs.Reading.{place_of, reading}
use Rattle.zk_log.specs.declared.kind.TxnKind.{TxnKind}
use Rattle.zk_log.specs.declared.entry_fault.EntryFault.{EntryFault}
use Rattle.zk_log.specs.declared.entry_fault.EntryFault.TheVariants.{Unread, Unknown, Trailing}
use Rattle.zk_log.specs.declared.log_fault.LogFault.{LogFault}
use Rattle.zk_log.specs.declared.log_fault.LogFault.TheVariants as log
use Rattle.zk_log.specs.Kinds.{kind_at, fields}
use Rattle.zk_log.specs.Checksum.{adler32}
use Rattle.zk_log.specs.Format.{entry_front, digest, Logged, EntryFits, entry_bytes, record_front, record_bytes}
use Rattle.zk_log.specs.Format.{file_header, magic, version, log_bytes}

-- ---- an entry

abbrev pub whole_digest : ℕ → Result (Value digest × List ℕ) TakeError → Result (Option (Value digest)) EntryFault
whole_digest end (Ok (told, [])) = Ok (Some told)
whole_digest end (Ok (told, byte ∷ bytes)) = Err (Trailing (place_of end (byte ∷ bytes)))
whole_digest end (Err fault) = Err (Unread fault)

-- the digest, or nothing, and then the end
unfoldable pub digest_at : ℕ → List ℕ → Result (Option (Value digest)) EntryFault
digest_at end [] = Ok None
digest_at end (byte ∷ bytes) = whole_digest end (reading digest end (byte ∷ bytes))

abbrev pub made_entry : Value entry_front → (kind : TxnKind) → Value (fields kind) → Option (Value digest) → Logged
made_entry front kind body told = record {
  session = front.0;
  cxid = front.1.0;
  zxid = front.1.1.0;
  time = front.1.1.1.0;
  kind = kind;
  body = body;
  digest = told;
}

abbrev pub with_digest : Value entry_front → (kind : TxnKind) → Value (fields kind) → Result (Option (Value digest)) EntryFault
    → Result Logged EntryFault
with_digest front kind body (Ok told) = Ok (made_entry front kind body told)
with_digest front kind body (Err fault) = Err fault

abbrev pub with_body : ℕ → Value entry_front → (kind : TxnKind) → Result (Value (fields kind) × List ℕ) TakeError
    → Result Logged EntryFault
with_body end front kind (Ok found) = with_digest front kind found.0 (digest_at end found.1)
with_body end front kind (Err fault) = Err (Unread fault)

-- the number of the operation
abbrev pub number_of : Value entry_front → ℤ
number_of front = front.1.1.1.1

abbrev pub with_kind : ℕ → Value entry_front → Option TxnKind → List ℕ → Result Logged EntryFault
with_kind end front (Some kind) bytes = with_body end front kind (reading (fields kind) end bytes)
with_kind end front None bytes = Err (Unknown (number_of front))

abbrev pub with_front : ℕ → Result (Value entry_front × List ℕ) TakeError → Result Logged EntryFault
with_front end (Ok found) = with_kind end found.0 (kind_at (number_of found.0) found.1) found.1
with_front end (Err fault) = Err (Unread fault)

-- the entry that these bytes are, all of them
unfoldable pub entry_at : List ℕ → Result Logged EntryFault
entry_at bytes = with_front (length bytes) (reading entry_front (length bytes) bytes)

-- ---- a record

abbrev pub are_zeros : List ℕ → Bool
are_zeros bytes = list_all (λ byte. byte == 0) bytes

-- What stands at a place: zeros to the end; a record that a crash has cut off, so that its last byte at least is 0 or not there, and so
-- is all after it; or a record with this entry, and these bytes after it.
pub data Found : Type 0 where
  Zeros : Found
  Torn : Found
  Holds : List ℕ → List ℕ → Found

-- a record without its B is cut off where zeros alone follow
abbrev pub unended : ℕ → ℕ → List ℕ → Result Found LogFault
unended place byte bytes = if are_zeros (byte ∷ bytes) then Ok Torn else Err (log.EndByte place)

abbrev pub with_end : ℕ → ℤ → List ℕ → List ℕ → Result Found LogFault
with_end place sum entry [] = Ok Torn
with_end place sum entry (byte ∷ bytes) =
    if byte == 66 then (if int_eq sum (pos (adler32 entry)) then Ok (Holds entry bytes) else Err (log.Checksum place))
    else unended place byte bytes

-- no entry is empty
abbrev pub with_entry : ℕ → ℤ → List ℕ → List ℕ → Result Found LogFault
with_entry place sum [] bytes = if are_zeros bytes then Ok Torn else Err (log.Length place)
with_entry place sum (first ∷ entry) bytes = with_end place sum (first ∷ entry) bytes

-- a length above what is there is that of a record that the file's end has cut off
abbrev pub with_record : ℕ → Result (Value record_front × List ℕ) TakeError → Result Found LogFault
with_record place (Ok ((sum, Some entry), bytes)) = with_entry place sum entry bytes
with_record place (Ok ((sum, None), bytes)) = Err (log.Length place)
with_record place (Err (Short short)) = Ok Torn
with_record place (Err fault) = Err (log.Length place)

-- what these bytes are, which begin at a place
unfoldable pub record_at : ℕ → List ℕ → Result Found LogFault
record_at place bytes = if are_zeros bytes then Ok Zeros else with_record place (reading record_front (length bytes) bytes)

-- ---- a log

-- an entry, and the place of its record
pub record Placed : Type 0 where
  pub place : ℕ
  pub entry : Logged

-- entries, and the place of a record after them that is cut off
abbrev pub Entries : Type 0
Entries = List Placed × Option ℕ

abbrev pub put_first : Placed → Result Entries LogFault → Result Entries LogFault
put_first one (Ok found) = Ok (one ∷ found.0, found.1)
put_first one (Err fault) = Err fault

-- an entry whose zxid is above the one before
abbrev pub above : ℕ → ℤ → Result Logged EntryFault → Result Placed LogFault
above place low (Ok entry) =
    if int_lt low entry.zxid then Ok (record { place = place; entry = entry }) else Err (log.Order place entry.zxid)
above place low (Err fault) = Err (log.Entry place fault)

-- The entry of the record at a place, after the zxid before.
unfoldable pub placed_at : ℕ → ℤ → List ℕ → Result Placed LogFault
placed_at place low entry = above place low (entry_at entry)

abbrev pub with_placed : (ℤ → Result Entries LogFault) → Result Placed LogFault → Result Entries LogFault
with_placed others (Ok one) = put_first one (others one.entry.zxid)
with_placed others (Err fault) = Err fault

abbrev pub with_found : ℕ → ℤ → (ℤ → List ℕ → Result Entries LogFault) → Result Found LogFault → Result Entries LogFault
with_found place low others (Ok Zeros) = Ok ([], None)
with_found place low others (Ok Torn) = Ok ([], Some place)
with_found place low others (Ok (Holds entry bytes)) = with_placed (λ zxid. others zxid bytes) (placed_at place low entry)
with_found place low others (Err fault) = Err fault

-- The entries of at most this many records, of a file of this length.
abbrev pub entries_at : ℕ → ℕ → ℤ → List ℕ → Result Entries LogFault
entries_at zero end low bytes = Ok ([], None)
entries_at (suc most) end low bytes =
    with_found (place_of end bytes) low (entries_at most end) (record_at (place_of end bytes) bytes)

pub record ReadLog : Type 0 where
  pub dbid : ℤ
  pub entries : List Placed
  pub torn : Option ℕ

abbrev pub with_entries : ℤ → Result Entries LogFault → Result ReadLog LogFault
with_entries dbid (Ok found) = Ok (record { dbid = dbid; entries = found.0; torn = found.1 })
with_entries dbid (Err fault) = Err fault

-- no file has more records than bytes
abbrev pub with_header : ℕ → Result (Value file_header × List ℕ) TakeError → Result ReadLog LogFault
with_header end (Ok (header, bytes)) =
    if int_eq header.0 magic
    then (if int_eq header.1.0 version then with_entries header.1.1 (entries_at (length bytes) end (pos 0) bytes)
    else Err (log.Version header.1.0))
    else Err log.Magic
with_header end (Err fault) = Err (log.Header fault)

-- the log that these bytes are, or its first fault
unfoldable pub log_at : List ℕ → Result ReadLog LogFault
log_at bytes = with_header (length bytes) (reading file_header (length bytes) bytes)

-- ---- what a log that is read says of its bytes

abbrev pub logged : List Placed → List Logged
logged entries = map (λ one. one.entry) entries

-- what comes after the records: zeros, or nothing; or a record that is cut off, at this place
abbrev pub EndsLog : ℕ → List ℕ → Option ℕ → Type 0
EndsLog end rest None = are_zeros rest ≡ true
EndsLog end rest (Some place) = (place ≡ place_of end rest) × (record_at place rest ≡ Ok Torn)

-- Records from a place on, after a zxid: each begins where the one before ends, its length has a spelling, and the zxids rise.
abbrev pub StandInOrder : ℕ → ℤ → List Placed → Type 0
StandInOrder place low [] = ⊤
StandInOrder place low (one ∷ others) = (one.place ≡ place) × HasLength (entry_bytes one.entry) × (int_lt low one.entry.zxid ≡ true)
    × StandInOrder (place + length (record_bytes (entry_bytes one.entry))) one.entry.zxid others

-- The bytes are the header, records of entries that have a spelling, in order after its 16 bytes, and what comes after them.
pub record IsLog (bytes : List ℕ) (log : ReadLog) : Type 0 where
  pub rest : List ℕ
  pub parts : bytes ≡ log_bytes log.dbid (logged log.entries) ++ rest
  pub dbid : FitsSigned w64 log.dbid
  pub fits : AllByRecursion EntryFits (logged log.entries)
  pub order : StandInOrder 16 (pos 0) log.entries
  pub ends : EndsLog (length bytes) rest log.torn
