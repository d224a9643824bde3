-- How entries, records and logs are spelled.
use Rattle.std.specs.Prelude.{◌≡◌, ℕ, ℤ, pos, List, [], ◌∷◌, ◌++◌, map, Option, Some, None, ⊤}
use Rattle.std.specs.List.{flat_map}
use Rattle.zk_jute.specs.Layout.{Layout, int, long, buffer, ◌⨾◌, Value}
use Rattle.zk_jute.specs.Spelling.{spelling, Fits}
use Rattle.zk_log.specs.declared.kind.TxnKind.{TxnKind}
use Rattle.zk_log.specs.Kinds.{kind_number, kind_at, fields}
use Rattle.zk_log.specs.Checksum.{adler32}

-- the header of an entry: clientId, cxid, zxid, time, type
abbrev pub entry_front : Layout
entry_front = long ⨾ (int ⨾ (long ⨾ (long ⨾ int)))

-- the digest of the tree after an entry: version, treeDigest
abbrev pub digest : Layout
digest = int ⨾ long

-- An entry: the session that asked, its own number of the request, the zxid, the time, the operation with its fields, and the digest, if
-- the server writes one.
pub record Logged : Type 0 where
  pub session : ℤ
  pub cxid : ℤ
  pub zxid : ℤ
  pub time : ℤ
  pub kind : TxnKind
  pub body : Value (fields kind)
  pub digest : Option (Value digest)

-- its header's values
abbrev pub front_of : Logged → Value entry_front
front_of e = (e.session, (e.cxid, (e.zxid, (e.time, kind_number e.kind))))

abbrev pub digest_bytes : Option (Value digest) → List ℕ
digest_bytes None = []
digest_bytes (Some told) = spelling digest told

-- what comes after the header
abbrev pub behind_front : Logged → List ℕ
behind_front e = spelling (fields e.kind) e.body ++ digest_bytes e.digest

abbrev pub entry_bytes : Logged → List ℕ
entry_bytes e = spelling entry_front (front_of e) ++ behind_front e

abbrev pub DigestFits : Option (Value digest) → Type 0
DigestFits None = ⊤
DigestFits (Some told) = Fits digest told

-- What has a spelling. A close without paths has no digest of another version than 2, and one with paths is not taken for it.
pub record EntryFits (e : Logged) : Type 0 where
  pub front : Fits entry_front (front_of e)
  pub body : Fits (fields e.kind) e.body
  pub digest : DigestFits e.digest
  pub kind : kind_at (kind_number e.kind) (behind_front e) ≡ Some e.kind

-- checksum, and the entry with its length
abbrev pub record_front : Layout
record_front = long ⨾ buffer

-- after an entry comes the byte B
abbrev pub record_bytes : List ℕ → List ℕ
record_bytes entry = spelling record_front (pos (adler32 entry), Some entry) ++ 66 ∷ []

-- the header of a file: magic, version, dbid
abbrev pub file_header : Layout
file_header = int ⨾ (int ⨾ long)

-- the bytes ZKLG
abbrev pub magic : ℤ
magic = pos 1514884167

-- the version of the format
abbrev pub version : ℤ
version = pos 2

-- the header of a log, and records of these entries
abbrev pub log_bytes : ℤ → List Logged → List ℕ
log_bytes dbid entries = spelling file_header (magic, (version, dbid)) ++ flat_map record_bytes (map entry_bytes entries)
