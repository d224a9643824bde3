-- What is kept of a path, as numbers and texts.
use Rattle.std.specs.Prelude.{◌≡◌, ◌++◌, ℕ, ℤ, pos, true, false, List, [], drop, length, take, Option, Some, None}
use Rattle.std.specs.List.{slice_get, flat_map, AllByRecursion}
use Rattle.std.specs.List.Sorted.{IsStrictlySortedBy}
use Rattle.std.specs.FinSet as set
use Rattle.zk_jute.specs.Layout.{ustring}
use Rattle.zk_jute.specs.Spelling.{Fits, spelling}
use Rattle.zk_nodes.specs.declared.data_stat.DataStat.{DataStat}
use Rattle.zk_nodes.specs.Names.{Names, name_cmp}
use Rattle.zk_cache.specs.Kept as cache
use Rattle.zk_cache.specs.Kept.{Answer, Absent, Known, Full}
use Rattle.zk_cache.specs.declared.held.Kept.{Kept}
use Rattle.zk_cache.specs.declared.held.Mark.{Mark}
use Rattle.zk_cache.specs.declared.held.Mark.TheVariants.{Good, Stale}
use Rattle.ffi_device.specs.declared.kept.FlatDataStat.{FlatDataStat}
use Rattle.ffi_device.specs.declared.kept.KeptData.{KeptData}
use Rattle.ffi_device.specs.declared.kept.KeptNames.{KeptNames}

-- the number of a mark
abbrev pub mark_number : Mark → ℤ
mark_number Good = pos 1
mark_number Stale = pos 2

-- no stat: zeros
abbrev pub no_data_stat : FlatDataStat
no_data_stat =
    record { czxid = pos 0; mzxid = pos 0; ctime = pos 0; mtime = pos 0; ephemeral_owner = pos 0; version = pos 0; data_length = pos 0 }

-- the same seven fields
abbrev pub data_stat_flat : DataStat → FlatDataStat
data_stat_flat stat = record {
  czxid = stat.czxid;
  mzxid = stat.mzxid;
  ctime = stat.ctime;
  mtime = stat.mtime;
  ephemeral_owner = stat.ephemeral_owner;
  version = stat.version;
  data_length = stat.data_length;
}

-- nothing is kept of the data
abbrev pub no_data : KeptData
no_data = record { kind = pos 0; mark = pos 0; length = 0; is_null = false; stat = no_data_stat }

-- an answer about the data with the number of its mark
abbrev pub answer_flat : (mark : ℤ) → Answer → KeptData
answer_flat mark Absent = record no_data { kind = pos 1; mark = mark }
answer_flat mark (Known stat) = record no_data { kind = pos 2; mark = mark; stat = data_stat_flat stat }
answer_flat mark (Full None stat) = record no_data { kind = pos 3; mark = mark; is_null = true; stat = data_stat_flat stat }
answer_flat mark (Full (Some bytes) stat) = record no_data { kind = pos 3; mark = mark; length = length bytes; stat = data_stat_flat stat }

-- what is kept of the data
abbrev pub data_flat : Option (Kept Answer) → KeptData
data_flat None = no_data
data_flat (Some kept) = answer_flat (mark_number kept.mark) kept.answer

-- the data of an answer, and nothing if they are null or were not read
abbrev pub answer_text : Answer → List ℕ
answer_text (Full (Some bytes) stat) = bytes
answer_text _ = []

-- the data that are kept, and else nothing
abbrev pub data_text : Option (Kept Answer) → List ℕ
data_text None = []
data_text (Some kept) = answer_text kept.answer

-- nothing is kept of the names
abbrev pub no_names : KeptNames
no_names = record { mark = pos 0; count = 0; pzxid = pos 0 }

-- The list has the names of the set in byte order, each once. There is one such list of each set.
pub record IsListing (names : Names) (listed : List (List ℕ)) : Type 0 where
  pub ordered : IsStrictlySortedBy name_cmp listed
  pub all : set.from_list listed ≡ names

-- names with their mark, as numbers
pub record AreNames (kept : Kept cache.Names) (flat : KeptNames) : Type 0 where
  pub listed : List (List ℕ)
  pub listing : IsListing kept.answer.names listed
  pub is : flat ≡ record { mark = mark_number kept.mark; count = length listed; pzxid = kept.answer.pzxid }

-- what is kept of the names
abbrev pub TellsNames : Option (Kept cache.Names) → KeptNames → Type 0
TellsNames None flat = flat ≡ no_names
TellsNames (Some kept) flat = AreNames kept flat

-- a text, if there is one
abbrev pub text_or_none : Option (List ℕ) → List ℕ
text_or_none None = []
text_or_none (Some text) = text

-- the name of this index in byte order, and nothing if there is none
pub record IsNameAt (index : ℕ) (names : Names) (name : List ℕ) : Type 0 where
  pub listed : List (List ℕ)
  pub listing : IsListing names listed
  pub is : name ≡ text_or_none (slice_get listed index)

-- the same of what is kept
abbrev pub IsKeptName : (index : ℕ) → Option (Kept cache.Names) → List ℕ → Type 0
IsKeptName index None name = name ≡ []
IsKeptName index (Some kept) name = IsNameAt index kept.answer.names name

-- names in byte order, each as zookeeper.jute spells a ustring: after its length
pub record AreSpelled (names : Names) (text : List ℕ) : Type 0 where
  pub listed : List (List ℕ)
  pub listing : IsListing names listed
  pub fits : AllByRecursion (λ name. Fits ustring (Some name)) listed
  pub is : text ≡ flat_map (λ name. spelling ustring (Some name)) listed

-- the same of what is kept, and nothing if nothing is
abbrev pub AreKeptNames : Option (Kept cache.Names) → List ℕ → Type 0
AreKeptNames None text = text ≡ []
AreKeptNames (Some kept) text = AreSpelled kept.answer.names text

-- A text of which this is so is written, as much of it as there is room for.
pub record WritesText (Is : List ℕ → Type 0) (room written : List ℕ) (count : ℕ) : Type 0 where
  pub text : List ℕ
  pub is : Is text
  pub count_is : count ≡ length text
  pub copied : written ≡ take (length room) text ++ drop (length text) room

-- one name that is kept
abbrev pub WritesName : (index : ℕ) → Option (Kept cache.Names) → (room written : List ℕ) (count : ℕ) → Type 0
WritesName index kept = WritesText (IsKeptName index kept)

-- all names that are kept
abbrev pub WritesNames : Option (Kept cache.Names) → (room written : List ℕ) (count : ℕ) → Type 0
WritesNames kept = WritesText (AreKeptNames kept)
