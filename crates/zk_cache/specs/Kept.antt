-- What is kept of one text, and what becomes of it.
use Rattle.std.specs.Prelude.{ℕ, ℤ, Bool, true, false, ◌&&◌, List, Option, Some, None, if◌then◌else◌}
use Rattle.std.specs.Ordering.{int_eq}
use Rattle.zk_nodes.specs.Names.{Names as NameSet}
use Rattle.zk_nodes.specs.declared.data_stat.DataStat.{DataStat}
use Rattle.zk_cache.specs.declared.held.Mark.TheVariants.{Good, Stale}
pub use Rattle.zk_cache.specs.declared.held.Mark.{Mark}
-- an answer with its mark
pub use Rattle.zk_cache.specs.declared.held.Kept.{Kept}

-- an answer about the node itself, as a reply gives it and as it is kept
pub data Answer : Type 0 where
  Absent : Answer
  Known : (stat : DataStat) → Answer
  Full : (bytes : Option (List ℕ)) (stat : DataStat) → Answer

-- the names of the children, as a set, with the zxid of its last change
pub record Names : Type 0 where
  pub names : NameSet
  pub pzxid : ℤ

-- the answer, marked good
abbrev pub as_good : {A : Type 0} → A → Kept A
as_good answer = record { answer = answer; mark = Good }

abbrev pub good : {A : Type 0} → A → Option (Kept A)
good answer = Some (as_good answer)

-- the answer that is kept, if there is one, marked stale
abbrev pub stale : {A : Type 0} → Option (Kept A) → Option (Kept A)
stale None = None
stale (Some kept) = Some (record { answer = kept.answer; mark = Stale })

abbrev pub if_good : {A : Type 0} → A → Mark → Option (Kept A)
if_good answer Good = good answer
if_good answer Stale = None

-- the answer that is kept, if it is good
abbrev pub without_stale : {A : Type 0} → Option (Kept A) → Option (Kept A)
without_stale None = None
without_stale (Some kept) = if_good kept.answer kept.mark

abbrev pub is_good : Mark → Bool
is_good Good = true
is_good Stale = false

-- whether an answer is kept and good
abbrev pub is_marked_good : {A : Type 0} → Option (Kept A) → Bool
is_marked_good None = false
is_marked_good (Some kept) = is_good kept.mark

-- the same seven fields
abbrev pub same_fields : DataStat → DataStat → Bool
same_fields a b =
    int_eq a.czxid b.czxid && (int_eq a.mzxid b.mzxid && (int_eq a.ctime b.ctime && (int_eq a.mtime b.mtime
    && (int_eq a.version b.version && (int_eq a.data_length b.data_length && int_eq a.ephemeral_owner b.ephemeral_owner)))))

-- What is kept where an answer comes: a Known leaves a good Full that has the same fields.
abbrev pub merged_full : Mark → Option (List ℕ) → DataStat → DataStat → Answer
merged_full Good bytes old new = if same_fields old new then Full bytes old else Known new
merged_full Stale bytes old new = Known new

abbrev pub merged_known : Kept Answer → DataStat → Answer
merged_known kept new =
    elim kept.answer [ Absent ↦ Known new | Known old ↦ Known new | Full bytes old ↦ merged_full kept.mark bytes old new ]

abbrev pub merged : Option (Kept Answer) → Answer → Answer
merged (Some kept) (Known new) = merged_known kept new
merged _ answer = answer
