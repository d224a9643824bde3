-- When an answer stands, and what it says, by one look back in place of another: in the words of `theory_pieces`.
use Rattle.zk_cache.specs.Kept.{Answer, Absent, Known, Full}
use Rattle.zk_cache.specs.declared.held.Kept.{Kept}
use Rattle.std.specs.Prelude.{◌≡◌, List, ◌∷◌, ◌++◌}
use Rattle.std.specs.Prelude.{Option, Some, None}
use Rattle.std.specs.List.{AllByRecursion}
use Rattle.zk_nodes.specs.declared.data_stat.DataStat.{DataStat}
use Rattle.zk_turns.specs.Past.{Happening, Past, Word, Says, Nothing}

-- A reply that leaves a watch said this, and nothing that happened since then concerns the path on that side.
pub record IsMarked {A : Type 0} (word : Happening → Word A) (past : Past) (answer : A) : Type 0 where
  pub since : List Happening
  pub reply : Happening
  pub before : Past
  pub whole : past ≡ since ++ reply ∷ before
  pub says : word reply ≡ Says answer
  pub quiet : AllByRecursion (λ happening. word happening ≡ Nothing) since

-- what an answer says of the node, without its data
abbrev pub fields_in : Answer → Option DataStat
fields_in Absent = None
fields_in (Known fields) = Some fields
fields_in (Full bytes fields) = Some fields

-- A good answer says what the last reply said, if nothing has ended that since.
abbrev pub AgreesWith : Option (Kept Answer) → Option Answer → Type 0
AgreesWith (Some kept) (Some said) = fields_in kept.answer ≡ fields_in said
AgreesWith kept said = Unit {0}
