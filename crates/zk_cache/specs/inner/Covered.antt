-- Where a kept answer stays as it is.
use Rattle.std.specs.Prelude.{Bool, false}
use Rattle.zk_cache.specs.declared.held.Mark.TheVariants.{Good}
use Rattle.zk_cache.specs.Kept.{Answer, Known, Full, Mark, same_fields}

-- whether the kept answer stays where the new one comes: it is full and good, and the new one has its fields
abbrev pub stays : Answer → Mark → Answer → Bool
stays (Full bytes stat) Good (Known new) = same_fields stat new
stays _ _ _ = false
