-- The one access list that requests to create a node carry.
use Rattle.std.specs.Prelude.{pos, [], ◌∷◌, Some, codes}
use Rattle.zk_jute.specs.Layout.{Value, vector}
use Rattle.zk_records.specs.Layouts.{acl}

-- everyone (scheme world, id anyone) may do everything (perms 31)
abbrev pub open_acl : Value (vector acl)
open_acl = Some ((pos 31, (Some (codes "world"), Some (codes "anyone"))) ∷ [])
