-- What a reply that leaves a watch says, as the code has it.
use Rattle.std.specs.Prelude.{Option, Some, None}
use Rattle.std.specs.Option.{option_map}
use Rattle.zk_nodes.specs.declared.side.Side.{Side}
use Rattle.zk_nodes.specs.declared.side.Side.TheVariants.{Data, Child}
use Rattle.zk_nodes.specs.DataStats.{data_stat_of}
use Rattle.zk_cache.specs.inner.Contents.{set_of}
use Rattle.zk_cache.specs.Kept.{Answer, Absent, Known, Full, Names}
use Rattle.zk_turns.specs.Past.{Left}
use Rattle.zk_client.specs.declared.replies.Left.{Left as RustLeft}
use Rattle.zk_client.specs.declared.replies.Left.TheVariants as left

-- the side on which it leaves a watch
abbrev pub side_left : {A : Type 0} → RustLeft A → Side
side_left (left.Names path names pzxid) = Child
side_left (left.Absent path) = Data
side_left (left.Known path stat) = Data
side_left (left.Full path bytes stat) = Data

-- what it says of the node at its path
abbrev pub data_left : {A : Type 0} → RustLeft A → Option (Left Answer)
data_left (left.Absent path) = Some (record { path = path; says = Absent })
data_left (left.Known path stat) = Some (record { path = path; says = Known (data_stat_of stat) })
data_left (left.Full path bytes stat) = Some (record { path = path; says = Full (option_map (λ b. b.now) bytes) (data_stat_of stat) })
data_left (left.Names path names pzxid) = None

-- what it says of the names below it
abbrev pub children_left : {A : Type 0} → RustLeft A → Option (Left Names)
children_left (left.Names path names pzxid) = Some (record { path = path; says = record { names = set_of names.now; pzxid = pzxid } })
children_left _ = None

-- the same, where a reply may leave nothing
abbrev pub side_in : {A : Type 0} → Option (RustLeft A) → Option Side
side_in None = None
side_in (Some said) = Some (side_left said)

abbrev pub data_in : {A : Type 0} → Option (RustLeft A) → Option (Left Answer)
data_in None = None
data_in (Some said) = data_left said

abbrev pub children_in : {A : Type 0} → Option (RustLeft A) → Option (Left Names)
children_in None = None
children_in (Some said) = children_left said
