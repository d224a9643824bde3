-- A set of texts, as a set of names.
use Rattle.std.specs.Prelude.{String, map}
use Rattle.std.specs.String.{string_bytes}
use Rattle.std.specs.BTreeSet.{BTreeSet}
use Rattle.std.specs.FinSet as set
use Rattle.zk_nodes.specs.Names.{Names}

-- the names that the texts are
abbrev pub names_of : {A : Type 0} → BTreeSet (String A) → Names
names_of kept = set.from_list (map string_bytes kept.keys)
