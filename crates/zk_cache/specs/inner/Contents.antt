-- What contracts of private functions say: nobody has to believe it.
use Rattle.std.specs.Prelude.{List, map, option_map}
use Rattle.zk_nodes.specs.Path.{Text}
use Rattle.zk_nodes.specs.Names.{Names as NameSet}
use Rattle.zk_jute.specs.declared.lent.TextRef.{TextRef}
use Rattle.zk_jute.specs.Lenient.{or_empty}
use Rattle.std.specs.FinSet as set

-- a name of a reply; null is the empty one
abbrev pub name_in : TextRef → Text
name_in name = or_empty (option_map (λ text. text.now) name.text)

-- the names of a reply as a set
abbrev pub set_of : List TextRef → NameSet
set_of names = set.from_list (map name_in names)
