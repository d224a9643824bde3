-- Answers of look-ups, as what there is to see.
use Rattle.std.specs.Prelude.{ℕ, pos, ◌≡◌, Option, Some, None}
use Rattle.std.specs.Option.{option_map}
use Rattle.std.specs.BTreeSet.{contains_text}
use Rattle.std.specs.FinSet as set
use Rattle.zk_nodes.specs.Path.{NodePath}
use Rattle.zk_nodes.specs.History.{Tree, Node, size_of, View, Absence, Contents, Children}
use Rattle.zk_nodes.specs.Names.{Names as NameSet}
use Rattle.zk_history.specs.HistoryView.{HasChildren}
use Rattle.zk_nodes.specs.declared.stat.Stat.{Stat}
use Rattle.zk_history.specs.declared.data.Data.{Data}
use Rattle.zk_nodes.specs.declared.names.Names.{Names}

-- the data that are told
abbrev pub data_told : {A : Type 0} → Option (Data A) → View
data_told None = Absence
data_told (Some d) = Contents (option_map (λ v. v.items) d.bytes) d.stat

-- the names that are told
abbrev pub names_told : {A : Type 0} → Option (Names A) → View
names_told None = Absence
names_told (Some n) = Children (contains_text n.names) n.pzxid

-- a node's Stat, with this many children
abbrev pub stat_of : ℕ → Node → Stat
stat_of children node = record {
  czxid = pos node.czxid;
  mzxid = pos node.mzxid;
  ctime = node.ctime;
  mtime = node.mtime;
  version = pos node.version;
  cversion = pos 0;
  aversion = pos 0;
  ephemeral_owner = node.owner;
  data_length = pos (size_of node.content);
  num_children = pos children;
  pzxid = pos node.pzxid;
}

-- The Stat of the node at a path, or none where no node is there: it has as many children as names are below it.
abbrev pub IsStat : Tree → NodePath → Option Stat → Type 0
IsStat tree path told = (names : NameSet) × HasChildren tree path names × (told ≡ option_map (stat_of (set.len names)) (tree path))
