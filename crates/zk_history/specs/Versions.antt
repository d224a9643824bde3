-- What a history knows of each path: the versions of its node, in the order of the changes that made them.
use Rattle.std.specs.Prelude.{ℕ, pos, ◌≡◌, ◌≤◌, nat_le, true, if◌then◌else◌, List, [], ◌∷◌}
use Rattle.std.specs.Prelude.{Option, Some, None, option_map, slice_get, is_some, ⊤, String}
use Rattle.std.specs.FinSet as set
use Rattle.std.specs.Option.{option_map_or}
use Rattle.std.specs.BTreeMap.{BTreeMap, get_by_text}
use Rattle.std.specs.declared.vec.Vec.{Vec}
use Rattle.zk_nodes.specs.Path.{Text, NodePath, path_eq, path_of}
use Rattle.zk_nodes.specs.History.{Node, Change, Creates, Sets, Deletes, Transaction, tree_at, newest}
use Rattle.zk_nodes.specs.PathFault.{IsPath}
use Rattle.zk_nodes.specs.Names.{Names}
use Rattle.zk_history.specs.Replay.{children_after, children_at, count_at}
use Rattle.zk_history.specs.HistoryView.{HistoryView, history_of}
use Rattle.zk_history.specs.declared.version.Entry.{Entry}
use Rattle.zk_history.specs.declared.version.Version.{Version}
use Rattle.zk_history.specs.declared.version.Origin.{Origin}
use Rattle.zk_history.specs.declared.version.Origin.TheVariants.{Root, First, Later}

-- the versions of the path of a text
abbrev pub versions_of : {A : Type 0} → BTreeMap (String A) (Vec Version A) → Text → List Version
versions_of versions text = option_map_or (λ v. v.items) (get_by_text versions text) []

-- the last version up to a zxid, and held where there is none
abbrev pub version_at : ℕ → List Version → Option Version → Option Version
version_at z [] held = held
version_at z (one ∷ more) held = version_at z more (if nat_le one.zxid z then Some one else held)

-- zxids do not fall, from low up to high
abbrev pub AreOrdered : ℕ → List Version → ℕ → Type 0
AreOrdered low [] high = low ≤ high
AreOrdered low (one ∷ more) high = (low ≤ one.zxid) × AreOrdered one.zxid more high

-- the root as it is before all changes
abbrev pub first_entry : NodePath → Option Entry
first_entry path =
    if path_eq path [] then Some
    (record { origin = Root; czxid = 0; mzxid = 0; pzxid = 0; ctime = pos 0; mtime = pos 0; version = 0; owner = pos 0 }) else None

-- the node of a path at a version, or before all
abbrev pub entry_of : NodePath → Option Version → Option Entry
entry_of path None = first_entry path
entry_of path (Some one) = one.entry

-- how many children it has then
abbrev pub children_of : Option Version → ℕ
children_of None = 0
children_of (Some one) = one.children

-- the bytes that a change writes
abbrev pub content_of : Change → Option (Option (List ℕ))
content_of (Creates path content owner) = Some content
content_of (Sets path content) = Some content
content_of (Deletes path) = None

-- the bytes that a change writes, where there is one
abbrev pub content_in : Option Change → Option (Option (List ℕ))
content_in None = None
content_in (Some change) = content_of change

-- the change at a place of a transaction
abbrev pub nth_change : Option Transaction → ℕ → Option Change
nth_change None n = None
nth_change (Some one) n = slice_get one.changes n

-- the change that stands at an origin; the root is as if it was created
abbrev pub change_at : HistoryView → Origin → Option Change
change_at kept Root = Some (Creates [] (Some []) (pos 0))
change_at kept (First i) = nth_change (slice_get kept.nodes i) 0
change_at kept (Later i j) = nth_change (slice_get kept.transactions i) j

-- a node with these data
abbrev pub node_with : Entry → Option (List ℕ) → Node
node_with e content = record {
  content = content;
  czxid = e.czxid;
  mzxid = e.mzxid;
  pzxid = e.pzxid;
  ctime = e.ctime;
  mtime = e.mtime;
  version = e.version;
  owner = e.owner;
}

-- the data of an entry, where they stand
abbrev pub content_at : HistoryView → Origin → Option (Option (List ℕ))
content_at kept origin = content_in (change_at kept origin)

-- the node that an entry means
abbrev pub node_told : HistoryView → Entry → Option Node
node_told kept e = option_map (node_with e) (content_at kept e.origin)

-- an entry, or none, means a node, or none
abbrev pub Tells : HistoryView → Option Entry → Option Node → Type 0
Tells kept entry node = option_map (node_told kept) entry ≡ option_map Some node

-- a set of children's names after a change, if there is one
abbrev pub names_by : NodePath → Option Change → Names → Names
names_by p None names = names
names_by p (Some change) names = children_after p change names

-- the same after the changes that made versions, up to a zxid
abbrev pub names_told : HistoryView → NodePath → ℕ → List Version → Names → Names
names_told kept p z [] names = names
names_told kept p z (one ∷ more) names =
    names_told kept p z more (if nat_le one.zxid z then names_by p (change_at kept one.origin) names else names)

-- the changes that made versions stand where these say
abbrev pub ArePlaced : HistoryView → List Version → Type 0
ArePlaced kept [] = ⊤
ArePlaced kept (one ∷ more) = (is_some (change_at kept one.origin) ≡ true) × ArePlaced kept more

-- The versions of each path tell what the history has there at each zxid.
pub record IsIndexed (kept : HistoryView) (versions : Text → List Version) : Type 0 where
  pub nodes : (text : Text) → IsPath text → (z : ℕ)
      → Tells kept (entry_of (path_of text) (version_at z (versions text) None)) (tree_at (history_of kept) z (path_of text))
  pub counts : (text : Text) → IsPath text → (z : ℕ) → children_of (version_at z (versions text) None)
      ≡ count_at z (path_of text) kept.transactions (count_at 0 (path_of text) kept.nodes 0)
  pub names : (text : Text) → IsPath text → (z : ℕ) → names_told kept (path_of text) z (versions text) set.empty
      ≡ children_at z (path_of text) kept.transactions (children_at 0 (path_of text) kept.nodes set.empty)
  pub placed : (text : Text) → IsPath text → ArePlaced kept (versions text)
  pub ordered : (text : Text) → IsPath text → AreOrdered 0 (versions text) (newest 0 kept.transactions)
