-- All nodes at and below a path, and what is lacking before they are told, as bytes.
use Rattle.std.specs.Prelude.{◌≡◌, ◌≤◌, ◌↔◌, ◌++◌, ℕ, ℤ, pos, List, [], length, Option, Some, None}
use Rattle.std.specs.List.{flat_map, AllByRecursion}
use Rattle.zk_jute.specs.Layout.{Layout, Value, ustring, buffer, long, int, ◌⨾◌}
use Rattle.zk_jute.specs.Spelling.{Fits, spelling}
use Rattle.zk_nodes.specs.Path.{Text}
use Rattle.zk_nodes.specs.History.{History}
use Rattle.zk_nodes.specs.declared.side.Side.{Side}
use Rattle.zk_nodes.specs.declared.side.Side.TheVariants.{Data, Child}
use Rattle.zk_nodes.specs.declared.data_stat.DataStat.{DataStat}
use Rattle.zk_cache.specs.Kept.{Answer, Absent, Known, Full, Names}
use Rattle.zk_cache.specs.declared.held.Kept.{Kept}
use Rattle.zk_turns.specs.View.{View, Cache}
use Rattle.zk_conclusions.specs.Seen.{IsServedAt, tree_seen}
use Rattle.zk_conclusions.specs.Subtrees.{AreAllBelow, IsOneReached, IsSubtreeOf}
use Rattle.zk_conclusions.specs.Walks.{IsWalk}
use Rattle.ffi_device.specs.Flats.{side_number}
use Rattle.zk_conclusions.specs.Lacks.{AreLacking, HasWalk, lacks_data, lacks_names}

-- A node: path, data, czxid, mzxid, ctime, mtime, version, ephemeralOwner, dataLength, pzxid. They are in the order of a Stat.
abbrev pub node_layout : Layout
node_layout = ustring ⨾ (buffer ⨾ (long ⨾ (long ⨾ (long ⨾ (long ⨾ (int ⨾ (long ⨾ (int ⨾ long))))))))

-- no stat: zeros
abbrev pub no_stat : DataStat
no_stat =
    record { czxid = pos 0; mzxid = pos 0; ctime = pos 0; mtime = pos 0; version = pos 0; ephemeral_owner = pos 0; data_length = pos 0 }

-- the data of a node that is kept with its data
abbrev pub bytes_in : Option (Kept Answer) → Option (List ℕ)
bytes_in None = None
bytes_in (Some kept) = elim kept.answer [ Absent ↦ None | Known stat ↦ None | Full bytes stat ↦ bytes ]

-- what is known of it
abbrev pub stat_in : Option (Kept Answer) → DataStat
stat_in None = no_stat
stat_in (Some kept) = elim kept.answer [ Absent ↦ no_stat | Known stat ↦ stat | Full bytes stat ↦ stat ]

-- the zxid of the last change of the names below it
abbrev pub pzxid_in : Option (Kept Names) → ℤ
pzxid_in None = pos 0
pzxid_in (Some kept) = kept.answer.pzxid

-- the values of a node
abbrev pub node_value : Text → Option (List ℕ) → DataStat → (pzxid : ℤ) → Value node_layout
node_value path bytes stat pzxid = (
  Some path,
  (bytes, (stat.czxid, (stat.mzxid, (stat.ctime, (stat.mtime, (stat.version, (stat.ephemeral_owner, (stat.data_length, pzxid)))))))),
)

-- what is kept of the node at a path
abbrev pub node_kept : Cache → Text → Value node_layout
node_kept cache path = node_value path (bytes_in (cache.nodes path)) (stat_in (cache.nodes path)) (pzxid_in (cache.children path))

-- One record of each of these paths, one after the other.
pub record AreRecords (layout : Layout) (value : Text → Value layout) (paths : List Text) (text : List ℕ) : Type 0 where
  pub fits : AllByRecursion (λ path. Fits layout (value path)) paths
  pub is : text ≡ flat_map (λ path. spelling layout (value path)) paths

-- What is kept of the nodes at these paths, one after the other.
abbrev pub AreNodes : Cache → List Text → List ℕ → Type 0
AreNodes cache = AreRecords node_layout (node_kept cache)

-- All nodes at and below a path, at most that many, each after its parent: as the client keeps them, which is whole and good, and under
-- servers of a history as the history has them at the last seen zxid, and no others.
pub record IsSubtreeText (view : View) (root : Text) (most : ℕ) (text : List ℕ) : Type 0 where
  pub paths : List Text
  pub walk : IsWalk view.cache root paths
  pub few : length paths ≤ most
  pub nodes : AreNodes view.cache paths text
  pub holds : (h : History) → IsServedAt (IsOneReached view.cache root) h view → IsSubtreeOf (tree_seen h view) view.cache root
  pub all : (h : History) → IsServedAt (IsOneReached view.cache root) h view → AreAllBelow (tree_seen h view) root paths

-- a read: its path, and the number of the side that it is about
abbrev pub read_layout : Layout
read_layout = ustring ⨾ int

abbrev pub read_value : Side → Text → Value read_layout
read_value side path = (Some path, side_number side)

-- These paths, each with the number of the side.
abbrev pub AreReads : Side → List Text → List ℕ → Type 0
AreReads side = AreRecords read_layout (read_value side)

-- The reads that are lacking at and below a path, of at most that many nodes: those of data first, then those of names. None is lacking
-- exactly if there is a subtree.
pub record IsLackingText (cache : Cache) (root : Text) (most : ℕ) (text : List ℕ) : Type 0 where
  pub unread : List Text
  pub unlisted : List Text
  pub lacks_data : AreLacking cache root (lacks_data cache) unread
  pub lacks_names : AreLacking cache root (lacks_names cache) unlisted
  pub empty : ((unread ≡ []) × (unlisted ≡ [])) ↔ HasWalk cache root most
  pub front : List ℕ
  pub back : List ℕ
  pub is : text ≡ front ++ back
  pub of_data : AreReads Data unread front
  pub of_names : AreReads Child unlisted back
