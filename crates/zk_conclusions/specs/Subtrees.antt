-- What a client shows of all nodes at and below a path, and what that says of one tree.
use Rattle.std.specs.Prelude.{ℕ, ◌≡◌, ◌↔◌, ◌<◌, Bool, true, false, Some, List, [], ◌∷◌, ◌++◌, length, Option, None, is_some, ⊤}
use Rattle.std.specs.FinSet as set
use Rattle.zk_turns.specs.Meaning.{Among}
use Rattle.zk_turns.specs.View.{View, Cache}
use Rattle.zk_nodes.specs.Path.{Text, Name, path_of, child_text}
use Rattle.zk_nodes.specs.PathFault.{IsPath, child_fault}
use Rattle.zk_nodes.specs.History.{Tree, History, view as to_see}
use Rattle.zk_nodes.specs.declared.side.Side.TheVariants.{Data, Child}
use Rattle.zk_nodes.specs.declared.data_stat.DataStat.{DataStat}
use Rattle.zk_cache.specs.declared.held.Kept.{Kept}
use Rattle.zk_cache.specs.Kept.{Answer, Absent, Known, Full, Names, good, is_good}
use Rattle.zk_laws.specs.Server.{Fits, FitsNames}
use Rattle.zk_conclusions.specs.declared.no_subtree.NoSubtree.{NoSubtree}
use Rattle.zk_conclusions.specs.declared.no_subtree.NoSubtree.TheVariants.{NotWhole, TooMany, Memory}
use Rattle.zk_conclusions.specs.Seen.{IsServedAt, tree_seen}

-- The node of the path is kept with its data, and these are the names that are kept below it. Both are good.
pub record IsFull (cache : Cache) (path : Text) (names : Names) : Type 0 where
  pub bytes : Option (List ℕ)
  pub stat : DataStat
  pub node : cache.nodes path ≡ good (Full bytes stat)
  pub children : cache.children path ≡ good names

-- The same, and each of the names makes a path.
pub record IsKeptWhole (cache : Cache) (path : Text) : Type 0 where
  pub names : Names
  pub full : IsFull cache path names
  pub paths : (name : Name) → set.contains names.names name ≡ true → child_fault path name ≡ None

-- the name is one of those that are kept below the path
pub record HasName (cache : Cache) (path : Text) (name : Name) : Type 0 where
  pub kept : Kept Names
  pub there : cache.children path ≡ Some kept
  pub has : set.contains kept.answer.names name ≡ true

-- whether an answer about a node, with its data, is kept and good
abbrev pub is_full_good : Option (Kept Answer) → Bool
is_full_good None = false
is_full_good (Some kept) = elim kept.answer [ Absent ↦ false | Known stat ↦ false | Full bytes stat ↦ is_good kept.mark ]

-- a path below the root: that of the root, or the child's with the last of these names, which stands first
abbrev pub text_below : Text → List Name → Text
text_below root [] = root
text_below root (name ∷ below) = child_text (text_below root below) name

-- From the root on, each of these names is one of those that are kept below the path before it.
abbrev pub IsReached : Cache → Text → List Name → Type 0
IsReached cache root [] = ⊤
IsReached cache root (name ∷ below) = IsReached cache root below × HasName cache (text_below root below) name

-- Each node that is reached through kept names is kept whole.
abbrev pub IsWholeBelow : Cache → Text → Type 0
IsWholeBelow cache root = (below : List Name) → IsReached cache root below → IsKeptWhole cache (text_below root below)

-- the path is one that is reached
pub record IsOneReached (cache : Cache) (root path : Text) : Type 0 where
  pub below : List Name
  pub reached : IsReached cache root below
  pub is : path ≡ text_below root below

-- The paths are all that are reached, and no others.
pub record AreReached (cache : Cache) (root : Text) (paths : List Text) : Type 0 where
  pub each : (path : Text) → Among path paths → IsOneReached cache root path
  pub all : (below : List Name) → IsReached cache root below → Among (text_below root below) paths

-- no two of the texts are the same
abbrev pub AreDistinct : List Text → Type 0
AreDistinct [] = ⊤
AreDistinct (text ∷ texts) = ¬ (Among text texts) × AreDistinct texts

-- More nodes than this number are reached.
pub record HasMoreNodes (cache : Cache) (root : Text) (most : ℕ) : Type 0 where
  pub paths : List Text
  pub once : AreDistinct paths
  pub each : (path : Text) → Among path paths → IsOneReached cache root path
  pub more : most < length paths

-- What a refusal says: of what is not whole, what is lacking; of too many nodes, that there are; and where memory ran out nothing.
abbrev pub Says : NoSubtree → Type 0 → Type 0 → Type 0
Says NotWhole lacking many = lacking
Says TooMany lacking many = many
Says Memory lacking many = ⊤

-- What is kept of the node of the path, with its data and the names below it, is what there is to see in the tree.
pub record IsTrueAt (tree : Tree) (cache : Cache) (path : Text) : Type 0 where
  pub names : Names
  pub full : IsFull cache path names
  pub node : Fits (Full full.bytes full.stat) (to_see Data tree (path_of path))
  pub children : FitsNames names (to_see Child tree (path_of path))

-- What is reached from the root is the tree's, at and below it: all that is reached is there, as it is kept (sound), and all that is
-- there is reached (complete).
pub record IsSubtreeOf (tree : Tree) (cache : Cache) (root : Text) : Type 0 where
  pub sound : (below : List Name)
      → IsReached cache root below → (path_of (text_below root below) ≡ below ++ path_of root) × IsTrueAt tree cache (text_below root below)
  pub complete : (below : List Name) → is_some (tree (below ++ path_of root)) ≡ true → IsReached cache root below

-- Where each node that is reached is kept whole, these are the nodes of the history's tree at the last seen zxid, if servers keep to the
-- model at the paths that are reached.
abbrev pub WholeIsSubtree : Type 0
WholeIsSubtree = (h : History) (view : View) (root : Text) → IsServedAt (IsOneReached view.cache root) h view → IsPath root
    → IsWholeBelow view.cache root → IsSubtreeOf (tree_seen h view) view.cache root

-- A path at or below the root is one of these exactly where a node is there.
abbrev pub AreAllBelow : Tree → Text → List Text → Type 0
AreAllBelow tree root paths = (path : Text) (below : List Name) → IsPath path → path_of path ≡ below ++ path_of root
    → Among path paths ↔ (is_some (tree (path_of path)) ≡ true)

-- Where all that is reached is kept whole, its paths are those of the tree's nodes at and below the root.
abbrev pub PathsAreAll : Type 0
PathsAreAll = (h : History) (view : View) (root : Text) (paths : List Text) → IsServedAt (IsOneReached view.cache root) h view
    → IsPath root
    → IsWholeBelow view.cache root → AreReached view.cache root paths
    → AreAllBelow (tree_seen h view) root paths
