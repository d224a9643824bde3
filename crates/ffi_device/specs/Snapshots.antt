-- What is kept of several paths at one moment, as bytes.
use Rattle.std.specs.Prelude.{◌≡◌, ◌++◌, ◌⊎◌, true, ℕ, zero, suc, ℤ, negsuc, List, [], ◌∷◌, Option, Some}
use Rattle.zk_jute.specs.Layout.{Layout, Value, ustring, buffer, long, int, ◌⨾◌}
use Rattle.zk_jute.specs.Spelling.{Fits, spelling}
use Rattle.zk_nodes.specs.Path.{Text}
use Rattle.zk_nodes.specs.History.{History}
use Rattle.zk_nodes.specs.declared.data_stat.DataStat.{DataStat}
use Rattle.zk_turns.specs.View.{View, Cache}
use Rattle.zk_conclusions.specs.Seen.{IsServedAt, tree_seen}
use Rattle.zk_conclusions.specs.Snapshots.{IsOfOneTree, IsOneOf, is_whole}
use Rattle.ffi_device.specs.Kept.{AreKeptNames, data_flat}
use Rattle.ffi_device.specs.Subtrees.{AreRecords, bytes_in, pzxid_in, stat_in}
use Rattle.ffi_device.specs.Texts.{AreNoTexts, ArePaths, SpellsNoPath, SpellsPaths}

-- A node: path, kind, data, czxid, mzxid, ctime, mtime, version, ephemeralOwner, dataLength. What follows the data is in the order of a
-- Stat.
abbrev pub shown_layout : Layout
shown_layout = ustring ⨾ (int ⨾ (buffer ⨾ (long ⨾ (long ⨾ (long ⨾ (long ⨾ (int ⨾ (long ⨾ int))))))))

-- its values
abbrev pub shown_value : Text → (kind : ℤ) → Option (List ℕ) → DataStat → Value shown_layout
shown_value path kind bytes stat = (
  Some path,
  (kind, (bytes, (stat.czxid, (stat.mzxid, (stat.ctime, (stat.mtime, (stat.version, (stat.ephemeral_owner, stat.data_length)))))))),
)

-- what is kept of the node at a path, with the number of its kind
abbrev pub shown_kept : Cache → Text → Value shown_layout
shown_kept cache path = shown_value path (data_flat (cache.nodes path)).kind (bytes_in (cache.nodes path)) (stat_in (cache.nodes path))

-- A parent: path, names, pzxid.
abbrev pub parent_layout : Layout
parent_layout = ustring ⨾ (buffer ⨾ long)

-- its values
abbrev pub parent_value : Text → (names : List ℕ) → (pzxid : ℤ) → Value parent_layout
parent_value path names pzxid = (Some path, (Some names, pzxid))

-- The names that are kept below a path, spelled as they are alone.
pub record IsParent (cache : Cache) (path : Text) (text : List ℕ) : Type 0 where
  pub names : List ℕ
  pub kept : AreKeptNames (cache.children path) names
  pub fits : Fits parent_layout (parent_value path names (pzxid_in (cache.children path)))
  pub is : text ≡ spelling parent_layout (parent_value path names (pzxid_in (cache.children path)))

-- The same of these paths, one after the other.
abbrev pub AreParents : Cache → List Text → List ℕ → Type 0
AreParents cache [] text = text ≡ []
AreParents cache (path ∷ paths) text =
    (front : List ℕ) × (back : List ℕ) × (text ≡ front ++ back) × IsParent cache path front × AreParents cache paths back

-- What is kept of the nodes of the first paths, and of the names below the second ones: all of it is good, and under servers of a history
-- all of it is what the history has at the last seen zxid.
pub record IsSnapshotOf (view : View) (paths above : List Text) (text : List ℕ) : Type 0 where
  pub whole : is_whole view.cache paths above ≡ true
  pub front : List ℕ
  pub back : List ℕ
  pub is : text ≡ front ++ back
  pub nodes : AreRecords shown_layout (shown_kept view.cache) paths front
  pub parents : AreParents view.cache above back
  pub holds : (h : History) → IsServedAt (IsOneOf paths above) h view → IsOfOneTree (tree_seen h view) view.cache paths above

-- the same of the paths that these bytes spell
pub record IsSnapshotText (view : View) (nodes parents : List ℕ) (text : List ℕ) : Type 0 where
  pub paths : List Text
  pub above : List Text
  pub first : ArePaths paths nodes
  pub second : ArePaths above parents
  pub snapshot : IsSnapshotOf view paths above text

-- These bytes spell paths of which not all is kept and good.
pub record SpellsNotWhole (cache : Cache) (nodes parents : List ℕ) : Type 0 where
  pub paths : List Text
  pub above : List Text
  pub first : ArePaths paths nodes
  pub second : ArePaths above parents
  pub lacking : ¬ (is_whole cache paths above ≡ true)

-- what is refused: -2 if both spell paths, -5 if one of the texts is no path, -9 where not all is kept and good, and -11 if one of
-- them spells no texts
abbrev pub RefusesSnapshot : Cache → (nodes parents : List ℕ) → ℤ → Type 0
RefusesSnapshot cache nodes parents (negsuc (suc zero)) = SpellsPaths nodes × SpellsPaths parents
RefusesSnapshot cache nodes parents (negsuc (suc (suc (suc (suc zero))))) = SpellsNoPath nodes ⊎ SpellsNoPath parents
RefusesSnapshot cache nodes parents (negsuc (suc (suc (suc (suc (suc (suc (suc (suc zero))))))))) = SpellsNotWhole cache nodes parents
RefusesSnapshot cache nodes parents (negsuc (suc (suc (suc (suc (suc (suc (suc (suc (suc (suc zero))))))))))) =
    AreNoTexts nodes ⊎ AreNoTexts parents
RefusesSnapshot cache nodes parents code = ⊥
