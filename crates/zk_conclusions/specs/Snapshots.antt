-- What a client shows of some paths at once, and what that says of one tree.
use Rattle.std.specs.Prelude.{◌≡◌, ◌⊎◌, Bool, true, ◌&&◌, List, Option}
use Rattle.std.specs.List.{list_all}
use Rattle.zk_turns.specs.Meaning.{Among}
use Rattle.zk_nodes.specs.Path.{Text, path_of}
use Rattle.zk_nodes.specs.History.{Tree, History, view as to_see}
use Rattle.zk_nodes.specs.declared.side.Side.TheVariants.{Data, Child}
use Rattle.zk_cache.specs.declared.held.Kept.{Kept}
use Rattle.zk_cache.specs.Kept.{Answer, Names, good, is_marked_good}
use Rattle.zk_turns.specs.View.{View, Cache}
use Rattle.zk_laws.specs.Server.{Fits, FitsNames}
use Rattle.zk_conclusions.specs.Seen.{IsServedAt, tree_seen}

-- an answer of each of these paths is kept and good
abbrev pub all_good : {A : Type 0} → (Text → Option (Kept A)) → List Text → Bool
all_good kept paths = list_all (λ path. is_marked_good (kept path)) paths

-- Each path of the first list has a good answer about its node, and each of the second one about the names below it.
abbrev pub is_whole : Cache → List Text → List Text → Bool
is_whole cache nodes parents = all_good cache.nodes nodes && all_good cache.children parents

-- the path is one of these or of those
abbrev pub IsOneOf : List Text → List Text → Text → Type 0
IsOneOf nodes parents path = Among path nodes ⊎ Among path parents

-- An answer about the node of a path is kept and good, and it is what there is to see in the tree.
abbrev pub HasData : Tree → Cache → Text → Type 0
HasData tree cache path = (answer : Answer) × (cache.nodes path ≡ good answer) × Fits answer (to_see Data tree (path_of path))

-- The same of the names below it.
abbrev pub HasNames : Tree → Cache → Text → Type 0
HasNames tree cache path = (names : Names) × (cache.children path ≡ good names) × FitsNames names (to_see Child tree (path_of path))

-- All that is shown of these paths is of this one tree.
pub record IsOfOneTree (tree : Tree) (cache : Cache) (nodes parents : List Text) : Type 0 where
  pub seen : (path : Text) → Among path nodes → HasData tree cache path
  pub listed : (path : Text) → Among path parents → HasNames tree cache path

-- Where each of these paths has a good answer, all are those of the history's tree at the last seen zxid, if servers keep to the model
-- at these paths.
abbrev pub WholeIsOfOneTree : Type 0
WholeIsOfOneTree = (h : History) (view : View) (nodes parents : List Text) → IsServedAt (IsOneOf nodes parents) h view
    → is_whole view.cache nodes parents ≡ true → IsOfOneTree (tree_seen h view) view.cache nodes parents
