-- How all nodes at and below a path are gone through.
use Rattle.std.specs.Prelude.{◌≡◌, Bool, ◌&&◌, List, [], ◌∷◌, ◌++◌, ⊤}
use Rattle.std.specs.List.{list_all}
use Rattle.zk_turns.specs.Meaning.{Among}
use Rattle.zk_turns.specs.View.{Cache}
use Rattle.zk_nodes.specs.Path.{Text, Name, path_of}
use Rattle.zk_cache.specs.Kept.{is_marked_good}
use Rattle.zk_conclusions.specs.Subtrees.{AreDistinct, AreReached, IsWholeBelow, is_full_good}

-- what is kept of each of the paths, with data and names, is good
abbrev pub all_full : Cache → List Text → Bool
all_full cache paths = list_all (λ path. is_full_good (cache.nodes path) && is_marked_good (cache.children path)) paths

-- one of these paths is the parent of this one
pub record HasParent (front : List Text) (path : Text) : Type 0 where
  pub above : Text
  pub among : Among above front
  pub name : Name
  pub names : path_of path ≡ name ∷ path_of above

-- Each of the paths has its parent among the first ones, or among the paths before it.
abbrev pub AreBehind : List Text → List Text → Type 0
AreBehind front [] = ⊤
AreBehind front (path ∷ paths) = HasParent front path × AreBehind (front ++ path ∷ []) paths

-- All that is reached from the root is kept whole, and these are its paths: each once, the root first, and each other one after its
-- parent.
pub record IsWalk (cache : Cache) (root : Text) (paths : List Text) : Type 0 where
  pub whole : IsWholeBelow cache root
  pub reached : AreReached cache root paths
  pub once : AreDistinct paths
  pub rest : List Text
  pub begins : paths ≡ root ∷ rest
  pub order : AreBehind (root ∷ []) rest
