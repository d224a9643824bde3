-- What is still to be read before there is a subtree.
use Rattle.std.specs.Prelude.{ℕ, ◌≡◌, ◌≢◌, ◌≤◌, Bool, true, not, List, [], ◌∷◌, length, None, ⊤}
use Rattle.std.specs.FinSet as set
use Rattle.zk_turns.specs.Meaning.{Among}
use Rattle.zk_turns.specs.View.{Cache}
use Rattle.zk_nodes.specs.Path.{Text, Name}
use Rattle.zk_nodes.specs.PathFault.{child_fault}
use Rattle.zk_cache.specs.Kept.{Names, good, is_marked_good}
use Rattle.zk_conclusions.specs.Subtrees.{text_below, is_full_good, AreDistinct, IsWholeBelow, HasMoreNodes}
use Rattle.zk_conclusions.specs.Walks.{IsWalk, AreBehind}

-- the name is one of those that are kept and good below the path
pub record HasGoodName (cache : Cache) (path : Text) (name : Name) : Type 0 where
  pub names : Names
  pub there : cache.children path ≡ good names
  pub has : set.contains names.names name ≡ true

-- From the root on, each of these names is one of those that are kept and good below the path before it.
abbrev pub IsShown : Cache → Text → List Name → Type 0
IsShown cache root [] = ⊤
IsShown cache root (name ∷ below) = IsShown cache root below × HasGoodName cache (text_below root below) name

-- the path is one that good names lead to
pub record IsOneShown (cache : Cache) (root path : Text) : Type 0 where
  pub below : List Name
  pub shown : IsShown cache root below
  pub is : path ≡ text_below root below

-- no answer about the node, with its data, is kept and good; or no names below it are
abbrev pub lacks_data : Cache → Text → Bool
lacks_data cache path = not (is_full_good (cache.nodes path))

abbrev pub lacks_names : Cache → Text → Bool
lacks_names cache path = not (is_marked_good (cache.children path))

-- These are the paths that good names lead to and that lack something: all of them, and each once.
pub record AreLacking (cache : Cache) (root : Text) (lacks : Text → Bool) (paths : List Text) : Type 0 where
  pub once : AreDistinct paths
  pub each : (path : Text) → Among path paths → IsOneShown cache root path × (lacks path ≡ true)
  pub all : (below : List Name) → IsShown cache root below → lacks (text_below root below) ≡ true → Among (text_below root below) paths

-- a good name below the path makes no path
pub record HasFaultAt (cache : Cache) (path : Text) : Type 0 where
  pub name : Name
  pub has : HasGoodName cache path name
  pub fault : child_fault path name ≢ None

-- the same of one of the paths that good names lead to: no read makes it whole
pub record HasNoPath (cache : Cache) (root : Text) : Type 0 where
  pub below : List Name
  pub shown : IsShown cache root below
  pub fault : HasFaultAt cache (text_below root below)

-- All that is reached is kept whole, and these are at most that many nodes: there is a subtree.
pub record HasWalk (cache : Cache) (root : Text) (most : ℕ) : Type 0 where
  pub paths : List Text
  pub walk : IsWalk cache root paths
  pub fits : length paths ≤ most

-- These are all paths that good names lead to: each once, the root first, each other one after its parent, and each good name makes a
-- path.
pub record AreShown (cache : Cache) (root : Text) (paths : List Text) : Type 0 where
  pub each : (path : Text) → Among path paths → IsOneShown cache root path
  pub all : (below : List Name) → IsShown cache root below → Among (text_below root below) paths
  pub fine : (path : Text) (name : Name) → Among path paths → HasGoodName cache path name → child_fault path name ≡ None
  pub once : AreDistinct paths
  pub rest : List Text
  pub begins : paths ≡ root ∷ rest
  pub order : AreBehind (root ∷ []) rest

-- No more nodes than this number are reached by good names: these are all.
pub record HasNoMoreNodes (cache : Cache) (root : Text) (most : ℕ) : Type 0 where
  pub paths : List Text
  pub shown : AreShown cache root paths
  pub fits : length paths ≤ most

-- Where there is a subtree of no more nodes than that, neither refusal is true.
abbrev pub WalkIsTheOnlyAnswer : Type 0
WalkIsTheOnlyAnswer = (cache : Cache) (root : Text) (most : ℕ) → HasWalk cache root most
    → IsWholeBelow cache root × ¬ (HasMoreNodes cache root most)
