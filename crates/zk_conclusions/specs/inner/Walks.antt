-- What contracts of private functions say: nobody has to believe it.
use Rattle.std.specs.Prelude.{ℕ, ◌≡◌, ◌≤◌, ◌↔◌, ◌≢◌, None, true, List, [], ◌∷◌, ◌++◌, length, map}
use Rattle.std.specs.List.{AllByRecursion}
use Rattle.zk_turns.specs.Meaning.{Among}
use Rattle.zk_turns.specs.View.{Cache}
use Rattle.zk_nodes.specs.Path.{Text, Name, child_text}
use Rattle.zk_nodes.specs.PathFault.{child_fault}
use Rattle.zk_nodes.specs.Names.{Names as NameSet}
use Rattle.zk_cache.specs.Kept.{Names, good}
use Rattle.zk_conclusions.specs.Subtrees.{AreDistinct}
use Rattle.std.specs.FinSet as set

-- the name makes a path below this one
abbrev pub IsFine : Text → Name → Type 0
IsFine path name = child_fault path name ≡ None

-- The children of a path with the first of these names were made, and the others are left.
pub record Added (path : Text) (names rest : List Name) (children : List Text) : Type 0 where
  pub done : List Name
  pub whole : names ≡ done ++ rest
  pub fine : AllByRecursion (IsFine path) done
  pub made : children ≡ map (child_text path) done

-- the list has the names of the set, each once
pub record IsListed (names : NameSet) (listed : List Name) : Type 0 where
  pub among : (name : Name) → (set.contains names name ≡ true) ↔ Among name listed
  pub once : AreDistinct listed

-- one of the names makes no path
pub record HasFault (path : Text) (names : List Name) : Type 0 where
  pub name : Name
  pub among : Among name names
  pub fault : child_fault path name ≢ None

-- There are more names than there is room for, and one more than fit makes a path.
pub record HasMore (path : Text) (names : List Name) (room : ℕ) : Type 0 where
  pub name : Name
  pub rest : List Name
  pub children : List Text
  pub added : Added path names (name ∷ rest) children
  pub fine : IsFine path name
  pub more : room ≤ length children

-- The names below the path are kept and good, and these are the children that they make.
pub record HasChildren (cache : Cache) (path : Text) (children : List Text) : Type 0 where
  pub names : Names
  pub good : cache.children path ≡ good names
  pub listed : List Name
  pub listing : IsListed names.names listed
  pub added : Added path listed [] children

-- There are more children than there is room for.
pub record HasTooMany (cache : Cache) (path : Text) (room : ℕ) : Type 0 where
  pub names : Names
  pub good : cache.children path ≡ good names
  pub listed : List Name
  pub listing : IsListed names.names listed
  pub more : HasMore path listed room
