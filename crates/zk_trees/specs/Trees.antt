-- Which nodes of trees are wanted, and which are let go.
use Rattle.std.specs.Prelude.{◌≡◌, ◌&&◌, ◌||◌, not, ℕ, Bool, true, false, bytes_eq, List, [], ◌++◌, map}
use Rattle.std.specs.List.{filter, list_any, FoldsTo}
use Rattle.zk_nodes.specs.Path.{Text}
use Rattle.zk_nodes.specs.declared.side.Side.{Side}
use Rattle.zk_nodes.specs.declared.side.Side.TheVariants.{Data, Child}
use Rattle.zk_turns.specs.View.{View}
use Rattle.zk_follow.specs.Following.{is_kept, says_none}
use Rattle.zk_conclusions.specs.Lacks.{lacks_data, lacks_names, AreLacking, HasNoMoreNodes, HasNoPath}
use Rattle.zk_conclusions.specs.Subtrees.{HasMoreNodes}
use Rattle.zk_trees.specs.declared.member.Member.{Member}
use Rattle.zk_trees.specs.declared.subject.NodeSide.{NodeSide}
use Rattle.zk_trees.specs.declared.wanting.Wanted.{Wanted}

-- ---- sides of paths

-- a side of a path
abbrev pub aim_of : {A : Type 0} → NodeSide A → Side × Text
aim_of subject = (subject.side, subject.path)

abbrev pub aims_of : {A : Type 0} → List (NodeSide A) → List (Side × Text)
aims_of subjects = map aim_of subjects

abbrev pub aims_at : Side → List Text → List (Side × Text)
aims_at side paths = map (λ path. (side, path)) paths

abbrev pub is_side : Side → Side → Bool
is_side Data Data = true
is_side Child Child = true
is_side side other = false

-- whether a side of a path is that of a member
abbrev pub is_member : {A N : Type 0} → Side × Text → List (Member A N) → Bool
is_member aim members = list_any (λ one. is_side one.subject.side aim.0 && bytes_eq one.subject.path aim.1) members

-- ---- what is let go

-- a node that was found below a root, and of which it is kept and good that there is none
abbrev pub is_gone : {A N : Type 0} → View → Member A N → Bool
is_gone view one = one.is_found && is_kept says_none (view.cache.nodes one.subject.path)

abbrev pub stays : {A N : Type 0} → View → Member A N → Bool
stays view one = not (is_gone view one)

abbrev pub tickets_gone : {A N : Type 0} → View → List (Member A N) → List ℕ
tickets_gone view members = map (λ one. one.ticket) (filter (is_gone view) members)

-- ---- what is wanted

-- the sides of paths that are wanted, and whether a tree has more nodes than the most
pub record Wants : Type 0 where
  pub aims : List (Side × Text)
  pub is_bounded : Bool

abbrev pub wants_of : {A : Type 0} → Wanted A → Wants
wants_of wanted = record { aims = aims_of wanted.subjects.items; is_bounded = wanted.is_bounded }

-- Of a tree of no more nodes than the most all is wanted that good names lead to from the root on, and that lacks something: the data of
-- these paths, and the names below those. Of one that has more, or a name that makes no path, nothing is.
pub data IsWanted (view : View) (most : ℕ) (root : Text) (old new : Wants) : Type 0 where
  all : (nodes names : List Text) → HasNoMoreNodes view.cache root most → AreLacking view.cache root (lacks_data view.cache) nodes
      → AreLacking view.cache root (lacks_names view.cache) names
      → new ≡ record old { aims = old.aims ++ (aims_at Data nodes ++ aims_at Child names) } → IsWanted view most root old new
  many : HasMoreNodes view.cache root most → new ≡ record old { is_bounded = true } → IsWanted view most root old new
  faulty : HasNoPath view.cache root → new ≡ old → IsWanted view most root old new

-- The same of each tree, one after the other.
abbrev pub AreWanted : View → (most : ℕ) → (roots : List Text) → Wants → Type 0
AreWanted view most roots wants =
    FoldsTo (λ old root new. IsWanted view most root old new) (record { aims = []; is_bounded = false }) roots wants

-- what is not taken on: what is a member already, and a node of which it is kept and good that there is none
abbrev pub is_settled : {A N : Type 0} → View → Side × Text → List (Member A N) → Bool
is_settled view aim members = is_member aim members || is_kept says_none (view.cache.nodes aim.1)
