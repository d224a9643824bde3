-- The nodes that a session made under one tag, where answers to its creates were lost.
use Rattle.std.specs.Prelude.{ℕ, ℤ, ◌≡◌, ◌≤◌, nat_eq, Bool, true, ◌∷◌, List, Some}
use Rattle.std.specs.List.{starts_with}
use Rattle.zk_turns.specs.Meaning.{Among}
use Rattle.zk_nodes.specs.Path.{Name, NodePath}
use Rattle.zk_nodes.specs.History.{Node, History, IsHistory, tree_at}
use Rattle.zk_conclusions.specs.Standings.{IsFirstAmong, ListsAll}

-- the name begins with the tag
abbrev pub has_tag : Name → Name → Bool
has_tag tag name = starts_with nat_eq name tag

-- Of these names that begin with the tag this is one, and none is before it.
pub record IsLeastOf (names : List Name) (tag least : Name) : Type 0 where
  pub among : Among least names
  pub tagged : has_tag tag least ≡ true
  pub first : IsFirstAmong (has_tag tag) names least

-- Each node below dir whose name begins with the tag, and whose owner is this session, was made at this zxid or before it. So it is at
-- the zxid of the answer to the session's last create with the tag: servers take the requests of a session in the order in which it
-- sent them, also where these went over several connections.
abbrev pub AreMadeBy : History → NodePath → Name → ℤ → ℕ → Type 0
AreMadeBy h dir tag session answered =
    (zxid : ℕ) (name : Name) (node : Node) → tree_at h zxid (name ∷ dir) ≡ Some node → has_tag tag name ≡ true
    → node.owner ≡ session → node.czxid ≤ answered

-- Then a listing at this zxid, or at a later one, has each of these nodes that is still there at its own zxid or later.
abbrev pub LostAreListed : Type 0
LostAreListed = (h : History) (dir : NodePath) (tag : Name) (session : ℤ) (answered listed seen : ℕ) (names : List Name)
    → IsHistory h → AreMadeBy h dir tag session answered → ListsAll (tree_at h listed) dir names → answered ≤ listed → listed ≤ seen
    → (name : Name) (node : Node) → tree_at h seen (name ∷ dir) ≡ Some node → has_tag tag name ≡ true
    → node.owner ≡ session → Among name names
