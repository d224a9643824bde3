-- The test that decides whether a change is accepted.
use Rattle.std.specs.Prelude.{ℕ, ◌==◌, Bool, false, ◌&&◌, not, nat_le, nat_lt, [], ◌∷◌, Option, Some, None, is_some}
use Rattle.zk_nodes.specs.Path.{NodePath}
use Rattle.zk_nodes.specs.History.{Node, Tree, Change, Creates, Sets, Deletes, size_of}

-- the version of a node that is there can rise once more
abbrev pub can_rise : Option Node → Bool
can_rise None = false
can_rise (Some held) = nat_lt held.version 2147483647

-- the change is accepted, where each path has as many children as count says
abbrev pub accepts : Tree → (NodePath → ℕ) → Change → Bool
accepts tree count (Creates [] content owner) = false
accepts tree count (Creates (name ∷ path) content owner) =
    nat_le (size_of content) 2147483647 && (not (is_some (tree (name ∷ path))) && (is_some (tree path) && nat_lt (count path) 2147483647))
accepts tree count (Sets path content) = nat_le (size_of content) 2147483647 && can_rise (tree path)
accepts tree count (Deletes []) = false
accepts tree count (Deletes (name ∷ path)) = is_some (tree (name ∷ path)) && (count (name ∷ path) == 0)
