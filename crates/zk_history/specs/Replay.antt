-- What a history makes of one path: its node, and the set of its children's names, change by change.
use Rattle.std.specs.Prelude.{ℕ, ◌+◌, ◌-◌, nat_le, if◌then◌else◌, List, [], ◌∷◌}
use Rattle.std.specs.FinSet as set
use Rattle.zk_nodes.specs.Path.{Name, NodePath, path_eq}
use Rattle.zk_nodes.specs.Names.{Names}
use Rattle.zk_nodes.specs.History.{Change, Creates, Sets, Deletes, Transaction}

-- the names of the children of path p after a change
abbrev pub children_after : NodePath → Change → Names → Names
children_after p (Creates [] content owner) names = names
children_after p (Creates (name ∷ path) content owner) names = if path_eq p path then set.insert names name else names
children_after p (Sets path content) names = names
children_after p (Deletes []) names = names
children_after p (Deletes (name ∷ path)) names = if path_eq p path then set.remove names name else names

-- the same after changes
abbrev pub children_after_all : NodePath → List Change → Names → Names
children_after_all p [] names = names
children_after_all p (change ∷ changes) names = children_after_all p changes (children_after p change names)

-- the same after the transactions up to a zxid
abbrev pub children_at : ℕ → NodePath → List Transaction → Names → Names
children_at z p [] names = names
children_at z p (one ∷ more) names = children_at z p more (if nat_le one.zxid z then children_after_all p one.changes names else names)

-- how many children path p has after a change, where what is made was absent and what is deleted was there
abbrev pub count_after : NodePath → Change → ℕ → ℕ
count_after p (Creates [] content owner) n = n
count_after p (Creates (name ∷ path) content owner) n = if path_eq p path then n + 1 else n
count_after p (Sets path content) n = n
count_after p (Deletes []) n = n
count_after p (Deletes (name ∷ path)) n = if path_eq p path then n - 1 else n

-- the same after changes
abbrev pub count_after_all : NodePath → List Change → ℕ → ℕ
count_after_all p [] n = n
count_after_all p (change ∷ changes) n = count_after_all p changes (count_after p change n)

-- the same after the transactions up to a zxid
abbrev pub count_at : ℕ → NodePath → List Transaction → ℕ → ℕ
count_at z p [] n = n
count_at z p (one ∷ more) n = count_at z p more (if nat_le one.zxid z then count_after_all p one.changes n else n)
