-- What contracts of private functions say: nobody has to believe it.
use Rattle.std.specs.Prelude.{ℕ, ℤ, ◌≡◌, ◌<◌, ◌≤◌, nat_le, true, if◌then◌else◌, List, [], ◌∷◌, Option, Some, None, ⊤, option_map}
use Rattle.zk_nodes.specs.Path.{NodePath, path_eq}
use Rattle.zk_nodes.specs.History.{Node, Change, Creates, Sets, Deletes, Transaction, made, written, regrouped, size_of}
use Rattle.zk_history.specs.Replay.{count_after, count_after_all}

-- the node at path p after a change
abbrev pub node_after : ℕ → ℤ → NodePath → Change → Option Node → Option Node
node_after zxid time p (Creates [] content owner) held = held
node_after zxid time p (Creates (name ∷ path) content owner) held =
    if path_eq p (name ∷ path) then Some (made zxid time content owner)
    else (if path_eq p path then option_map (regrouped zxid) held else held)
node_after zxid time p (Sets path content) held = if path_eq p path then option_map (written zxid time content) held else held
node_after zxid time p (Deletes []) held = held
node_after zxid time p (Deletes (name ∷ path)) held =
    if path_eq p (name ∷ path) then None else (if path_eq p path then option_map (regrouped zxid) held else held)

-- the same after changes
abbrev pub node_after_all : ℕ → ℤ → NodePath → List Change → Option Node → Option Node
node_after_all zxid time p [] held = held
node_after_all zxid time p (change ∷ changes) held = node_after_all zxid time p changes (node_after zxid time p change held)

-- the node at path p after the transactions up to a zxid
abbrev pub node_at : ℕ → NodePath → List Transaction → Option Node → Option Node
node_at z p [] held = held
node_at z p (one ∷ more) held = node_at z p more (if nat_le one.zxid z then node_after_all one.zxid one.time p one.changes held else held)

-- the data of a change can be told by a Stat, and the version of what it sets at path p can still rise
abbrev pub CanRise : NodePath → Change → Option Node → Type 0
CanRise p (Creates path content owner) held = size_of content ≤ 2147483647
CanRise p (Sets path content) held =
    (size_of content ≤ 2147483647) × (path_eq p path ≡ true → (n : Node) → held ≡ Some n → n.version < 2147483647)
CanRise p (Deletes path) held = ⊤

-- so it is for each change
abbrev pub CanRiseAll : ℕ → ℤ → NodePath → List Change → Option Node → Type 0
CanRiseAll zxid time p [] held = ⊤
CanRiseAll zxid time p (change ∷ changes) held = CanRise p change held × CanRiseAll zxid time p changes (node_after zxid time p change held)

-- so it is for each transaction up to a zxid
abbrev pub CanRiseAt : ℕ → NodePath → List Transaction → Option Node → Type 0
CanRiseAt z p [] held = ⊤
CanRiseAt z p (one ∷ more) held =
    (nat_le one.zxid z ≡ true → CanRiseAll one.zxid one.time p one.changes held)
    × CanRiseAt z p more (if nat_le one.zxid z then node_after_all one.zxid one.time p one.changes held else held)

-- the number of children stays one that a Stat can tell
abbrev pub IsCounted : NodePath → List Change → ℕ → Type 0
IsCounted p [] n = n ≤ 2147483647
IsCounted p (change ∷ changes) n = (n ≤ 2147483647) × IsCounted p changes (count_after p change n)

-- so it does for each transaction up to a zxid
abbrev pub IsCountedAt : ℕ → NodePath → List Transaction → ℕ → Type 0
IsCountedAt z p [] n = n ≤ 2147483647
IsCountedAt z p (one ∷ more) n = (nat_le one.zxid z ≡ true → IsCounted p one.changes n)
    × IsCountedAt z p more (if nat_le one.zxid z then count_after_all p one.changes n else n)
