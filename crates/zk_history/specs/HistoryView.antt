-- What a history keeps: the nodes of its first tree, and its transactions.
use Rattle.std.specs.Prelude.{ℕ, ℤ, pos, negsuc, ◌++◌, ◌≡◌, ◌<◌, ◌≤◌, Bool, true, false, if◌then◌else◌, List, [], ◌∷◌, Option, Some, None}
use Rattle.std.specs.Prelude.{⊤, ◌&&◌, ◌==◌, is_some}
use Rattle.std.specs.List.{list_all}
use Rattle.std.specs.FinSet as set
use Rattle.zk_nodes.specs.Path.{Name, NodePath, path_eq}
use Rattle.zk_nodes.specs.History.{Tree, Change, Creates, Sets, Deletes, Transaction, History, IsLegal, made, apply, apply_all, after}
use Rattle.zk_nodes.specs.History.{size_of, AreRising}
use Rattle.zk_nodes.specs.Names.{Names}

-- the tree before any node was given: the root with empty data, all other fields 0
abbrev pub root_tree : Tree
root_tree = λ p. if path_eq p [] then Some (made 0 (pos 0) (Some []) (pos 0)) else None

-- the nodes of the first tree, each as the creation that makes it at zxid 0, and the transactions
pub record HistoryView : Type 0 where
  pub nodes : List Transaction
  pub transactions : List Transaction

-- The history that is kept.
abbrev pub history_of : HistoryView → History
history_of kept = record { first = after kept.nodes root_tree; transactions = kept.transactions }

-- the root alone, and no transaction
abbrev pub empty_kept : HistoryView
empty_kept = record { nodes = []; transactions = [] }

-- the first tree
abbrev pub first_tree : HistoryView → Tree
first_tree kept = after kept.nodes root_tree

-- the tree after all transactions
abbrev pub newest_tree : HistoryView → Tree
newest_tree kept = after kept.transactions (first_tree kept)

-- these are the names of a path's children
abbrev pub HasChildren : Tree → NodePath → Names → Type 0
HasChildren tree path names = (name : Name) → set.contains names name ≡ is_some (tree (name ∷ path))

-- one child more can still be told by a Stat
abbrev pub HasRoom : Tree → NodePath → Type 0
HasRoom tree path = (names : Names) → HasChildren tree path names → set.len names < 2147483647

-- A Stat can tell the length of the data and the number of children.
abbrev pub CanBeTold : Change → Tree → Type 0
CanBeTold (Creates [] content owner) tree = ⊤
CanBeTold (Creates (name ∷ path) content owner) tree = (size_of content ≤ 2147483647) × HasRoom tree path
CanBeTold (Sets path content) tree = size_of content ≤ 2147483647
CanBeTold (Deletes path) tree = ⊤

-- A change that a history takes.
abbrev pub IsAccepted : Change → Tree → Type 0
IsAccepted change tree = IsLegal change tree × CanBeTold change tree

-- each change is one that a history takes after those before it
abbrev pub AreAccepted : ℕ → ℤ → List Change → Tree → Type 0
AreAccepted zxid time [] tree = ⊤
AreAccepted zxid time (change ∷ changes) tree = IsAccepted change tree × AreAccepted zxid time changes (apply zxid time change tree)

-- so are those of each transaction
abbrev pub AllAccepted : List Transaction → Tree → Type 0
AllAccepted [] tree = ⊤
AllAccepted (one ∷ more) tree =
    AreAccepted one.zxid one.time one.changes tree × AllAccepted more (apply_all one.zxid one.time one.changes tree)

-- one creation
abbrev pub is_creation : List Change → Bool
is_creation (Creates path content owner ∷ []) = true
is_creation changes = false

-- one creation at zxid 0
abbrev pub is_first : Transaction → Bool
is_first one = (one.zxid == 0) && is_creation one.changes

-- What is kept is a history.
pub record IsSound (kept : HistoryView) : Type 0 where
  pub first : list_all is_first kept.nodes ≡ true
  pub nodes : AllAccepted kept.nodes root_tree
  pub rising : AreRising 0 kept.transactions
  pub changes : AllAccepted kept.transactions (first_tree kept)

-- a transaction of these changes
abbrev pub made_transaction : ℕ → ℤ → List Change → Transaction
made_transaction zxid time changes = record { zxid = zxid; time = time; changes = changes }

-- a node of the first tree, as the creation that makes it
abbrev pub first_node : NodePath → Option (List ℕ) → ℤ → Transaction
first_node path content time = made_transaction 0 time (Creates path content (pos 0) ∷ [])

-- one change more in a transaction
abbrev pub with_one : Transaction → Change → Transaction
with_one one change = record { zxid = one.zxid; time = one.time; changes = one.changes ++ change ∷ [] }

-- one change more in the last transaction
abbrev pub last_with : List Transaction → Change → List Transaction
last_with [] change = []
last_with (one ∷ []) change = with_one one change ∷ []
last_with (one ∷ two ∷ more) change = one ∷ last_with (two ∷ more) change

-- one change more, in the last transaction
abbrev pub with_change : HistoryView → Change → HistoryView
with_change kept change = record { nodes = kept.nodes; transactions = last_with kept.transactions change }

-- one transaction more, with no change yet
abbrev pub with_transaction : HistoryView → ℕ → ℤ → HistoryView
with_transaction kept zxid time = record { nodes = kept.nodes; transactions = kept.transactions ++ made_transaction zxid time [] ∷ [] }

-- a node of the first tree more
abbrev pub with_node : HistoryView → NodePath → Option (List ℕ) → ℤ → HistoryView
with_node kept path content time = record { nodes = kept.nodes ++ first_node path content time ∷ []; transactions = kept.transactions }

-- an integer as a natural number, 0 for one below 0: below zxid 1 nothing has happened
abbrev pub natural : ℤ → ℕ
natural (pos n) = n
natural (negsuc n) = 0
