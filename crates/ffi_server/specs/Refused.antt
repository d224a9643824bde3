-- Why a server in memory does not do what it is asked.
use Rattle.std.specs.Prelude.{⊤, ◌⊎◌, ◌≡◌, ◌≤◌, ◌<◌, ◌+◌, ◌^◌, ℕ, suc, ℤ, pos, negsuc, List, [], ◌∷◌, length, Option, Some, None, IsSome}
use Rattle.std.specs.Str.{IsUtf8}
use Rattle.std.specs.FinSet as set
use Rattle.zk_nodes.specs.PathFault.{fault_of}
use Rattle.zk_nodes.specs.History.{Node, Tree, Change, Creates, Sets, Deletes, Transaction, newest, tree_at}
use Rattle.zk_nodes.specs.Names.{Names}
use Rattle.zk_history.specs.HistoryView.{HistoryView, HasChildren, history_of}
use Rattle.ffi_server.specs.Changes.{change_told, kind_told}
use Rattle.ffi_server.specs.declared.undone.Undone.{Undone}
use Rattle.ffi_server.specs.declared.undone.Undone.TheVariants.{Nothing, Memory, NotText, NotPath, NoSuchServer, NoSuchKind}
use Rattle.ffi_server.specs.declared.undone.Undone.TheVariants.{BadArguments, NoTransaction, NoNode}
use Rattle.ffi_server.specs.declared.undone.Undone.TheVariants.{NoChildrenForEphemerals, NodeExists, NotEmpty}

-- the tree after all transactions
abbrev pub tree_now : HistoryView → Tree
tree_now kept = tree_at (history_of kept) (newest 0 kept.transactions)

-- No node is there, or none below which one is to be made.
abbrev pub LacksNode : Tree → Change → Type 0
LacksNode tree (Creates [] content owner) = ⊥
LacksNode tree (Creates (name ∷ path) content owner) = tree path ≡ None
LacksNode tree (Sets path content) = tree path ≡ None
LacksNode tree (Deletes path) = tree path ≡ None

-- A node that is there has an owner.
abbrev pub IsOwned : Option Node → Type 0
IsOwned None = ⊥
IsOwned (Some node) = node.owner ≡ pos 0 → ⊥

-- The node below which one is to be made is ephemeral.
abbrev pub IsBelowEphemeral : Tree → Change → Type 0
IsBelowEphemeral tree (Creates (name ∷ path) content owner) = IsOwned (tree path)
IsBelowEphemeral tree change = ⊥

-- A node is there already.
abbrev pub HasNode : Tree → Change → Type 0
HasNode tree (Creates path content owner) = IsSome (tree path)
HasNode tree change = ⊥

-- The node has children.
abbrev pub HasChild : Tree → Change → Type 0
HasChild tree (Deletes path) = (names : Names) → HasChildren tree path names → 0 < set.len names
HasChild tree change = ⊥

-- A node that is there has a version that can't rise.
abbrev pub IsAtEnd : Option Node → Type 0
IsAtEnd None = ⊥
IsAtEnd (Some node) = node.version ≡ 2147483647

-- The root is neither made nor deleted, and a version is not at its end.
abbrev pub IsForbidden : Tree → Change → Type 0
IsForbidden tree (Creates path content owner) = path ≡ []
IsForbidden tree (Sets path content) = IsAtEnd (tree path)
IsForbidden tree (Deletes path) = path ≡ []

-- A tree admits a change: nothing of this refuses it.
pub record Admits (tree : Tree) (change : Change) : Type 0 where
  pub allowed : IsForbidden tree change → ⊥
  pub found : LacksNode tree change → ⊥
  pub above : IsBelowEphemeral tree change → ⊥
  pub free : HasNode tree change → ⊥
  pub childless : HasChild tree change → ⊥

-- Why a tree does not admit a change, or that memory ran out.
abbrev pub RefusesAt : Tree → Change → Undone → Type 0
RefusesAt tree change Memory = ⊤
RefusesAt tree change BadArguments = IsForbidden tree change
RefusesAt tree change NoNode = LacksNode tree change
RefusesAt tree change NoChildrenForEphemerals = IsBelowEphemeral tree change
RefusesAt tree change NodeExists = HasNode tree change
RefusesAt tree change NotEmpty = HasChild tree change
RefusesAt tree change why = ⊥

-- The same of a change that the history may have, if there is one.
abbrev pub RefusesOf : Tree → Option Change → Undone → Type 0
RefusesOf tree None why = ⊥
RefusesOf tree (Some change) why = RefusesAt tree change why

-- a zxid or a time would be past 2^63 - 1
abbrev pub IsPast : (now : ℕ) → HistoryView → Type 0
IsPast now kept = (2 ^ 63 ≤ now) ⊎ (2 ^ 63 ≤ newest 0 kept.transactions + 1)

-- A change can be the next transaction: it is past no zxid and no time, and the tree admits it.
pub record IsNext (now : ℕ) (change : Change) (kept : HistoryView) : Type 0 where
  pub timely : IsPast now kept → ⊥
  pub admitted : Admits (tree_now kept) change

-- Why a change of a kind is not made: its number is none of a kind, or its bytes are no path, or it is not appended.
abbrev pub RefusesChange : (now : ℕ) (kind owner : ℤ) (path content : List ℕ) → HistoryView → Undone → Type 0
RefusesChange now kind owner path content kept NoSuchKind = kind_told kind ≡ None
RefusesChange now kind owner path content kept NotText = IsUtf8 path → ⊥
RefusesChange now kind owner path content kept NotPath = IsSome (fault_of path)
RefusesChange now kind owner path content kept NoTransaction = IsPast now kept
RefusesChange now kind owner path content kept why = RefusesOf (tree_now kept) (change_told kind owner path content) why

-- a time below 0, or a zxid or a time past 2^63 - 1
abbrev pub IsUntimely : (time : ℤ) → HistoryView → Type 0
IsUntimely (pos now) kept = IsPast now kept
IsUntimely (negsuc n) kept = ⊤

-- the change of a transaction that has one alone
abbrev pub only_change : List Change → Option Change
only_change (change ∷ []) = Some change
only_change changes = None

-- Why the next transaction of another server is not learned: there is none; or it has not one change, or a time or a zxid that
-- none can have; or the tree does not admit its change.
abbrev pub RefusesNext : Option Transaction → HistoryView → Undone → Type 0
RefusesNext None kept Nothing = ⊤
RefusesNext None kept why = ⊥
RefusesNext (Some one) kept NoTransaction = (length one.changes ≡ 1 → ⊥) ⊎ IsUntimely one.time kept
RefusesNext (Some one) kept why = RefusesOf (tree_now kept) (only_change one.changes) why

-- no server has this number
abbrev pub RefusesServer : (number : ℤ) → Undone → Type 0
RefusesServer (pos (suc n)) NoSuchServer = 8 ≤ n
RefusesServer number NoSuchServer = ⊤
RefusesServer number why = ⊥
