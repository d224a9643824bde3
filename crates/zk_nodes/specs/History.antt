-- The data model: nodes and trees, and the history of transactions of which each server holds a beginning.
-- The sections named are those of the ZooKeeper Programmer's Guide.
use Rattle.std.specs.Prelude.{ℕ, ℤ, pos, ◌≡◌, ◌<◌, ◌+◌, ◌^◌, nat_le, Bool, if◌then◌else◌, List, [], ◌∷◌, length}
use Rattle.std.specs.Prelude.{filter, Option, Some, None, is_some, option_map, IsTrue, ⊤}
use Rattle.zk_nodes.specs.Path.{Name, NodePath, path_eq}
use Rattle.zk_nodes.specs.declared.data_stat.DataStat.{DataStat}
use Rattle.zk_nodes.specs.declared.side.Side.{Side}
use Rattle.zk_nodes.specs.declared.side.Side.TheVariants.{Data, Child}

-- A node: its data, null or bytes, the zxids of its creation, of its last write and of the last change of its children,
-- the times of its creation and of its last write, the number of its writes, and the session that owns it, or 0
-- ("ZooKeeper Stat Structure").
pub record Node : Type 0 where
  pub content : Option (List ℕ)
  pub czxid : ℕ
  pub mzxid : ℕ
  pub pzxid : ℕ
  pub ctime : ℤ
  pub mtime : ℤ
  pub version : ℕ
  pub owner : ℤ

-- A tree has a node, or none, at each path ("The ZooKeeper Data Model").
abbrev pub Tree : Type 0
Tree = NodePath → Option Node

-- A change of the tree, as one write of a client or one part of a multi makes it: a node is made, with its data and its
-- owner, its data are written, or it is deleted ("Data Access": a write replaces all the data of a node).
pub data Change : Type 0 where
  Creates : NodePath → Option (List ℕ) → ℤ → Change
  Sets : NodePath → Option (List ℕ) → Change
  Deletes : NodePath → Change

-- A transaction makes its changes under one zxid, at one time ("Time in ZooKeeper").
pub record Transaction : Type 0 where
  pub zxid : ℕ
  pub time : ℤ
  pub changes : List Change

-- What a transaction may do: a node is made where there is none, below one that is there; a node that is there is
-- written, while its version can still rise; a node without children is deleted, and never the root ("ZNodes").
abbrev pub IsLegal : Change → Tree → Type 0
IsLegal (Creates (name ∷ path) content owner) tree = (tree (name ∷ path) ≡ None) × IsTrue (is_some (tree path))
IsLegal (Sets path content) tree = (node : Node) × (tree path ≡ Some node) × (node.version < 2147483647)
IsLegal (Deletes (name ∷ path)) tree = IsTrue (is_some (tree (name ∷ path))) × ((child : Name) → tree (child ∷ name ∷ path) ≡ None)
IsLegal _ tree = ⊥

-- a new node: its three zxids are the transaction's, its times too, its version is 0 ("ZooKeeper Stat Structure")
abbrev pub made : ℕ → ℤ → Option (List ℕ) → ℤ → Node
made zxid time content owner =
    record { content = content; czxid = zxid; mzxid = zxid; pzxid = zxid; ctime = time; mtime = time; version = 0; owner = owner }

-- a write of the data: it moves mzxid and mtime, and raises the version by one ("ZooKeeper Stat Structure")
abbrev pub written : ℕ → ℤ → Option (List ℕ) → Node → Node
written zxid time content node = record node { content = content; mzxid = zxid; mtime = time; version = node.version + 1 }

-- a change of the set of children: it moves pzxid alone ("ZooKeeper Stat Structure")
abbrev pub regrouped : ℕ → Node → Node
regrouped zxid node = record node { pzxid = zxid }

-- The tree after a change: the node of its path is made, written or gone, a creation or a deletion changes the set of
-- the parent's children too, and all other nodes stay ("ZooKeeper Stat Structure").
abbrev pub apply : ℕ → ℤ → Change → Tree → Tree
apply zxid time (Creates (name ∷ path) content owner) tree =
    λ p. if path_eq p (name ∷ path) then Some (made zxid time content owner)
    else (if path_eq p path then option_map (regrouped zxid) (tree p) else tree p)
apply zxid time (Sets path content) tree = λ p. if path_eq p path then option_map (written zxid time content) (tree p) else tree p
apply zxid time (Deletes (name ∷ path)) tree =
    λ p. if path_eq p (name ∷ path) then None else (if path_eq p path then option_map (regrouped zxid) (tree p) else tree p)
apply zxid time _ tree = tree

-- the tree after these changes, in order ("Time in ZooKeeper": a transaction has one zxid)
abbrev pub apply_all : ℕ → ℤ → List Change → Tree → Tree
apply_all zxid time [] tree = tree
apply_all zxid time (change ∷ changes) tree = apply_all zxid time changes (apply zxid time change tree)

-- each change is legal after those before it ("Consistency Guarantees": an update succeeds or fails whole)
abbrev pub AreLegal : ℕ → ℤ → List Change → Tree → Type 0
AreLegal zxid time [] tree = ⊤
AreLegal zxid time (change ∷ changes) tree = IsLegal change tree × AreLegal zxid time changes (apply zxid time change tree)

-- the tree after these transactions, in order ("Consistency Guarantees": updates are applied in order)
abbrev pub after : List Transaction → Tree → Tree
after [] tree = tree
after (one ∷ more) tree = after more (apply_all one.zxid one.time one.changes tree)

-- each transaction is legal after those before it ("Consistency Guarantees")
abbrev pub AllLegal : List Transaction → Tree → Type 0
AllLegal [] tree = ⊤
AllLegal (one ∷ more) tree = AreLegal one.zxid one.time one.changes tree × AllLegal more (apply_all one.zxid one.time one.changes tree)

-- zxids rise, and are signed 64-bit numbers ("Time in ZooKeeper": if zxid1 is smaller than zxid2, then zxid1 happened
-- before zxid2)
abbrev pub AreRising : ℕ → List Transaction → Type 0
AreRising low [] = ⊤
AreRising low (one ∷ more) = (low < one.zxid) × (one.zxid < 2 ^ 63) × AreRising one.zxid more

-- What happened to the data, from the first tree on ("Consistency Guarantees": updates have one order).
pub record History : Type 0 where
  pub first : Tree
  pub transactions : List Transaction

-- It begins with a root, with the parents of all that is there, and with zxids 0; its zxids rise from 1 on and its changes
-- are legal ("The ZooKeeper Data Model", "Time in ZooKeeper"). Names may be any bytes.
pub record IsHistory (h : History) : Type 0 where
  pub root : IsTrue (is_some (h.first []))
  pub parents : (name : Name) (path : NodePath) → IsTrue (is_some (h.first (name ∷ path))) → IsTrue (is_some (h.first path))
  pub zeros : (path : NodePath) (node : Node) → h.first path ≡ Some node → (node.czxid ≡ 0) × (node.mzxid ≡ 0) × (node.pzxid ≡ 0)
  pub rising : AreRising 0 h.transactions
  pub legal : AllLegal h.transactions h.first

-- those with at most this zxid ("Time in ZooKeeper")
abbrev pub up_to : ℕ → List Transaction → List Transaction
up_to zxid transactions = filter (λ one. nat_le one.zxid zxid) transactions

-- The tree at a zxid: the first tree after every transaction with at most that zxid ("Time in ZooKeeper").
abbrev pub tree_at : History → ℕ → Tree
tree_at h zxid = after (up_to zxid h.transactions) h.first

-- the zxid of the last of these transactions, or low ("Time in ZooKeeper")
abbrev pub newest : ℕ → List Transaction → ℕ
newest low [] = low
newest low (one ∷ more) = newest one.zxid more

-- dataLength: the number of bytes, 0 for null data ("ZooKeeper Stat Structure")
abbrev pub size_of : Option (List ℕ) → ℕ
size_of None = 0
size_of (Some bytes) = length bytes

-- the seven fields of a node that change only where a data watch fires, as numbers of the wire ("ZooKeeper Stat Structure")
abbrev pub node_fields : Node → DataStat
node_fields node = record {
  czxid = pos node.czxid;
  mzxid = pos node.mzxid;
  ctime = node.ctime;
  mtime = node.mtime;
  version = pos node.version;
  ephemeral_owner = node.owner;
  data_length = pos (size_of node.content);
}

-- What there is to see of a path on one side: that it is absent, its data with the seven fields, or the set of its
-- children's names with the pzxid ("ZooKeeper Watches": data watches and child watches).
pub data View : Type 0 where
  Absence : View
  Contents : Option (List ℕ) → DataStat → View
  Children : (Name → Bool) → ℤ → View

-- what there is to see of a node's data, or of no node ("Data Access")
abbrev pub contents_of : Option Node → View
contents_of None = Absence
contents_of (Some node) = Contents node.content (node_fields node)

-- what there is to see of a node's children, or of no node ("ZNodes")
abbrev pub children_of : (Name → Bool) → Option Node → View
children_of names None = Absence
children_of names (Some node) = Children names (pos node.pzxid)

-- What there is to see of a path in a tree, on one side ("ZooKeeper Watches").
abbrev pub view : Side → Tree → NodePath → View
view Data tree path = contents_of (tree path)
view Child tree path = children_of (λ name. is_some (tree (name ∷ path))) (tree path)
