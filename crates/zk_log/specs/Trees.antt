-- What becomes of the nodes of a tree.
use Rattle.std.specs.Prelude.{ℕ, zero, suc, ◌+◌, ◌==◌, ℤ, pos, int_lt, List, [], ◌∷◌, codes, take, bytes_eq, Option, Some, None}
use Rattle.std.specs.Prelude.{String, if◌then◌else◌}
use Rattle.std.specs.BTreeMap.{BTreeMap, get_by_text}
use Rattle.zk_log.specs.declared.digest_node.DigestNode.{DigestNode}
use Rattle.zk_log.specs.declared.digest_node.Stamp.{Stamp}
use Rattle.zk_log.specs.Digests.{counts, head_of}

-- a tree: the node at each path
abbrev pub Tree : Type 0
Tree = List ℕ → Option DigestNode

-- that of nodes by their paths
abbrev pub tree_of : {A : Type 0} → BTreeMap (String A) DigestNode → Tree
tree_of nodes = λ path. get_by_text nodes path

abbrev pub put_at : List ℕ → Option DigestNode → Tree → Tree
put_at path node tree = λ text. if bytes_eq path text then node else tree text

-- the place of the last slash of these bytes, which begin at a place, or else one before
abbrev pub last_slash : List ℕ → ℕ → Option ℕ → Option ℕ
last_slash [] place last = last
last_slash (byte ∷ bytes) place last = last_slash bytes (place + 1) (if byte == 47 then Some place else last)

abbrev pub before_slash : List ℕ → Option ℕ → Option (List ℕ)
before_slash path None = None
before_slash path (Some zero) = Some (codes "/")
before_slash path (Some (suc place)) = Some (take (suc place) path)

-- what comes before the last slash; for a name at the root, the root
unfoldable pub parent_of : List ℕ → Option (List ℕ)
parent_of path = before_slash path (last_slash path 0 None)

-- a node that is made: its czxid, mzxid and pzxid are the zxid, its times the time
unfoldable pub new_node : Stamp → List ℕ → Option (List ℕ) → (owner : ℤ) → DigestNode
new_node stamp path content owner = record {
  counts = counts path;
  head = head_of path content;
  czxid = stamp.zxid;
  mzxid = stamp.zxid;
  pzxid = stamp.zxid;
  ctime = stamp.time;
  mtime = stamp.time;
  version = pos 0;
  cversion = pos 0;
  aversion = pos 0;
  owner = owner;
}

-- Servers begin with these nodes. Digests count two of them, whose fields are all 0.
abbrev pub first_node : List ℕ → DigestNode
first_node path = new_node (record { zxid = pos 0; time = pos 0; session = pos 0 }) path None (pos 0)

abbrev pub first_at : List ℕ → Tree → Tree
first_at path tree = put_at path (Some (first_node path)) tree

abbrev pub first_tree : Tree
first_tree = first_at (codes "/zookeeper/config")
    (first_at (codes "/zookeeper/quota") (first_at (codes "/zookeeper") (first_at (codes "/") (λ path. None))))

-- the number of changes of a parent's children, if it is a greater one, with the zxid of the last
abbrev pub raised : Stamp → ℤ → DigestNode → DigestNode
raised stamp cversion parent =
    if int_lt parent.cversion cversion then record parent { cversion = cversion; pzxid = stamp.zxid } else parent

-- the zxid of the last change of its children, if it is a later one
abbrev pub lowered : Stamp → DigestNode → DigestNode
lowered stamp parent = if int_lt parent.pzxid stamp.zxid then record parent { pzxid = stamp.zxid } else parent

-- a node is made below a parent that is there, and where none is
abbrev pub made_at : Stamp → List ℕ → DigestNode → ℤ → List ℕ → Option DigestNode → Option DigestNode → Tree → Tree
made_at stamp path node cversion above (Some parent) None tree =
    put_at path (Some node) (put_at above (Some (raised stamp cversion parent)) tree)
made_at stamp path node cversion above (Some parent) (Some there) tree = tree
made_at stamp path node cversion above None there tree = tree

abbrev pub made_below : Stamp → List ℕ → DigestNode → ℤ → Option (List ℕ) → Tree → Tree
made_below stamp path node cversion None tree = tree
made_below stamp path node cversion (Some above) tree = made_at stamp path node cversion above (tree above) (tree path) tree

unfoldable pub created : Stamp → List ℕ → DigestNode → ℤ → Tree → Tree
created stamp path node cversion tree = made_below stamp path node cversion (parent_of path) tree

-- a node is taken away below a parent that is there, which says so even where no node is
abbrev pub taken_at : Stamp → List ℕ → List ℕ → Option DigestNode → Tree → Tree
taken_at stamp path above (Some parent) tree = put_at path None (put_at above (Some (lowered stamp parent)) tree)
taken_at stamp path above None tree = tree

abbrev pub taken_below : Stamp → List ℕ → Option (List ℕ) → Tree → Tree
taken_below stamp path None tree = tree
taken_below stamp path (Some above) tree = taken_at stamp path above (tree above) tree

unfoldable pub deleted : Stamp → List ℕ → Tree → Tree
deleted stamp path tree = taken_below stamp path (parent_of path) tree

-- data are written, with the version that the node has then
abbrev pub written : Stamp → List ℕ → Option (List ℕ) → ℤ → DigestNode → DigestNode
written stamp path content version node =
    record node { head = head_of path content; mzxid = stamp.zxid; mtime = stamp.time; version = version }

abbrev pub set_at : Stamp → List ℕ → Option (List ℕ) → ℤ → Option DigestNode → Tree → Tree
set_at stamp path content version None tree = tree
set_at stamp path content version (Some node) tree = put_at path (Some (written stamp path content version node)) tree

abbrev pub data_set : Stamp → List ℕ → Option (List ℕ) → ℤ → Tree → Tree
data_set stamp path content version tree = set_at stamp path content version (tree path) tree

abbrev pub acl_at : List ℕ → ℤ → Option DigestNode → Tree → Tree
acl_at path version None tree = tree
acl_at path version (Some node) tree = put_at path (Some (record node { aversion = version })) tree

-- so is an access list
abbrev pub acl_set : List ℕ → ℤ → Tree → Tree
acl_set path version tree = acl_at path version (tree path) tree
