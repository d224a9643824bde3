-- What it is to be first below a path, in a tree and by what a client shows, and what follows.
use Rattle.std.specs.Prelude.{ℕ, ℤ, pos, ◌≡◌, ◌≢◌, ◌≤◌, ◌≤ℤ◌, Bool, true, false, ◌&&◌, not, ◌∷◌, ◌++◌, Option, Some, None, is_some}
use Rattle.std.specs.Prelude.{if◌then◌else◌}
use Rattle.std.specs.Ordering.{int_eq, is_lt}
use Rattle.std.specs.FinSet as set
use Rattle.zk_nodes.specs.Path.{Text, Name, NodePath, path_of}
use Rattle.zk_nodes.specs.History.{Node, Tree, History, IsHistory, tree_at}
use Rattle.zk_nodes.specs.Names.{name_cmp, Names as NameSet}
use Rattle.zk_nodes.specs.declared.data_stat.DataStat.{DataStat}
use Rattle.zk_cache.specs.Kept.{Answer, Absent, Known, Full, Names, good}
use Rattle.zk_turns.specs.View.{View}
use Rattle.zk_laws.specs.Messages.{from_zero}
use Rattle.zk_conclusions.specs.Seen.{IsServedAt, IsEither, tree_seen}

-- the name begins with the prefix
abbrev pub HasPrefix : Name → Name → Type 0
HasPrefix prefix name = (rest : Name) × (name ≡ prefix ++ rest)

-- the one name is before the other, in the order of bytes
abbrev pub is_before : Name → Name → Bool
is_before one other = is_lt (name_cmp one other)

-- of these names that begin with the prefix none is before this one
abbrev pub IsFirstOf : NameSet → Name → Name → Type 0
IsFirstOf names prefix own = (name : Name) → set.contains names name ≡ true → HasPrefix prefix name → is_before name own ≡ false

-- The node at the path is the first of those below dir whose names begin with the prefix. It is this session's, which is not 0, and
-- was made at the zxid that is its token.
pub record IsHolder (tree : Tree) (dir : NodePath) (prefix : Name) (path : NodePath) (session token : ℤ) : Type 0 where
  pub own : Name
  pub below : path ≡ own ∷ dir
  pub begins : HasPrefix prefix own
  pub node : Node
  pub there : tree path ≡ Some node
  pub owner : node.owner ≡ session
  pub owned : session ≢ pos 0
  pub made : pos node.czxid ≡ token
  pub first : (name : Name) → is_some (tree (name ∷ dir)) ≡ true → HasPrefix prefix name → is_before name own ≡ false

-- the czxid of a node that is this session's, which is not 0
abbrev pub token_of : ℤ → DataStat → Option ℤ
token_of session fields = if int_eq fields.ephemeral_owner session && not (int_eq session (pos 0)) then Some fields.czxid else None

-- the same of an answer
abbrev pub token_in : ℤ → Answer → Option ℤ
token_in session Absent = None
token_in session (Known fields) = token_of session fields
token_in session (Full bytes fields) = token_of session fields

-- The names below dir and the node at the path are kept and good, and by them the client's session holds.
pub record ShowsHolder (view : View) (dir : Text) (prefix : Name) (path : Text) (token : ℤ) : Type 0 where
  pub own : Name
  pub below : path_of path ≡ own ∷ path_of dir
  pub begins : HasPrefix prefix own
  pub names : Names
  pub children : view.cache.children dir ≡ good names
  pub first : IsFirstOf names.names prefix own
  pub answer : Answer
  pub nodes : view.cache.nodes path ≡ good answer
  pub made : token_in view.saved.session.session answer ≡ Some token

-- A session that is shown to hold does so in the history at the last seen zxid, if servers keep to the model at the directory and the
-- node.
abbrev pub HeldIsTrue : Type 0
HeldIsTrue = (h : History) (view : View) (dir : Text) (prefix : Name) (path : Text) (token : ℤ)
    → IsServedAt (IsEither dir path) h view → ShowsHolder view dir prefix path token
    → IsHolder (tree_seen h view) (path_of dir) prefix (path_of path) view.saved.session.session token

-- In one tree no two hold.
abbrev pub OneHolds : Type 0
OneHolds = (tree : Tree) (dir : NodePath) (prefix : Name) (path other : NodePath) (session yours token later : ℤ)
    → IsHolder tree dir prefix path session token
    → IsHolder tree dir prefix other yours later → (path ≡ other) × (session ≡ yours) × (token ≡ later)

-- Two clients that show it at the same zxid are of the same session.
abbrev pub OneShows : Type 0
OneShows = (h : History) (one other : View) (dir : Text) (prefix : Name) (path its : Text) (token later : ℤ)
    → IsServedAt (IsEither dir path) h one → IsServedAt (IsEither dir its) h other → one.saved.last ≡ other.saved.last
    → ShowsHolder one dir prefix path token → ShowsHolder other dir prefix its later
    → (path_of path ≡ path_of its) × (one.saved.session.session ≡ other.saved.session.session) × (token ≡ later)

-- Names rise with creation: of two nodes below dir that are there at once, and whose names begin with the prefix, the one whose name
-- is before the other's was not made after it.
abbrev pub NamesRise : History → NodePath → Name → Type 0
NamesRise h dir prefix =
    (zxid : ℕ) (one other : Name) (node its : Node) → tree_at h zxid (one ∷ dir) ≡ Some node → tree_at h zxid (other ∷ dir) ≡ Some its
    → HasPrefix prefix one → HasPrefix prefix other → is_before one other ≡ true → node.czxid ≤ its.czxid

-- Where names rise with creation, who holds at a later zxid has a token that is not smaller.
abbrev pub TokensRise : Type 0
TokensRise = (h : History) (dir : NodePath) (prefix : Name) (path other : NodePath) (session yours token later : ℤ) (zxid beyond : ℕ)
    → IsHistory h → NamesRise h dir prefix → zxid ≤ beyond
    → IsHolder (tree_at h zxid) dir prefix path session token → IsHolder (tree_at h beyond) dir prefix other yours later → token ≤ℤ later

-- The same of two clients.
abbrev pub LaterTokens : Type 0
LaterTokens = (h : History) (one other : View) (dir : Text) (prefix : Name) (path its : Text) (token later : ℤ)
    → IsServedAt (IsEither dir path) h one → IsServedAt (IsEither dir its) h other → NamesRise h (path_of dir) prefix
    → from_zero one.saved.last ≤ from_zero other.saved.last
    → ShowsHolder one dir prefix path token → ShowsHolder other dir prefix its later → token ≤ℤ later
