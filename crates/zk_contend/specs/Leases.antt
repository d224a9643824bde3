-- What it is to be among the first below a directory, by one listing and a node that is still there, and what follows.
use Rattle.std.specs.Prelude.{ℕ, zero, suc, ℤ, pos, ◌≡◌, ◌≢◌, ◌≤◌, ◌≤ℤ◌, ⊤, true, false, ◌∷◌, List, Some, is_some}
use Rattle.zk_turns.specs.Meaning.{Among}
use Rattle.zk_turns.specs.View.{View}
use Rattle.zk_nodes.specs.Path.{Text, Name, NodePath, path_of}
use Rattle.zk_nodes.specs.History.{Node, Tree, History, IsHistory, tree_at}
use Rattle.zk_cache.specs.Kept.{Answer, good}
use Rattle.zk_laws.specs.Messages.{from_zero}
use Rattle.zk_conclusions.specs.Holders.{token_in}
use Rattle.zk_conclusions.specs.Numbers.{Kind, is_before, is_numbered, is_rival}
use Rattle.zk_conclusions.specs.Seen.{Is, IsServedAt, tree_seen}
use Rattle.zk_conclusions.specs.Standings.{IsStanding, ListsAll, NumbersRise, ShowsStanding}
use Rattle.zk_contend.specs.declared.naming.Naming.{Naming}
use Rattle.zk_contend.specs.Namings.{is_mixed, kind_in, most_in}

-- Rivals of this number are there and before this name, each before another one of them.
abbrev pub AreBefore : (IsThere : Name → Type 0) → Kind → (own : Name) → (count : ℕ) → Type 0
AreBefore IsThere kind own zero = ⊤
AreBefore IsThere kind own (suc count) = (name : Name) × IsThere name × (is_rival kind name ≡ true) × (is_before name own ≡ true)
    × AreBefore IsThere kind name count

-- Fewer than `most` of these names are rivals before this one.
abbrev pub IsAmongOf : Kind → (most : ℕ) → List Name → Name → Type 0
IsAmongOf kind most names own = ¬ (AreBefore (λ name. Among name names) kind own most)

-- The same of the names below a directory.
abbrev pub IsAmongIn : Tree → NodePath → Kind → (most : ℕ) → Name → Type 0
IsAmongIn tree dir kind most own = ¬ (AreBefore (λ name. is_some (tree (name ∷ dir)) ≡ true) kind own most)

-- Fewer than `most` rivals are before the node at the path, below dir. It is this session's, which is not 0, and was made at the zxid that
-- is its token.
pub record IsLease (tree : Tree) (dir : NodePath) (kind : Kind) (most : ℕ) (path : NodePath) (session token : ℤ) : Type 0 where
  pub own : Name
  pub below : path ≡ own ∷ dir
  pub numbered : is_numbered kind.own own ≡ true
  pub node : Node
  pub there : tree path ≡ Some node
  pub owner : node.owner ≡ session
  pub owned : session ≢ pos 0
  pub made : pos node.czxid ≡ token
  pub among : IsAmongIn tree dir kind most own

-- The node at the path is kept and good, and the client's session made it. These names below dir were listed at a zxid that is not
-- below its czxid, nor above the last seen one, and fewer than `most` rivals of theirs are before it.
pub record ShowsLease (view : View) (dir : Text) (kind : Kind) (most : ℕ) (names : List Name) (listed : ℤ) (path : Text) (token : ℤ)
    : Type 0 where
  pub own : Name
  pub below : path_of path ≡ own ∷ path_of dir
  pub numbered : is_numbered kind.own own ≡ true
  pub answer : Answer
  pub nodes : view.cache.nodes path ≡ good answer
  pub made : token_in view.saved.session.session answer ≡ Some token
  pub among : IsAmongOf kind most names own
  pub after : token ≤ℤ listed
  pub seen : listed ≤ℤ view.saved.last

-- The place of a contender of this naming is shown so beside its own family, and no name of another family was listed.
pub record StandsBy (view : View) (dir : Text) (naming : Naming) (names : List Name) (listed : ℤ) (path : Text) (token : ℤ) : Type 0
  where
    pub unmixed : is_mixed naming names ≡ false
    pub shows : ShowsLease view dir (kind_in naming) (most_in naming) names listed path token

-- Whoever is among the first of one tree, is so in each later one for as long as its node is there.
abbrev pub AmongStays : Type 0
AmongStays = (h : History) (dir : NodePath) (kind : Kind) (most : ℕ) (own : Name) (node : Node) (listed seen : ℕ)
    → IsHistory h → NumbersRise h dir kind → listed ≤ seen → is_numbered kind.own own ≡ true
    → IsAmongIn (tree_at h listed) dir kind most own → tree_at h seen (own ∷ dir) ≡ Some node → node.czxid ≤ listed
    → IsAmongIn (tree_at h seen) dir kind most own

-- Whoever is shown to be among the first is so in the history at the last seen zxid, where the listing was true at its zxid, if servers
-- keep to the model at its node.
abbrev pub LeaseIsTrue : Type 0
LeaseIsTrue = (h : History) (view : View) (dir : Text) (kind : Kind) (most : ℕ) (names : List Name) (listed : ℤ) (path : Text) (token : ℤ)
    → IsServedAt (Is path) h view → NumbersRise h (path_of dir) kind → ListsAll (tree_at h (from_zero listed)) (path_of dir) names
    → ShowsLease view dir kind most names listed path token
    → IsLease (tree_seen h view) (path_of dir) kind most (path_of path) view.saved.session.session token

-- Where one may hold at once, it is the first: what a client shows, and what is so in a tree.
abbrev pub OneIsFirst : Type 0
OneIsFirst =
    ((view : View) (dir : Text) (kind : Kind) (names : List Name) (listed : ℤ) (path : Text) (token : ℤ)
    → ShowsLease view dir kind 1 names listed path token → ShowsStanding view dir kind names listed path token)
    × ((tree : Tree) (dir : NodePath) (kind : Kind) (path : NodePath) (session token : ℤ)
    → IsLease tree dir kind 1 path session token → IsStanding tree dir kind path session token)
