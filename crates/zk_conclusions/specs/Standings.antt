-- What it is to stand first below a directory, by one listing and a node that is still there, and what follows.
use Rattle.std.specs.Prelude.{ℕ, ℤ, pos, ◌≡◌, ◌≢◌, ◌≤◌, ◌≤ℤ◌, Bool, true, false, ◌∷◌, List, Some, is_some}
use Rattle.zk_turns.specs.Meaning.{Among}
use Rattle.zk_conversation.specs.Questions.{GetChildren}
use Rattle.zk_conversation.specs.Results.{Listing}
use Rattle.zk_nodes.specs.declared.stat.Stat.{Stat}
use Rattle.zk_turns.specs.Past.{Took, Replies}
use Rattle.zk_turns.specs.Taken.{past_of}
use Rattle.zk_turns.specs.View.{View}
use Rattle.zk_nodes.specs.Path.{Text, Name, NodePath, path_of}
use Rattle.zk_nodes.specs.History.{Node, Tree, History, IsHistory, tree_at}
use Rattle.zk_cache.specs.Kept.{Answer, good}
use Rattle.zk_laws.specs.Messages.{from_zero}
use Rattle.zk_conclusions.specs.Seen.{IsServedAt, Is, tree_seen}
use Rattle.zk_conclusions.specs.Holders.{token_in}
use Rattle.zk_conclusions.specs.Numbers.{Kind, is_numbered, is_before, is_rival, is_one}

-- None of these names that pass a test is before this one.
abbrev pub IsFirstAmong : (Name → Bool) → List Name → Name → Type 0
IsFirstAmong test names own = (name : Name) → Among name names → test name ≡ true → is_before name own ≡ false

-- None of these names is a rival's that is before this one.
abbrev pub IsFirstOf : Kind → List Name → Name → Type 0
IsFirstOf kind names own = IsFirstAmong (is_rival kind) names own

-- The same of the names below a directory.
abbrev pub IsFirstIn : Tree → NodePath → Kind → Name → Type 0
IsFirstIn tree dir kind own = (name : Name) → is_some (tree (name ∷ dir)) ≡ true → is_rival kind name ≡ true → is_before name own ≡ false

-- The node at the path stands first below dir, for its kind. It is this session's, which is not 0, and was made at the zxid that is
-- its token.
pub record IsStanding (tree : Tree) (dir : NodePath) (kind : Kind) (path : NodePath) (session token : ℤ) : Type 0 where
  pub own : Name
  pub below : path ≡ own ∷ dir
  pub numbered : is_numbered kind.own own ≡ true
  pub node : Node
  pub there : tree path ≡ Some node
  pub owner : node.owner ≡ session
  pub owned : session ≢ pos 0
  pub made : pos node.czxid ≡ token
  pub first : IsFirstIn tree dir kind own

-- The node at the path is kept and good, and the client's session made it. These names below dir were listed at a zxid that is not
-- below its czxid, nor above the last seen one, and no rival of theirs is before it.
pub record ShowsStanding (view : View) (dir : Text) (kind : Kind) (names : List Name) (listed : ℤ) (path : Text) (token : ℤ) : Type 0 where
  pub own : Name
  pub below : path_of path ≡ own ∷ path_of dir
  pub numbered : is_numbered kind.own own ≡ true
  pub answer : Answer
  pub nodes : view.cache.nodes path ≡ good answer
  pub made : token_in view.saved.session.session answer ≡ Some token
  pub first : IsFirstOf kind names own
  pub after : token ≤ℤ listed
  pub seen : listed ≤ℤ view.saved.last

-- Each name that is there below dir is listed.
abbrev pub ListsAll : Tree → NodePath → List Name → Type 0
ListsAll tree dir names = (name : Name) → is_some (tree (name ∷ dir)) ≡ true → Among name names

-- A getChildren that the client was answered lists each name that was there at the zxid of the answer, if servers keep to the model at
-- the directory.
abbrev pub ListingIsTrue : Type 0
ListingIsTrue = (h : History) (view : View) (dir : Text) (seen : IsServedAt (Is dir) h view) (ticket : ℕ) (watch : Bool) (zxid : ℤ)
    (names : List Text) (stat : Stat)
    → Among (Took (Replies ticket (GetChildren dir watch) zxid (Listing names stat))) (past_of seen.start seen.items)
    → ListsAll (tree_at h (from_zero zxid)) (path_of dir) names

-- Numbers rise with creation: of two nodes of the kind below dir that are there at once, the one whose name is before the other's was
-- not made after it.
abbrev pub NumbersRise : History → NodePath → Kind → Type 0
NumbersRise h dir kind =
    (zxid : ℕ) (one other : Name) (node its : Node) → tree_at h zxid (one ∷ dir) ≡ Some node → tree_at h zxid (other ∷ dir) ≡ Some its
    → is_one kind one ≡ true → is_one kind other ≡ true → is_before one other ≡ true → node.czxid ≤ its.czxid

-- Whoever stands first in one tree, does so in each later one for as long as its node is there.
abbrev pub FirstStays : Type 0
FirstStays = (h : History) (dir : NodePath) (kind : Kind) (own : Name) (node : Node) (listed seen : ℕ)
    → IsHistory h → NumbersRise h dir kind → listed ≤ seen → is_numbered kind.own own ≡ true → IsFirstIn (tree_at h listed) dir kind own
    → tree_at h seen (own ∷ dir) ≡ Some node → node.czxid ≤ listed → IsFirstIn (tree_at h seen) dir kind own

-- Whoever is shown to stand first does so in the history at the last seen zxid, where the listing was true at its zxid, if
-- servers keep to the model at its node.
abbrev pub StandingIsTrue : Type 0
StandingIsTrue = (h : History) (view : View) (dir : Text) (kind : Kind) (names : List Name) (listed : ℤ) (path : Text) (token : ℤ)
    → IsServedAt (Is path) h view → NumbersRise h (path_of dir) kind → ListsAll (tree_at h (from_zero listed)) (path_of dir) names
    → ShowsStanding view dir kind names listed path token
    → IsStanding (tree_seen h view) (path_of dir) kind (path_of path) view.saved.session.session token

-- In one tree, of two that are rivals of one another both do not stand first, unless they are one.
abbrev pub OneStands : Type 0
OneStands = (tree : Tree) (dir : NodePath) (kind its : Kind) (path other : NodePath) (session yours token later : ℤ)
    → (m : IsStanding tree dir kind path session token) → (y : IsStanding tree dir its other yours later)
    → is_rival kind y.own ≡ true → is_rival its m.own ≡ true → (path ≡ other) × (session ≡ yours) × (token ≡ later)

-- A rival of a first that stands first at a later zxid has a token that is not smaller.
abbrev pub StandingTokensRise : Type 0
StandingTokensRise =
    (h : History) (dir : NodePath) (kind its : Kind) (path other : NodePath) (session yours token later : ℤ) (zxid beyond : ℕ)
    → IsHistory h → NumbersRise h dir kind → zxid ≤ beyond
    → (m : IsStanding (tree_at h zxid) dir kind path session token) → (y : IsStanding (tree_at h beyond) dir its other yours later)
    → is_rival kind y.own ≡ true → token ≤ℤ later

-- A client that was served from the history at its node shows, by a listing that was true, that its session stands first; and numbers rise.
pub record IsShownStanding (h : History) (view : View) (dir : Text) (kind : Kind) (path : Text) (token : ℤ) : Type 0 where
  pub seen : IsServedAt (Is path) h view
  pub rises : NumbersRise h (path_of dir) kind
  pub names : List Name
  pub listed : ℤ
  pub all : ListsAll (tree_at h (from_zero listed)) (path_of dir) names
  pub shows : ShowsStanding view dir kind names listed path token

-- Two clients that show it at the same zxid, as rivals of one another, are of the same session and node.
abbrev pub OneShowsStanding : Type 0
OneShowsStanding = (h : History) (one other : View) (dir : Text) (kind its : Kind) (path its_path : Text) (token later : ℤ)
    → (m : IsShownStanding h one dir kind path token) → (y : IsShownStanding h other dir its its_path later)
    → one.saved.last ≡ other.saved.last
    → is_rival kind y.shows.own ≡ true → is_rival its m.shows.own ≡ true
    → (path_of path ≡ path_of its_path) × (one.saved.session.session ≡ other.saved.session.session) × (token ≡ later)

-- A rival that shows it at a later zxid has a token that is not smaller.
abbrev pub LaterStandings : Type 0
LaterStandings = (h : History) (one other : View) (dir : Text) (kind its : Kind) (path its_path : Text) (token later : ℤ)
    → (m : IsShownStanding h one dir kind path token) → (y : IsShownStanding h other dir its its_path later)
    → from_zero one.saved.last ≤ from_zero other.saved.last
    → is_rival kind y.shows.own ≡ true → token ≤ℤ later
