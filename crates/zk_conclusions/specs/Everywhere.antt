-- The same conclusions of a client whose servers keep to the model at all paths.
use Rattle.std.specs.Prelude.{ℕ, ℤ, ◌≡◌, ◌≤◌, ◌≤ℤ◌, Bool, true, List}
use Rattle.zk_turns.specs.Meaning.{Among}
use Rattle.zk_turns.specs.Past.{Took, Replies}
use Rattle.zk_turns.specs.Taken.{past_of}
use Rattle.zk_turns.specs.View.{View}
use Rattle.zk_nodes.specs.Path.{Text, Name, path_of}
use Rattle.zk_nodes.specs.PathFault.{IsPath}
use Rattle.zk_nodes.specs.History.{History, tree_at}
use Rattle.zk_nodes.specs.declared.stat.Stat.{Stat}
use Rattle.zk_conversation.specs.Questions.{GetChildren}
use Rattle.zk_conversation.specs.Results.{Listing}
use Rattle.zk_laws.specs.Messages.{from_zero}
use Rattle.zk_conclusions.specs.Seen.{IsServedFrom, tree_seen}
use Rattle.zk_conclusions.specs.Snapshots.{is_whole, IsOfOneTree}
use Rattle.zk_conclusions.specs.Subtrees.{IsWholeBelow, IsSubtreeOf, AreReached, AreAllBelow}
use Rattle.zk_conclusions.specs.Looks.{Look, IsKept, WasShown}
use Rattle.zk_conclusions.specs.Holders.{IsHolder, NamesRise, ShowsHolder}
use Rattle.zk_conclusions.specs.Numbers.{Kind}
use Rattle.zk_conclusions.specs.Standings.{IsStanding, ListsAll, NumbersRise, ShowsStanding, IsShownStanding}

abbrev pub OneTreeEverywhere : Type 0
OneTreeEverywhere = (h : History) (view : View) → IsServedFrom h view → (nodes parents : List Text)
    → is_whole view.cache nodes parents ≡ true → IsOfOneTree (tree_seen h view) view.cache nodes parents

abbrev pub LooksEverywhere : Type 0
LooksEverywhere = (h : History) (view : View) (look : Look) → IsServedFrom h view → IsKept view.cache look → WasShown h view.saved.last look

abbrev pub SubtreeEverywhere : Type 0
SubtreeEverywhere = (h : History) (view : View) (root : Text) → IsServedFrom h view → IsPath root → IsWholeBelow view.cache root
    → IsSubtreeOf (tree_seen h view) view.cache root

abbrev pub PathsEverywhere : Type 0
PathsEverywhere = (h : History) (view : View) (root : Text) (paths : List Text) → IsServedFrom h view → IsPath root
    → IsWholeBelow view.cache root → AreReached view.cache root paths
    → AreAllBelow (tree_seen h view) root paths

abbrev pub HeldEverywhere : Type 0
HeldEverywhere = (h : History) (view : View) (dir : Text) (prefix : Name) (path : Text) (token : ℤ)
    → IsServedFrom h view → ShowsHolder view dir prefix path token
    → IsHolder (tree_seen h view) (path_of dir) prefix (path_of path) view.saved.session.session token

abbrev pub OneShowsEverywhere : Type 0
OneShowsEverywhere = (h : History) (one other : View) (dir : Text) (prefix : Name) (path its : Text) (token later : ℤ)
    → IsServedFrom h one → IsServedFrom h other → one.saved.last ≡ other.saved.last
    → ShowsHolder one dir prefix path token → ShowsHolder other dir prefix its later
    → (path_of path ≡ path_of its) × (one.saved.session.session ≡ other.saved.session.session) × (token ≡ later)

abbrev pub LaterTokensEverywhere : Type 0
LaterTokensEverywhere = (h : History) (one other : View) (dir : Text) (prefix : Name) (path its : Text) (token later : ℤ)
    → IsServedFrom h one → IsServedFrom h other → NamesRise h (path_of dir) prefix → from_zero one.saved.last ≤ from_zero other.saved.last
    → ShowsHolder one dir prefix path token → ShowsHolder other dir prefix its later → token ≤ℤ later

abbrev pub ListingEverywhere : Type 0
ListingEverywhere = (h : History) (view : View) (seen : IsServedFrom h view) (ticket : ℕ) (dir : Text) (watch : Bool) (zxid : ℤ)
    (names : List Text) (stat : Stat)
    → Among (Took (Replies ticket (GetChildren dir watch) zxid (Listing names stat))) (past_of seen.start seen.items)
    → ListsAll (tree_at h (from_zero zxid)) (path_of dir) names

abbrev pub StandingEverywhere : Type 0
StandingEverywhere = (h : History) (view : View) (dir : Text) (kind : Kind) (names : List Name) (listed : ℤ) (path : Text) (token : ℤ)
    → IsServedFrom h view → NumbersRise h (path_of dir) kind → ListsAll (tree_at h (from_zero listed)) (path_of dir) names
    → ShowsStanding view dir kind names listed path token
    → IsStanding (tree_seen h view) (path_of dir) kind (path_of path) view.saved.session.session token

-- so `OneShowsStanding` and `LaterStandings` are about such clients too
abbrev pub ShownEverywhere : Type 0
ShownEverywhere = (h : History) (view : View) (dir : Text) (kind : Kind) (names : List Name) (listed : ℤ) (path : Text) (token : ℤ)
    → IsServedFrom h view → NumbersRise h (path_of dir) kind → ListsAll (tree_at h (from_zero listed)) (path_of dir) names
    → ShowsStanding view dir kind names listed path token → IsShownStanding h view dir kind path token
