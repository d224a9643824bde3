-- Programs that contend for a place below a directory, by what their look-ups say; what it is to have the token; and what follows.
use Rattle.std.specs.Prelude.{ℕ, ℤ, ◌≡◌, ◌≤◌, ◌≤ℤ◌, Bool, List, [], ◌∷◌, ◌++◌, Option, Some, ⊤, ◌⊎◌}
use Rattle.zk_turns.specs.Meaning.{Among}
use Rattle.zk_turns.specs.Turns.{Start, Item}
use Rattle.zk_turns.specs.Past.{Took, Replies}
use Rattle.zk_turns.specs.Taken.{past_of}
use Rattle.zk_turns.specs.Rule.{Stands}
use Rattle.zk_turns.specs.View.{View}
use Rattle.zk_conversation.specs.Questions.{GetChildren}
use Rattle.zk_conversation.specs.Results.{Listing}
use Rattle.zk_nodes.specs.declared.stat.Stat.{Stat}
use Rattle.zk_nodes.specs.Path.{Text, NodePath, path_of}
use Rattle.zk_nodes.specs.History.{History, IsHistory, tree_at}
use Rattle.zk_laws.specs.Messages.{from_zero}
use Rattle.theory_local.specs.LocalServed.{ServedAt}
use Rattle.zk_conclusions.specs.Seen.{IsEither}
use Rattle.zk_conclusions.specs.Numbers.{Kind}
use Rattle.zk_conclusions.specs.Standings.{IsStanding, ShowsStanding}
use Rattle.zk_fence.specs.Fenced.{IsFencedFrom}
use Rattle.theory_contenders.specs.Sequences.{MadeInSequence}

-- ---- a program

-- what a look-up says where it says *held*: the path of the program's node, and the token
pub record Place : Type 0 where
  pub path : Text
  pub token : ℤ

-- A moment of a program: what its client has come through, the newest first, and shows; and what the program's look-up says then.
pub record Moment : Type 0 where
  pub items : List Item
  pub view : View
  pub says : Option Place

-- its client's last seen zxid, and its session
abbrev pub seen_by : Moment → ℕ
seen_by moment = from_zero moment.view.saved.last

abbrev pub session_of : Moment → ℤ
session_of moment = moment.view.saved.session.session

-- Where the look-up says *held*, it goes by a listing of the directory that the client was answered, with a watch or without, and the
-- client shows by it that its session stands first: with that token, by the node at that path.
pub record SaysSo (start : Start) (dir : Text) (kind : Kind) (moment : Moment) (place : Place) : Type 0 where
  pub ticket : ℕ
  pub watch : Bool
  pub listed : ℤ
  pub names : List Text
  pub stat : Stat
  pub answered : Among (Took (Replies ticket (GetChildren dir watch) listed (Listing names stat))) (past_of start moment.items)
  pub shows : ShowsStanding moment.view dir kind names listed place.path place.token

-- The client has come to what it shows, and what the look-up says is so.
pub record IsMoment (start : Start) (dir : Text) (kind : Kind) (moment : Moment) : Type 0 where
  pub stands : Stands start moment.items moment.view
  pub says : (place : Place) → moment.says ≡ Some place → SaysSo start dir kind moment place

-- A program with one client: how that began, the directory and the kind for which it contends, and its moments, the newest first.
pub record Run : Type 0 where
  pub start : Start
  pub dir : Text
  pub kind : Kind
  pub moments : List Moment

-- what the client came through before the last of these moments is the beginning of what it has come through now
abbrev pub IsAfter : Moment → List Moment → Type 0
IsAfter moment [] = ⊤
IsAfter moment (before ∷ earlier) = (more : List Item) × (moment.items ≡ more ++ before.items)

abbrev pub AreMoments : Start → Text → Kind → List Moment → Type 0
AreMoments start dir kind [] = ⊤
AreMoments start dir kind (moment ∷ earlier) =
    IsMoment start dir kind moment × IsAfter moment earlier × AreMoments start dir kind earlier

-- From this moment to the newest the look-up has said the same.
abbrev pub SaysSince : List Moment → Place → Moment → Type 0
SaysSince [] place since = ⊥
SaysSince (moment ∷ earlier) place since = (moment.says ≡ Some place) × ((moment ≡ since) ⊎ SaysSince earlier place since)

-- The program is between the moment in which its look-up says *held* and the one in which it no longer says so: it has said the same since
-- then, up to the last of its moments. Its servers keep to the model at the directory and at its node, and all names of the kind in the
-- directory come from sequential creates.
pub record IsHolding (h : History) (run : Run) (place : Place) (since last : Moment) : Type 0 where
  pub moments : AreMoments run.start run.dir run.kind run.moments
  pub earlier : List Moment
  pub newest : run.moments ≡ last ∷ earlier
  pub says : SaysSince run.moments place since
  pub history : IsHistory h
  pub served : ServedAt (IsEither run.dir place.path) h run.start last.items
  pub sequence : MadeInSequence h (path_of run.dir) run.kind

-- ---- the token

-- From one zxid to another a session has the token, in the history: at each of them its node, which was made at the token, stands first.
abbrev pub HasToken : History → (dir : NodePath) → Kind → (path : NodePath) → (session token : ℤ) → (low high : ℕ) → Type 0
HasToken h dir kind path session token low high =
    (zxid : ℕ) → low ≤ zxid → zxid ≤ high → IsStanding (tree_at h zxid) dir kind path session token

-- The kinds are rivals of one another: each waits for nodes with the other's marker. And they contend for one directory.
pub record AreRivals (one other : Run) : Type 0 where
  pub same : path_of one.dir ≡ path_of other.dir
  pub waits : Among other.kind.own one.kind.against
  pub back : Among one.kind.own other.kind.against

-- ---- what follows

-- A program has the token from the zxid that its client had seen as the look-up said *held*, to the one that it has seen last: at each zxid
-- between, also at those of which it was told nothing. And the first is not above the last.
abbrev pub HoldersHaveIt : Type 0
HoldersHaveIt = (h : History) (run : Run) (place : Place) (since last : Moment) → IsHolding h run place since last
    → HasToken h (path_of run.dir) run.kind (path_of place.path) (session_of last) place.token (seen_by since) (seen_by last)
    × (seen_by since ≤ seen_by last)

-- Two rivals that have it at one zxid are one: no two hold in one tree.
abbrev pub OneHasIt : Type 0
OneHasIt = (h : History) (one other : Run) (place its : Place) (since last from upto : Moment) (zxid : ℕ)
    → IsHolding h one place since last → IsHolding h other its from upto → AreRivals one other
    → seen_by since ≤ zxid → zxid ≤ seen_by last → seen_by from ≤ zxid → zxid ≤ seen_by upto
    → (path_of place.path ≡ path_of its.path) × (session_of last ≡ session_of upto) × (place.token ≡ its.token)

-- A rival that still has it at a zxid which is not before the one from which the first had it, has a token that is not smaller.
abbrev pub LaterTokensRise : Type 0
LaterTokensRise = (h : History) (one other : Run) (place its : Place) (since last from upto : Moment)
    → IsHolding h one place since last → IsHolding h other its from upto → AreRivals one other
    → seen_by since ≤ seen_by upto → place.token ≤ℤ its.token

-- So a store with a fence that has taken a write of the later takes none of the earlier, unless their tokens are one.
abbrev pub EarlierAreShutOut : Type 0
EarlierAreShutOut = (h : History) (one other : Run) (place its : Place) (since last from upto : Moment)
    → IsHolding h one place since last → IsHolding h other its from upto → AreRivals one other
    → seen_by since ≤ seen_by upto → IsFencedFrom place.token its.token
