-- Whether a session comes first in a directory, by one listing.
use Rattle.std.specs.Prelude.{◌≡◌, ◌≢◌, ⊤, ◌⊎◌, IsSome, ℕ, zero, suc, ℤ, negsuc, List, ◌∷◌, None}
use Rattle.std.specs.Str.{IsUtf8}
use Rattle.zk_nodes.specs.Path.{Text, Name, path_of, child_text}
use Rattle.zk_nodes.specs.PathFault.{child_fault, fault_of}
use Rattle.zk_nodes.specs.History.{History, tree_at}
use Rattle.zk_turns.specs.View.{View}
use Rattle.zk_laws.specs.Messages.{from_zero}
use Rattle.zk_conclusions.specs.Numbers.{Kind}
use Rattle.zk_conclusions.specs.Predecessors.{IsPredecessor}
use Rattle.zk_conclusions.specs.Seen.{Is, IsServedAt, tree_seen}
use Rattle.zk_conclusions.specs.Standings.{IsFirstOf, IsStanding, ListsAll, NumbersRise, ShowsStanding}
use Rattle.ffi_device.specs.declared.standings.Stands.{Stands}
use Rattle.ffi_device.specs.declared.standings.Stands.TheVariants.{First, After, Unsure}
use Rattle.ffi_device.specs.Kept.{WritesText}
use Rattle.ffi_device.specs.Texts.{AreTexts, AreNoTexts}

-- These bytes spell the names of a listing, and those the markers: that of the session's name, and then those of its rivals.
pub record IsAsked (names markers : List ℕ) (listing : List Name) (kind : Kind) : Type 0 where
  pub listed : AreTexts listing names
  pub marked : AreTexts (kind.own ∷ kind.against) markers

-- They spell no markers, or not even one.
abbrev pub AreNoMarkers : List ℕ → Type 0
AreNoMarkers markers = (own : List ℕ) (against : List (List ℕ)) → ¬ (AreTexts (own ∷ against) markers)

-- The session stands first by its node of this name, which has the token: as the client shows it, and under servers of a history so
-- there at the last seen zxid, if numbers rise with creation and the listing was true.
pub record StandsFirst (view : View) (directory name : Text) (listing : List Name) (listed : ℤ) (kind : Kind) (token : ℤ) : Type 0 where
  pub shows : ShowsStanding view directory kind listing listed (child_text directory name) token
  pub holds : (h : History)
      → IsServedAt (Is (child_text directory name)) h view → NumbersRise h (path_of directory) kind
      → ListsAll (tree_at h (from_zero listed)) (path_of directory) listing
      → IsStanding (tree_seen h view) (path_of directory) kind (path_of (child_text directory name)) view.saved.session.session token

-- No such token is shown, and no listed rival is before the name.
pub record StandsUnsure (view : View) (directory name : Text) (listing : List Name) (listed : ℤ) (kind : Kind) : Type 0 where
  pub unshown : (token : ℤ) → ¬ (ShowsStanding view directory kind listing listed (child_text directory name) token)
  pub first : IsFirstOf kind listing name

-- Where it stands: first, and nothing is written; after the last rival before it, whose name is written; or neither is shown.
abbrev pub StandsBy : View → (directory name : Text) (listing : List Name) (listed : ℤ) → Kind → Stands → (room written : List ℕ) → Type 0
StandsBy view directory name listing listed kind (First token) room written =
    StandsFirst view directory name listing listed kind token × (written ≡ room)
StandsBy view directory name listing listed kind (After count) room written =
    WritesText (IsPredecessor kind listing name) room written count
StandsBy view directory name listing listed kind Unsure room written =
    StandsUnsure view directory name listing listed kind × (written ≡ room)

-- the same of what was asked
pub record Stood (view : View) (directory name : Text) (names : List ℕ) (listed : ℤ) (markers : List ℕ) (stands : Stands)
    (room written : List ℕ) : Type 0 where
  pub listing : List Name
  pub kind : Kind
  pub asked : IsAsked names markers listing kind
  pub by : StandsBy view directory name listing listed kind stands room written

-- what is refused: -2; -4 if the directory or the name is no UTF-8, -5 if the directory is no path or the name makes none, and -11
-- where the names or the markers are not spelled so
abbrev pub RefusesStanding : (directory name names markers : List ℕ) → ℤ → Type 0
RefusesStanding directory name names markers (negsuc (suc zero)) = ⊤
RefusesStanding directory name names markers (negsuc (suc (suc (suc zero)))) = ¬ (IsUtf8 directory) ⊎ ¬ (IsUtf8 name)
RefusesStanding directory name names markers (negsuc (suc (suc (suc (suc zero))))) =
    IsSome (fault_of directory) ⊎ (child_fault directory name ≢ None)
RefusesStanding directory name names markers (negsuc (suc (suc (suc (suc (suc (suc (suc (suc (suc (suc zero))))))))))) =
    AreNoTexts names ⊎ AreNoMarkers markers
RefusesStanding directory name names markers code = ⊥
