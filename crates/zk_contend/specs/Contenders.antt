-- What becomes of a contender.
use Rattle.std.specs.Prelude.{ℕ, ◌≡◌, ◌++◌, ◌⊎◌, Bool, true, false, ◌&&◌, ◌||◌, not, bytes_eq, string_bytes, Option, Some, None, is_some}
use Rattle.std.specs.Prelude.{if◌then◌else◌, List, ◌+◌, nat_lt, length}
use Rattle.std.specs.List.{list_any}
use Rattle.zk_turns.specs.Meaning.{Among}
use Rattle.zk_nodes.specs.Path.{Text, Name, child_text}
use Rattle.zk_nodes.specs.PathFault.{child_fault}
use Rattle.zk_nodes.specs.declared.path_fault.PathFault.{PathFault}
use Rattle.zk_nodes.specs.declared.path_fault.PathFault.TheVariants.{TooLong}
use Rattle.zk_limits.specs.declared.limits.TheConstants.{LONGEST_PATH}
use Rattle.zk_records.specs.declared.event.Event.{Event}
use Rattle.zk_records.specs.declared.event.Event.TheVariants.{Deleted}
use Rattle.zk_conversation.specs.Calls.{Call, Exists, GetData, GetChildren}
use Rattle.zk_turns.specs.Turns.{Outcome}
use Rattle.zk_turns.specs.View.{View}
use Rattle.zk_contend.specs.declared.contender.LockContender.{LockContender}
use Rattle.zk_contend.specs.declared.listed.Listed.{Listed}
use Rattle.zk_contend.specs.declared.naming.Naming.{Naming}
use Rattle.zk_contend.specs.declared.place.Ask.{Ask}
use Rattle.zk_contend.specs.declared.place.Ask.TheVariants.{Enter, List as Lists}
use Rattle.zk_contend.specs.declared.place.Place.{Place}
use Rattle.zk_contend.specs.declared.place.Place.TheVariants.{Making, Entering, Unsure, At, Leaving, Left}
use Rattle.zk_contend.specs.declared.refused.Refused.{Refused}
use Rattle.zk_contend.specs.declared.refused.Obstacle.{Obstacle}
use Rattle.zk_contend.specs.Dues.{IsDue, call_asked}
use Rattle.zk_contend.specs.Hearing.{entering, refused_after, refused_for}
use Rattle.zk_contend.specs.Namings.{before_guid, behind_guid}
use Rattle.zk_contend.specs.Places.{shows_node, shows_own}
use Rattle.zk_contend.specs.Settling.{Hears, lost, unlisted}
use Rattle.zk_contend.specs.Standings.{is_left, without_refusal, IsObstacle}

-- where a contender begins: looking for its place, if a create may have made one
abbrev pub beginning : {A : Type 0} → (may_be_there : Bool) → Place A
beginning true = Unsure
beginning false = Entering

-- how the names of its nodes begin, and no others
abbrev pub front_of : Naming → (guid : Name) → Name
front_of naming guid = before_guid naming ++ guid ++ behind_guid naming

-- Why the path of a create of a place, or with the ten digits that it gets, is no path.
abbrev pub entry_fault : Text → Option PathFault → Option PathFault
entry_fault entry None = if nat_lt LONGEST_PATH (length entry + 10) then Some TooLong else None
entry_fault entry (Some fault) = Some fault

-- Why no place of a contender with this guid is in a directory, if none can be.
abbrev pub contender_fault : (dir : Text) → Naming → (guid : Name) → Option PathFault
contender_fault dir naming guid = entry_fault (child_text dir (front_of naming guid)) (child_fault dir (front_of naming guid))

-- A contender at its beginning, whose names begin with its guid, as its family puts it.
pub record IsFresh {A : Type 0} (dir : Text) (naming : Naming) (guid : Name) (may_be_there : Bool) (contender : LockContender A)
    : Type 0 where
  pub directory : contender.directory ≡ dir
  pub named : contender.naming ≡ naming
  pub front : string_bytes contender.front ≡ front_of naming guid
  pub entry : contender.entry ≡ child_text dir (string_bytes contender.front)
  pub place : contender.place ≡ beginning may_be_there
  pub asked : contender.asked ≡ None
  pub refused : contender.refused ≡ None
  pub stays : contender.is_given_up ≡ false

-- The call asks what is due, and counts as asked.
abbrev pub IsAsked : {A : Type 0} → View → (now : ℕ) → LockContender A → Call → LockContender A → Type 0
IsAsked view now contender call new =
    (ask : Ask) × IsDue view now contender ask × (call ≡ call_asked contender ask) × (new ≡ record contender { asked = Some ask })

-- What is known of the place is forgotten: it is looked for, as after a create whose answer was lost.
abbrev pub forgotten : {A : Type 0} → LockContender A → LockContender A
forgotten contender = record contender { place = Unsure; asked = None; refused = None }

abbrev pub is_listing : Ask → Bool
is_listing Lists = true
is_listing _ = false

-- What a listing says is in its way; or a refusal that an answer tells.
abbrev pub IsRefusal : {A : Type 0} → View → (now : ℕ) → Ask → (dir : Text) → Naming → Place A → (told refused : Option Refused) → Type 0
IsRefusal view now ask dir naming place told refused =
    ((why : Obstacle) × (is_listing ask ≡ true) × IsObstacle view dir naming place why × (refused ≡ refused_for now (Some why)))
    ⊎ ((is_listing ask ≡ true → (why : Obstacle) → ¬ (IsObstacle view dir naming place why)) × (refused ≡ told))

-- An answer is heard: nothing is under way.
pub record IsHeardOf {A : Type 0} (view : View) (now : ℕ) (ask : Ask) (outcome : Outcome) (old new : LockContender A) : Type 0 where
  pub hears : Hears view.saved.session.session old ask outcome new.place
  pub refused : IsRefusal view now ask new.directory new.naming new.place (refused_after now ask outcome) new.refused
  pub is : new ≡ record old { place = new.place; asked = None; refused = new.refused }

abbrev pub IsHeardAs : {A : Type 0} → View → (now : ℕ) → Option Ask → Outcome → (old new : LockContender A) → Type 0
IsHeardAs view now None outcome old new = new ≡ old
IsHeardAs view now (Some ask) outcome old new = IsHeardOf view now ask outcome old new

abbrev pub IsHeard : {A : Type 0} → View → (now : ℕ) → Outcome → (old new : LockContender A) → Type 0
IsHeard view now outcome old new = IsHeardAs view now old.asked outcome old new

-- ---- reports

-- the place is this node
abbrev pub is_at : {A : Type 0} → Text → Place A → Bool
is_at path (At own listing) = bytes_eq path own
is_at path _ = false

-- one that it waits for is this node
abbrev pub is_named : Text → List Text → Bool
is_named path behind = list_any (bytes_eq path) behind

abbrev pub is_behind : {A : Type 0} → Text → Place A → Bool
is_behind path (At own (Some listed)) = is_named path listed.behind.items
is_behind path _ = false

-- A deletion: of the place, which is lost; or of one that it waits for, so that the directory is listed again.
abbrev pub deleted : {A : Type 0} → Text → Place A → Place A
deleted path place = if is_at path place then lost place else (if is_behind path place then unlisted place else place)

-- The path is that of its place, or of one that it waits for.
abbrev pub is_about : {A : Type 0} → Text → LockContender A → Bool
is_about path contender = is_at path contender.place || is_behind path contender.place

abbrev pub is_deletion : Event → Bool
is_deletion Deleted = true
is_deletion _ = false

abbrev pub noted : {A : Type 0} → Text → Event → LockContender A → LockContender A
noted path event contender = if is_deletion event then record contender { place = deleted path contender.place } else contender

-- ---- inputs

abbrev pub is_entering : Option Ask → Bool
is_entering (Some Enter) = true
is_entering _ = false

-- What becomes of a place that is given up: it is deleted. If a create of one may be under way, its answer is awaited, or the place is
-- looked for.
abbrev pub leaves : {A : Type 0} → Option Ask → Place A → Place A
leaves asked (Making path) = Left
leaves asked Entering = if is_entering asked then Entering else Left
leaves asked (At own listing) = Leaving own
leaves asked place = place

-- It pauses no more: its place goes at once. If its delete is refused too, that is told, also for what was told last.
abbrev pub given_up : {A : Type 0} → LockContender A → LockContender A
given_up contender = record contender {
  place = leaves contender.asked contender.place;
  refused = None;
  is_given_up = true;
  told = without_refusal contender.told;
}

-- Another session: no node of it is there, nothing is under way.
abbrev pub renewed : {A : Type 0} → LockContender A → LockContender A
renewed contender = record contender { place = entering contender.is_given_up; asked = None; refused = None }

abbrev pub closed : {A : Type 0} → LockContender A → LockContender A
closed contender = record contender { place = Left; asked = None; refused = None; is_given_up = true }

-- given up, with no node left, and nothing under way
abbrev pub has_left : {A : Type 0} → LockContender A → Bool
has_left contender = is_left contender.place && not (is_some contender.asked)

-- the path of its place, if that is known
abbrev pub own_of : {A : Type 0} → Place A → Option Text
own_of (At own listing) = Some own
own_of _ = None

-- ---- watches

-- the path on which a call leaves a watch, if it does
abbrev pub path_watched : Call → Option Text
path_watched (Exists path true) = Some path
path_watched (GetData path true) = Some path
path_watched (GetChildren path true) = Some path
path_watched _ = None

-- It is that of the place, or of one that it waits for by the listing, and the client does not show it.
abbrev pub IsUnwatched : {A : Type 0} → View → Place A → Text → Type 0
IsUnwatched {A} view (At own listing) path = ((path ≡ own) × (shows_own view own ≡ false))
    ⊎ ((listed : Listed A) × (listing ≡ Some listed) × Among path listed.behind.items × (shows_node view path ≡ false))
IsUnwatched view _ path = ⊥

-- A call of a contender leaves a watch on its place or on one that it waits for alone, and only if the client shows that node no more.
abbrev pub WatchesOne : (A : Type 0) → Type 0
WatchesOne A = (view : View) (now : ℕ) (old new : LockContender A) (call : Call) (path : Text)
    → IsAsked view now old call new → path_watched call ≡ Some path → IsUnwatched view old.place path
