-- Which nodes of a contender are there, by what servers do with its calls, and what follows. Servers take the calls of a session in the
-- order in which it sent them, also over several connections: so a call whose answer is lost was done before the next one, or never is.
use Rattle.std.specs.Prelude.{ℕ, ℤ, ◌≡◌, ◌⊎◌, Bool, true, false, List, Option, Some, None, string_bytes, is_some}
use Rattle.std.specs.List.{FoldsTo}
use Rattle.zk_nodes.specs.Path.{Text, Name}
use Rattle.zk_records.specs.declared.event.Event.{Event}
use Rattle.zk_records.specs.declared.event.Event.TheVariants.{Deleted}
use Rattle.zk_conversation.specs.Results.{NoNode, Made, Read, Listing, Done, Brought}
use Rattle.zk_turns.specs.Turns.{Outcome, Replied, ConnectionLoss}
use Rattle.zk_turns.specs.Meaning.{Among}
use Rattle.zk_turns.specs.View.{View}
use Rattle.zk_conclusions.specs.Tags.{has_tag}
use Rattle.zk_contend.specs.declared.contender.LockContender.{LockContender}
use Rattle.zk_contend.specs.declared.naming.Naming.{Naming}
use Rattle.zk_contend.specs.declared.place.Ask.{Ask}
use Rattle.zk_contend.specs.declared.place.Ask.TheVariants.{Enter, Look, Clear, ReadOwn, List as ListsAgain, Leave}
use Rattle.zk_contend.specs.declared.place.Place.{Place}
use Rattle.zk_contend.specs.declared.place.Place.TheVariants.{Left}
use Rattle.zk_contend.specs.declared.status.LockStatus.{LockStatus}
use Rattle.zk_contend.specs.Contenders.{closed, forgotten, given_up, noted, own_of, renewed, IsFresh, IsHeard}
use Rattle.zk_contend.specs.Dues.{path_asked, IsAtRest, IsDue}
use Rattle.zk_contend.specs.Hearing.{is_paused}
use Rattle.zk_contend.specs.Places.{is_ready, path_in}

-- Whether a node is at a path that the session made in the directory, whose name begins as those of the contender do, and no others'.
abbrev pub Nodes : Type 0
Nodes = Text → Bool

abbrev pub AreNone : Nodes → Type 0
AreNone nodes = (path : Text) → nodes path ≡ true → ⊥

-- each was there: others may have deleted some
abbrev pub AreFewer : (old new : Nodes) → Type 0
AreFewer old new = (path : Text) → new path ≡ true → old path ≡ true

-- the same, with one more
abbrev pub AreFewerBut : (made : Text) → (old new : Nodes) → Type 0
AreFewerBut made old new = (path : Text) → new path ≡ true → (path ≡ made) ⊎ (old path ≡ true)

-- the same, and this one is gone
pub record AreFewerWithout (node : Text) (old new : Nodes) : Type 0 where
  pub fewer : AreFewer old new
  pub gone : new node ≡ false

-- The name of the node is among these.
pub record IsNamed (dir : Text) (front : Name) (names : List Name) (path : Text) : Type 0 where
  pub name : Name
  pub among : Among name names
  pub tagged : has_tag front name ≡ true
  pub is : path_in dir name ≡ Some path

-- A create of a place makes one, if it is answered with its path. A create2 that is answered with bytes may have made one, and so may each
-- create if the connection is lost.
abbrev pub Creates : Outcome → (old new : Nodes) → Type 0
Creates (Replied zxid (Made path)) old new = AreFewerBut path old new
Creates (Replied zxid (Brought bytes)) old new = (path : Text) × AreFewerBut path old new
Creates ConnectionLoss old new = (path : Text) × AreFewerBut path old new
Creates _ old new = AreFewer old new

-- After a delete that is answered so, the node is gone, or was not there.
abbrev pub Deletes : (path : Text) → Outcome → (old new : Nodes) → Type 0
Deletes path (Replied zxid Done) old new = AreFewerWithout path old new
Deletes path (Replied zxid NoNode) old new = AreFewerWithout path old new
Deletes path _ old new = AreFewer old new

-- A listing has each name that is there. A directory that is not there has none.
abbrev pub Lists : (dir : Text) → (front : Name) → Outcome → (old new : Nodes) → Type 0
Lists dir front (Replied zxid (Listing names stat)) old new =
    ((path : Text) → old path ≡ true → IsNamed dir front names path) × AreFewer old new
Lists dir front (Replied zxid NoNode) old new = AreNone old × AreFewer old new
Lists dir front _ old new = AreFewer old new

-- A read says whether the node is there, and whose it is.
abbrev pub Reads : (session : ℤ) → (path : Text) → Outcome → (old new : Nodes) → Type 0
Reads session path (Replied zxid (Read bytes stat)) old new = (old path ≡ true → stat.ephemeral_owner ≡ session) × AreFewer old new
Reads session path (Replied zxid NoNode) old new = (old path ≡ false) × AreFewer old new
Reads session path _ old new = AreFewer old new

-- What a server may do with the call that asks this, and answer; `call_asked` says which call that is.
abbrev pub ServesAsk : {A : Type 0} → (session : ℤ) → (dir : Text) → (front : Name) → Place A → Ask → Outcome → (old new : Nodes) → Type 0
ServesAsk session dir front place Enter outcome old new = Creates outcome old new
ServesAsk session dir front place Clear outcome old new = Deletes (path_asked dir place Clear) outcome old new
ServesAsk session dir front place Leave outcome old new = Deletes (path_asked dir place Leave) outcome old new
ServesAsk session dir front place Look outcome old new = Lists dir front outcome old new
ServesAsk session dir front place ListsAgain outcome old new = Lists dir front outcome old new
ServesAsk session dir front place ReadOwn outcome old new = Reads session (path_asked dir place ReadOwn) outcome old new
ServesAsk session dir front place _ outcome old new = AreFewer old new

abbrev pub ServesAsked : {A : Type 0} → (session : ℤ) → LockContender A → Option Ask → Outcome → (old new : Nodes) → Type 0
ServesAsked session contender None outcome old new = AreFewer old new
ServesAsked session contender (Some ask) outcome old new =
    ServesAsk session contender.directory (string_bytes contender.front) contender.place ask outcome old new

-- A contender, and which nodes of it are there.
pub record Stage (A : Type 0) : Type 0 where
  pub nodes : Nodes
  pub contender : LockContender A

-- What happens to a contender: a call is asked; its outcome is heard, or memory runs out with it; a report is noted; it is given up; news
-- is told; the session expires, or is closed.
pub data Moment : Type 0 where
  Asks : View → (now : ℕ) → Ask → Moment
  HearsOne : View → (now : ℕ) → Outcome → Moment
  Fails : View → Outcome → Moment
  Notes : Text → Event → Moment
  GivesUp Expires Closes : Moment
  Tells : LockStatus → Moment

-- The contender becomes this, by the contracts of its functions, and these nodes are there. A reported node is not.
abbrev pub Leads : {A : Type 0} → Stage A → Moment → Stage A → Type 0
Leads old (Asks view now ask) new =
    IsDue view now old.contender ask × (new.contender ≡ record (old.contender) { asked = Some ask }) × AreFewer old.nodes new.nodes
Leads old (HearsOne view now outcome) new =
    IsHeard view now outcome old.contender new.contender
    × ServesAsked view.saved.session.session old.contender old.contender.asked outcome old.nodes new.nodes
Leads old (Fails view outcome) new =
    (new.contender ≡ forgotten old.contender)
    × ServesAsked view.saved.session.session old.contender old.contender.asked outcome old.nodes new.nodes
Leads old (Notes path event) new =
    (new.contender ≡ noted path event old.contender) × (event ≡ Deleted → old.nodes path ≡ false) × AreFewer old.nodes new.nodes
Leads old GivesUp new = (new.contender ≡ given_up old.contender) × AreFewer old.nodes new.nodes
Leads old Expires new = (new.contender ≡ renewed old.contender) × AreNone new.nodes
Leads old Closes new = (new.contender ≡ closed old.contender) × AreNone new.nodes
Leads old (Tells stands) new = (new.contender ≡ record (old.contender) { told = stands }) × AreFewer old.nodes new.nodes

-- A contender at its beginning, of which no node is there, unless it is said that one may be.
abbrev pub Begins : {A : Type 0} → Stage A → Type 0
Begins stage = (dir : Text) × (naming : Naming) × (guid : Name) × (may_be_there : Bool)
    × IsFresh dir naming guid may_be_there stage.contender × (may_be_there ≡ false → AreNone stage.nodes)

-- Whatever was lost, once it is given up and asks no more no node of it is there.
abbrev pub NothingIsLeft : (A : Type 0) → Type 0
NothingIsLeft A = (first last : Stage A) (moments : List Moment) → Begins first → FoldsTo Leads first moments last
    → last.contender.place ≡ Left → AreNone last.nodes

-- While its place is known, each node of it that is there is that one.
abbrev pub OneIsThere : (A : Type 0) → Type 0
OneIsThere A = (first last : Stage A) (moments : List Moment) → Begins first → FoldsTo Leads first moments last
    → (own : Text) → own_of last.contender.place ≡ Some own → (path : Text) → last.nodes path ≡ true → path ≡ own

-- Given up, it asks still, or no node of it is there: where it rests, it has left.
abbrev pub GivenUpAsks : (A : Type 0) → Type 0
GivenUpAsks A = (first last : Stage A) (moments : List Moment) (view : View) (now : ℕ) → Begins first → FoldsTo Leads first moments last
    → last.contender.is_given_up ≡ true → IsAtRest view now last.contender → is_some last.contender.asked ≡ false
    → is_paused now last.contender.refused ≡ false → is_ready view ≡ true → AreNone last.nodes
