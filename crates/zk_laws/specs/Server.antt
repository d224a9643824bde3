-- A server on one connection: what its watches fire, what it answers, and what a setWatches request does.
use Rattle.zk_turns.specs.Past.{names_of}
use Rattle.zk_cache.specs.Kept.{Answer, Absent, Known, Full, Names}
use Rattle.std.specs.FinSet as set
use Rattle.zk_turns.specs.Meaning.{Among}
use Rattle.std.specs.Prelude.{ℕ, ℤ, pos, negsuc, ◌≡◌, ◌≢◌, ◌<◌, ◌≤◌, ◌+◌, nat_lt, Bool, true, false, ◌&&◌, ◌||◌, if◌then◌else◌, List, []}
use Rattle.std.specs.Prelude.{◌∷◌, ◌++◌, take, map, flat_map, Option, Some, None, ⊤, bytes_eq, is_some, not}
use Rattle.std.specs.List.{list_any}
use Rattle.std.specs.Ordering.{int_eq}
use mathlib.Core.List.{IsPrefix}
use Rattle.zk_nodes.specs.Path.{Text, Name, NodePath, path_eq, text_of, path_of}
use Rattle.zk_nodes.specs.History.{Node, Tree, Change, Creates, Sets, Deletes, Transaction, History, after, newest, View, Absence, Contents}
use Rattle.zk_nodes.specs.History.{Children, view}
use Rattle.zk_conversation.specs.Calls.{Call}
use Rattle.zk_conversation.specs.Calls as call
use Rattle.zk_nodes.specs.declared.side.Side.{Side}
use Rattle.zk_nodes.specs.declared.side.Side.TheVariants.{Data, Child}
use Rattle.zk_nodes.specs.DataStats.{data_stat_of}
use Rattle.zk_records.specs.declared.event.Event.{Event}
use Rattle.zk_records.specs.declared.event.Event.TheVariants.{Created, Deleted, DataChanged, ChildrenChanged}
use Rattle.zk_conversation.specs.Questions.{Question, Exists, GetData, GetChildren, question_of}
use Rattle.zk_conversation.specs.Results.{Result, NoNode, Refused, Found, Read, Listing, Made, Done}
use Rattle.zk_records.specs.Events.{event_number}
use Rattle.zk_watches.specs.Lists.{Lists}

-- Notices, and what they end (Guide, "Semantics of Watches")

-- A notice names its path by its text.
pub record Notice : Type 0 where
  pub event : Event
  pub path : Text

-- both the same
abbrev pub same_side : Side → Side → Bool
same_side Data Data = true
same_side Child Child = true
same_side _ _ = false

-- The watches of one connection: whether a path is watched on a side. They are set on this connection alone, and fire once.
abbrev pub Watches : Type 0
Watches = Side → NodePath → Bool

-- as a connection begins
abbrev pub no_watches : Watches
no_watches side path = false

-- with that one gone
abbrev pub without : Side → NodePath → Watches → Watches
without gone at watches side path = if same_side side gone && path_eq path at then false else watches side path

-- the notice, where there is a watch
abbrev pub told : Side → NodePath → Event → Watches → List Notice
told side path event watches = if watches side path then record { event = event; path = text_of path } ∷ [] else []

-- What a change fires: a created, set or deleted path its own watches, a created or deleted one also the child watch of its
-- parent. A deleted path tells each of its two sides.
abbrev pub fires : Change → Watches → List Notice
fires (Creates (name ∷ path) content owner) watches = told Data (name ∷ path) Created watches ++ told Child path ChildrenChanged watches
fires (Sets path content) watches = told Data path DataChanged watches
fires (Deletes (name ∷ path)) watches =
    told Data (name ∷ path) Deleted watches ++ told Child (name ∷ path) Deleted watches ++ told Child path ChildrenChanged watches
fires _ watches = []

-- the watches that a change leaves
abbrev pub leaves_set : Change → Watches → Watches
leaves_set (Creates (name ∷ path) content owner) watches = without Child path (without Data (name ∷ path) watches)
leaves_set (Sets path content) watches = without Data path watches
leaves_set (Deletes (name ∷ path)) watches = without Child path (without Child (name ∷ path) (without Data (name ∷ path) watches))
leaves_set _ watches = watches

-- The changes of a transaction are gone through in order: a watch that fires is gone for the later ones.
abbrev pub fires_all : List Change → Watches → List Notice
fires_all [] watches = []
fires_all (change ∷ changes) watches = fires change watches ++ fires_all changes (leaves_set change watches)

-- the watches that these changes leave
abbrev pub leaves_set_all : List Change → Watches → Watches
leaves_set_all [] watches = watches
leaves_set_all (change ∷ changes) watches = leaves_set_all changes (leaves_set change watches)

-- how often the notice is in the list
abbrev pub times : Notice → List Notice → ℕ
times notice [] = 0
times notice (one ∷ more) =
    (if int_eq (event_number notice.event) (event_number one.event) && bytes_eq notice.path one.path then 1 else 0) + times notice more

-- What is fired is sent in any order. What two sides fire alike, a deletion, is sent once or twice.
abbrev pub AreSent : List Notice → List Notice → Type 0
AreSent fired sent = (notice : Notice) → (times notice sent ≤ times notice fired) × (0 < times notice fired → 0 < times notice sent)

-- Questions and results

-- The watches that a reply sets (Guide, "ZooKeeper Watches"): exists in any case, getData and getChildren where the node is there.
abbrev pub sets : Question → Result → Watches
sets (Exists asked true) NoNode Data path = path_eq path (path_of asked)
sets (Exists asked true) (Found stat) Data path = path_eq path (path_of asked)
sets (GetData asked true) (Read bytes stat) Data path = path_eq path (path_of asked)
sets (GetChildren asked true) (Listing names stat) Child path = path_eq path (path_of asked)
sets _ _ _ _ = false

-- The answer about a node is what there is to see: Known says the seven fields alone.
abbrev pub Fits : Answer → View → Type 0
Fits Absent Absence = ⊤
Fits (Known fields) (Contents content seen) = fields ≡ seen
Fits (Full bytes fields) (Contents content seen) = (bytes ≡ content) × (fields ≡ seen)
Fits _ _ = ⊥

-- The names are those of the children that there are to see, as a set.
abbrev pub FitsNames : Names → View → Type 0
FitsNames names (Children present seen) = (names.pzxid ≡ seen) × ((name : Name) → set.contains names.names name ≡ present name)
FitsNames names _ = ⊥

-- What a read is answered with 0 or -101 is what there is to see in the tree.
abbrev pub Reads : Tree → Question → Result → Type 0
Reads tree (Exists path watch) NoNode = Fits Absent (view Data tree (path_of path))
Reads tree (Exists path watch) (Found stat) = Fits (Known (data_stat_of stat)) (view Data tree (path_of path))
Reads tree (GetData path watch) NoNode = Fits Absent (view Data tree (path_of path))
Reads tree (GetData path watch) (Read bytes stat) = Fits (Full bytes (data_stat_of stat)) (view Data tree (path_of path))
Reads tree (GetChildren path watch) NoNode = Fits Absent (view Child tree (path_of path))
Reads tree (GetChildren path watch) (Listing names stat) =
    FitsNames (names_of names stat) (view Child tree (path_of path)) × Fits (Known (data_stat_of stat)) (view Data tree (path_of path))
Reads tree _ _ = ⊤

-- a code that is neither 0 nor -101
abbrev pub IsOther : ℤ → Type 0
IsOther code = (code ≢ pos 0) × (code ≢ negsuc 100)

-- a refusal has another code
abbrev pub HasCode : Result → Type 0
HasCode (Refused code) = IsOther code
HasCode _ = Unit {0}

-- where the server stands, it holds a beginning of the history
abbrev pub held : History → ℕ → List Transaction
held h place = take place h.transactions

-- the tree there, and the zxid of the last transaction, 0 before any
abbrev pub tree_held : History → ℕ → Tree
tree_held h place = after (held h place) h.first

-- its last processed zxid
abbrev pub zxid_held : History → ℕ → ℕ
zxid_held h place = newest 0 (held h place)

-- the change is one of the last of these transactions
abbrev pub LastHolds : Change → List Transaction → Type 0
LastHolds change transactions =
    (earlier : List Transaction) × (last : Transaction) × (transactions ≡ earlier ++ last ∷ []) × Among change last.changes

-- the modes 2 and 3 are sequential
abbrev pub is_sequential : ℕ → Bool
is_sequential mode = nat_lt 1 mode

-- the path that a create makes: a sequential one begins with the path that was asked for
abbrev pub IsMadeOf : Text → Bool → Text → Type 0
IsMadeOf asked false at = at ≡ asked
IsMadeOf asked true at = IsPrefix asked at

-- The answer of a server that stands at place, processing the call whole between two transactions. A read is answered
-- from the tree there. A write that succeeds is a change of the last transaction. Of a result of another kind than the call's
-- nothing is said, since no payload spells it (`HasResult`).
abbrev pub Gives : History → ℕ → Call → Result → Type 0
Gives h place (call.SetData path content version) (Found stat) = LastHolds (Sets (path_of path) content) (held h place)
    × Fits (Known (data_stat_of stat)) (view Data (tree_held h place) (path_of path))
Gives h place (call.Create path content mode) (Made at) =
    (owner : ℤ) × IsMadeOf path (is_sequential mode) at × LastHolds (Creates (path_of at) content owner) (held h place)
Gives h place (call.Delete path version) Done = LastHolds (Deletes (path_of path)) (held h place)
Gives h place asked (Refused code) = IsOther code
Gives h place asked result = Reads (tree_held h place) (question_of asked) result

-- Setting watches again after a reconnect (zookeeper.jute, SetWatches; Guide, "What ZooKeeper Guarantees about Watches")

-- A listed path is told about where it differs, by an event, and watched again where it does not.

-- a path whose data are known: it is gone, or was written since, or is as it was
abbrev pub known_check : ℕ → Option Node → Option Event
known_check relative None = Some Deleted
known_check relative (Some node) = if nat_lt relative node.mzxid then Some DataChanged else None

-- a path that is known to be absent: it still is, or it is there
abbrev pub missing_check : Option Node → Option Event
missing_check None = None
missing_check (Some node) = Some Created

-- a path whose children are known: it is gone, or they changed since, or they are as they were
abbrev pub parent_check : ℕ → Option Node → Option Event
parent_check relative None = Some Deleted
parent_check relative (Some node) = if nat_lt relative node.pzxid then Some ChildrenChanged else None

-- the notice of a check
abbrev pub tells : Text → Option Event → List Notice
tells path None = []
tells path (Some event) = record { event = event; path = path } ∷ []

-- what the part makes the server tell, in the tree where it stands
abbrev pub part_tells : ℕ → Tree → Lists → List Notice
part_tells relative tree part =
    flat_map (λ path. tells path (known_check relative (tree (path_of path)))) part.data_watches
    ++ flat_map (λ path. tells path (missing_check (tree (path_of path)))) part.exist_watches
    ++ flat_map (λ path. tells path (parent_check relative (tree (path_of path)))) part.child_watches

-- which watches the part sets
abbrev pub part_sets : ℕ → Tree → Lists → Watches
part_sets relative tree part Data path =
    (list_any (path_eq path) (map path_of part.data_watches) && not (is_some (known_check relative (tree path))))
    || (list_any (path_eq path) (map path_of part.exist_watches) && not (is_some (missing_check (tree path))))
part_sets relative tree part Child path =
    list_any (path_eq path) (map path_of part.child_watches) && not (is_some (parent_check relative (tree path)))

-- these watches and those
abbrev pub both : Watches → Watches → Watches
both some more side path = some side path || more side path
