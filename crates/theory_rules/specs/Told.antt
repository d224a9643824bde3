-- What changes and parts of watches tell, in words of their own.
use Rattle.std.specs.Prelude.{ℕ, ℤ, negsuc, ◌≡◌, ◌<◌, ◌≤◌, ◌^◌, List, [], ◌∷◌, ◌++◌, length, Option, Some, None, ⊤, ◌⊎◌, if◌then◌else◌}
use Rattle.zk_jute.specs.Lenient.{or_empty}
use Rattle.zk_jute.specs.Spelling.{spelling, Fits}
use Rattle.zk_nodes.specs.Path.{Text, NodePath, text_of, path_of}
use Rattle.zk_nodes.specs.History.{Node, Tree, Change, Creates, Sets, Deletes}
use Rattle.zk_nodes.specs.declared.side.Side.{Side}
use Rattle.zk_nodes.specs.declared.side.Side.TheVariants.{Data, Child}
use Rattle.zk_records.specs.declared.event.Event.{Event}
use Rattle.zk_records.specs.declared.event.Event.TheVariants.{Created, Deleted, DataChanged, ChildrenChanged}
use Rattle.zk_records.specs.Events.{event_number}
use Rattle.zk_records.specs.Layouts.{reply_header, watcher_event}
use Rattle.zk_watches.specs.Lists.{Lists}
use Rattle.zk_turns.specs.Meaning.{Among}
use Rattle.zk_laws.specs.Server.{Notice, Watches}
use Rattle.theory_rules.specs.Next.{headed}

-- a watch that a change fires, and what its client is told
pub record Fired : Type 0 where
  pub side : Side
  pub path : NodePath
  pub event : Event

-- The watches that a change fires (Guide, "ZooKeeper Watches"): where a node is made, its data watch and the child watch of its
-- parent; where it is set, its data watch; where it is deleted, both of its own, and the child watch of its parent.
abbrev pub fired_by : Change → List Fired
fired_by (Creates (name ∷ above) content owner) =
    record { side = Data; path = name ∷ above; event = Created } ∷ record { side = Child; path = above; event = ChildrenChanged } ∷ []
fired_by (Sets path content) = record { side = Data; path = path; event = DataChanged } ∷ []
fired_by (Deletes (name ∷ above)) =
    record { side = Data; path = name ∷ above; event = Deleted }
    ∷ record { side = Child; path = name ∷ above; event = Deleted } ∷ record { side = Child; path = above; event = ChildrenChanged }
    ∷ []
fired_by _ = []

-- of these the ones that are set, as notices
abbrev pub notices_of : Watches → List Fired → List Notice
notices_of watches [] = []
notices_of watches (one ∷ more) =
    if watches one.side one.path
    then record { event = one.event; path = text_of one.path } ∷ notices_of watches more
    else notices_of watches more

-- the side of the path is among them
abbrev pub Fires : List Fired → Side → NodePath → Type 0
Fires fired side path = (event : Event) × Among (record { side = side; path = path; event = event }) fired

-- What setWatches tells of a listed path, by the tree where the server stands: a known path is gone, or was written since; one that
-- is known to be absent is there; a path with known children is gone, or its children changed since.
abbrev pub IsDue : ℕ → Tree → Lists → Event → Text → Type 0
IsDue relative tree part Created path = Among path part.exist_watches × (node : Node) × (tree (path_of path) ≡ Some node)
IsDue relative tree part Deleted path = (Among path part.data_watches ⊎ Among path part.child_watches) × (tree (path_of path) ≡ None)
IsDue relative tree part DataChanged path =
    Among path part.data_watches × (node : Node) × (tree (path_of path) ≡ Some node) × (relative < node.mzxid)
IsDue relative tree part ChildrenChanged path =
    Among path part.child_watches × (node : Node) × (tree (path_of path) ≡ Some node) × (relative < node.pzxid)

-- A listed path of which nothing is told, so that it is watched again.
abbrev pub IsSetAgain : ℕ → Tree → Lists → Side → Text → Type 0
IsSetAgain relative tree part Data path =
    (Among path part.data_watches × (node : Node) × (tree (path_of path) ≡ Some node)
    × (node.mzxid ≤ relative)) ⊎ (Among path part.exist_watches × (tree (path_of path) ≡ None))
IsSetAgain relative tree part Child path =
    Among path part.child_watches × (node : Node) × (tree (path_of path) ≡ Some node) × (node.pzxid ≤ relative)

-- A payload that spells the notice: with any zxid, code and state, and any bytes after.
pub record Tells (notice : Notice) (payload : List ℕ) : Type 0 where
  pub zxid : ℤ
  pub err : ℤ
  pub state : ℤ
  pub path : Option (List ℕ)
  pub ignored : List ℕ
  pub whole : payload ≡ headed (negsuc 0) zxid err (spelling watcher_event (event_number notice.event, (state, path)) ++ ignored)
  pub named : or_empty path ≡ notice.path
  pub header : Fits reply_header (negsuc 0, (zxid, err))
  pub event : Fits watcher_event (event_number notice.event, (state, path))
  pub small : length payload < 2 ^ 31

-- each payload spells its notice
abbrev pub AllTell : List Notice → List (List ℕ) → Type 0
AllTell [] [] = ⊤
AllTell (notice ∷ notices) (payload ∷ payloads) = Tells notice payload × AllTell notices payloads
AllTell _ _ = ⊥
