-- What is printed of a tree: which answers, in which order, make which lines.
use Rattle.std.specs.Prelude.{◌≡◌, ◌≢◌, ◌≤◌, ◌<◌, ◌⊎◌, ◌+◌, ◌-◌, ◌^◌, ℕ, suc, true, false, if◌then◌else◌}
use Rattle.std.specs.Prelude.{nat_lt, List, [], ◌∷◌, ◌++◌, length}
use Rattle.std.specs.Prelude.{map, min, Contains, None, codes}
use Rattle.std.specs.Fmt.{decimal}
use Rattle.std.specs.FinSet as set
use Rattle.std.specs.List.{flat_map}
use Rattle.zk_link.specs.FarEnds.{FarEnd}
use Rattle.zk_nodes.specs.Names.{Names as NameSet}
use Rattle.zk_nodes.specs.Path.{Text, child_text}
use Rattle.zk_nodes.specs.PathFault.{child_fault}
use Rattle.zk_conversation.specs.Calls.{Call, GetChildren}
use Rattle.zk_conversation.specs.Results.{Result, Listing}
use Rattle.zk_turns.specs.Turns.{Outcome, Replied, new_start}
use Rattle.zk_turns.specs.View.{view_at}
use Rattle.zk_client.specs.Clients.{view_of}
use Rattle.zk_driver.specs.Driving.{closed}
use Rattle.zk_driver.specs.Flowing.{Flow, Runs}
use Rattle.script_words.specs.Values.{AreNames}
use Rattle.shell_ask.specs.declared.end.CallEnd.{CallEnd}
use Rattle.shell_ask.specs.declared.end.CallEnd.TheVariants as ends
use Rattle.shell_ask.specs.declared.plan.Form.{Form}
use Rattle.shell_ask.specs.declared.plan.Form.TheVariants as form
use Rattle.shell_ask.specs.declared.plan.TreePlan.{TreePlan}
use Rattle.shell_ask.specs.declared.walk.Bounds.{Bounds}
use Rattle.shell_ask.specs.declared.walk.Ending.TheVariants as reached
use Rattle.shell_ask.specs.Asking.{Coming, Answered, Heard}
use Rattle.shell_ask.specs.Printing.{end_of, fault_line, name_line, text_line, told}

-- ---- what is asked for

-- The root by its path and by its path below the chroot, how many levels below it are gone through, how many nodes are printed at most, and
-- how long the walk may wait.
pub record Scope : Type 0 where
  pub path : Text
  pub name : Text
  pub deepest : ℕ
  pub most : ℕ
  pub wait_ms : ℕ

abbrev pub scope_of : {A : Type 0} → TreePlan A → Scope
scope_of plan = record { path = plan.path; name = plan.name; deepest = plan.deepest; most = plan.most; wait_ms = plan.wait_ms }

-- ---- nodes

-- A node of a tree: how many levels it lies below the tree's root, its path, and its path below the chroot.
pub record Spot : Type 0 where
  pub depth : ℕ
  pub path : Text
  pub name : Text

abbrev pub root_of : Scope → Spot
root_of scope = record { depth = 0; path = scope.path; name = scope.name }

abbrev pub child_of : Spot → Text → Spot
child_of spot name = record { depth = suc spot.depth; path = child_text spot.path name; name = child_text spot.name name }

-- A node with this name below it would have no path.
abbrev pub HasNoPath : Spot → Text → Type 0
HasNoPath spot name = (child_fault spot.path name ≢ None) ⊎ (child_fault spot.name name ≢ None)

-- the call that lists a node
abbrev pub listing_of : Spot → Call
listing_of spot = GetChildren spot.path false

-- The root is listed, and each node that does not lie at the greatest depth.
abbrev pub IsListed : (deepest : ℕ) → Spot → Type 0
IsListed deepest spot = (spot.depth ≡ 0) ⊎ (spot.depth < deepest)

-- ---- answers

-- the names that a result lists
abbrev pub listed : Result → List Text
listed (Listing names stat) = names
listed _ = []

abbrev pub outcome_names : Outcome → List Text
outcome_names (Replied zxid result) = listed result
outcome_names _ = []

abbrev pub names_in : Coming → List Text
names_in (Answered outcome) = outcome_names outcome
names_in _ = []

-- the names of the nodes below a node that are gone through
abbrev pub names_within : (deepest : ℕ) → Spot → Coming → List Text
names_within deepest spot coming = if nat_lt spot.depth deepest then names_in coming else []

abbrev pub name_set : List Text → NameSet
name_set names = set.from_list names

-- These are names of nodes, each once, in the order of their bytes.
abbrev pub AreInOrder : (each names : List Text) → Type 0
AreInOrder each names = AreNames each (set.contains (name_set names))

-- there is such a node no more
abbrev pub IsGone : Spot → Coming → Type 0
IsGone spot coming = (end_of coming ≡ ends.NoNode) × (spot.depth ≢ 0)

-- ---- a walk

-- How far a walk has come: how far the driver has, byte by byte, the nodes that wait, the next one first, and what is printed by then.
pub record Stage (A : Type 0) (far : FarEnd) : Type 0 where
  pub flow : Flow A far
  pub waiting : List Spot
  pub printed : List Text

abbrev pub Becomes : {A : Type 0} {far : FarEnd} → Stage A far → (flow : Flow A far) (waiting : List Spot) (printed : List Text) → Type 0
Becomes new flow waiting printed = (new.flow ≡ flow) × (new.waiting ≡ waiting) × (new.printed ≡ printed)

-- This node is the next one, and it may be printed.
pub record IsNext {A : Type 0} {far : FarEnd} (bounds : Bounds) (old : Stage A far) (spot : Spot) (rest : List Spot) : Type 0 where
  pub next : old.waiting ≡ spot ∷ rest
  pub room : length old.printed < bounds.most

-- It is listed by a call that waits to the walk's limit, and this comes of it. Byte by byte that is a run of the driver.
pub record IsHeard {A : Type 0} {far : FarEnd} (bounds : Bounds) (old : Stage A far) (spot : Spot) (rest : List Spot) (coming : Coming)
    (last : Flow A far) : Type 0 where
  pub next : IsNext bounds old spot rest
  pub listed : IsListed bounds.deepest spot
  pub heard : Heard (listing_of spot) bounds.until old.flow.course coming last.course
  pub runs : Runs old.flow last

-- A node at the greatest depth is printed. Any other is listed first, and printed: those below it are next, in the order of their names.
-- One that is gone by then is left out, unless it is the root.
pub data Steps {A : Type 0} {far : FarEnd} (bounds : Bounds) (old new : Stage A far) : Type 0 where
  prints_leaf : (spot : Spot) (rest : List Spot) → IsNext bounds old spot rest → (IsListed bounds.deepest spot → ⊥)
      → Becomes new old.flow rest (old.printed ++ spot.name ∷ []) → Steps bounds old new
  prints_node : (spot : Spot) (rest : List Spot) (coming : Coming) (last : Flow A far) (each : List Text)
      → IsHeard bounds old spot rest coming last
      → end_of coming ≡ ends.Done → AreInOrder each (names_within bounds.deepest spot coming)
      → Becomes new last (map (child_of spot) each ++ rest) (old.printed ++ spot.name ∷ []) → Steps bounds old new
  leaves_out : (spot : Spot) (rest : List Spot) (coming : Coming) (last : Flow A far)
      → IsHeard bounds old spot rest coming last → IsGone spot coming
      → Becomes new last rest old.printed → Steps bounds old new

-- It takes steps, one after the other.
pub data Reaches {A : Type 0} {far : FarEnd} (bounds : Bounds) (start : Stage A far) : Stage A far → Type 0 where
  begins : Reaches bounds start start
  steps : (old new : Stage A far) → Reaches bounds start old → Steps bounds old new → Reaches bounds start new

-- How a walk ends: all is printed; as many nodes as may be are printed, and there are more; a node could not be listed; or one below it has
-- a name that no path has.
pub data Ending : Type 0 where
  Whole : Ending
  Full : Ending
  Stopped : (name : Text) → Coming → Ending
  Misnamed : (name : Text) → Ending

pub record StopsAt {A : Type 0} {far : FarEnd} (bounds : Bounds) (last : Stage A far) (name : Text) (coming : Coming) : Type 0 where
  pub spot : Spot
  pub rest : List Spot
  pub flow : Flow A far
  pub heard : IsHeard bounds last spot rest coming flow
  pub undone : end_of coming ≢ ends.Done
  pub stays : IsGone spot coming → ⊥
  pub named : name ≡ spot.name

pub record IsMisnamedAt {A : Type 0} {far : FarEnd} (bounds : Bounds) (last : Stage A far) (name : Text) : Type 0 where
  pub spot : Spot
  pub rest : List Spot
  pub coming : Coming
  pub flow : Flow A far
  pub each : List Text
  pub child : Text
  pub heard : IsHeard bounds last spot rest coming flow
  pub done : end_of coming ≡ ends.Done
  pub listed : AreInOrder each (names_within bounds.deepest spot coming)
  pub contains : Contains each child
  pub pathless : HasNoPath spot child
  pub named : name ≡ spot.name

abbrev pub EndsAt : {A : Type 0} {far : FarEnd} → Bounds → Stage A far → Ending → Type 0
EndsAt bounds last Whole = last.waiting ≡ []
EndsAt bounds last Full = (last.waiting ≢ []) × (bounds.most ≤ length last.printed)
EndsAt bounds last (Stopped name coming) = StopsAt bounds last name coming
EndsAt bounds last (Misnamed name) = IsMisnamedAt bounds last name

-- A driver walks so from the root on, and its calls wait to this moment.
pub record WalksFrom {A : Type 0} {far : FarEnd} (start : Flow A far) (until : ℕ) (scope : Scope) (ending : Ending)
    (printed : List Text) : Type 0 where
  pub bounds : Bounds
  pub deepest : bounds.deepest ≡ scope.deepest
  pub most : bounds.most ≡ scope.most
  pub until_is : bounds.until ≡ until
  pub last : Stage A far
  pub reaches : Reaches bounds (record { flow = start; waiting = root_of scope ∷ []; printed = [] }) last
  pub ends : EndsAt bounds last ending
  pub prints : printed ≡ last.printed

-- So does a driver with a new session, which has no connection yet. All its calls wait to one moment, which comes as long after another
-- one, `from`, as the whole walk may wait.
pub record Tours (A : Type 0) (far : FarEnd) (scope : Scope) (ending : Ending) (printed : List Text) : Type 0 where
  pub timeout : ℕ
  pub start : Flow A far
  pub begins : view_of start.course.agent.asker.follower.client ≡ view_at (new_start timeout) []
  pub parted : start.course.channel ≡ closed
  pub untold : start.course.told ≡ []
  pub from : ℕ
  pub walks : WalksFrom start (min (from + scope.wait_ms) (2 ^ 64 - 1)) scope ending printed

-- ---- what follows byte by byte

-- A walk is a run of its driver, up to each place that it reaches.
abbrev pub WalksRun : Type 0 → FarEnd → Type 0
WalksRun A far = (bounds : Bounds) (start last : Stage A far) → Reaches bounds start last → Runs start.flow last.flow

-- ---- what is printed and told of it

abbrev pub tree_line : Form → Text → List ℕ
tree_line form.Json name = text_line (codes "path") name
tree_line _ name = name_line name

-- a line for each node, in the order of the walk
abbrev pub tree_text : Form → List Text → List ℕ
tree_text form printed = flat_map (tree_line form) printed

abbrev pub most_words : ℕ → List ℕ
most_words most = decimal most ++ codes " nodes are printed, and there are more"

-- what is told of a walk from a root of this name that prints this many nodes at most
abbrev pub ending_told : (name : Text) (most : ℕ) → Ending → List ℕ
ending_told root most Whole = []
ending_told root most Full = fault_line (codes "cut off: ") root (most_words most)
ending_told root most (Stopped name coming) = told true name coming
ending_told root most (Misnamed name) = fault_line (codes "refused: ") name (codes "a node below it has a name that no path has")

abbrev pub ending_end : Ending → CallEnd
ending_end Whole = ends.Done
ending_end Full = ends.More
ending_end (Stopped name coming) = end_of coming
ending_end (Misnamed name) = ends.Refused
