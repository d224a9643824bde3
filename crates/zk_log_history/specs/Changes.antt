-- The changes of operations, and of the ends of sessions.
use Rattle.std.specs.Prelude.{ℤ, pos, Bool, false, ◌&&◌, not, List, [], ◌∷◌, ◌++◌, map, Option}
use Rattle.std.specs.Prelude.{Some, None, is_some, if◌then◌else◌, Result, Ok, Err}
use Rattle.std.specs.List.{list_any}
use Rattle.std.specs.Ordering.{int_eq}
use Rattle.zk_jute.specs.Layout.{Value}
use Rattle.zk_jute.specs.Lenient.{or_empty}
use Rattle.zk_nodes.specs.Path.{Text, NodePath, path_of}
use Rattle.zk_nodes.specs.History.{Node, Change, Creates, Sets, Deletes, Transaction}
use Rattle.zk_history.specs.HistoryView.{HistoryView, newest_tree, with_change}
use Rattle.zk_log.specs.declared.entry_fault.EntryFault.{EntryFault}
use Rattle.zk_log.specs.declared.kind.TxnKind.{TxnKind}
use Rattle.zk_log.specs.declared.kind.TxnKind.TheVariants.{Create, Create2, CreateContainer, CreateTtl, Delete}
use Rattle.zk_log.specs.declared.kind.TxnKind.TheVariants.{DeleteContainer, Set, Reconfig}
use Rattle.zk_log.specs.Kinds.{fields, part}
use Rattle.zk_log.specs.Parts.{Operation, part_at}
use Rattle.zk_log.specs.Following.{is_failed}

-- a path as it is logged; null is no path
abbrev pub named : Option Text → NodePath
named path = path_of (or_empty path)

abbrev pub created : ℤ → Option Text → Option Text → Option Change
created owner path content = Some (Creates (named path) content owner)

-- The change that an operation makes, if it makes one: an ephemeral node is its session's, and another is nobody's.
abbrev pub operation_change : ℤ → (kind : TxnKind) → Value (fields kind) → Option Change
operation_change session Create body = created (if body.1.1.1.0 then session else pos 0) body.0 body.1.0
operation_change session Create2 body = created (if body.1.1.1.0 then session else pos 0) body.0 body.1.0
operation_change session CreateContainer body = created (pos 0) body.0 body.1.0
operation_change session CreateTtl body = created (pos 0) body.0 body.1.0
operation_change session Delete body = Some (Deletes (named body))
operation_change session DeleteContainer body = Some (Deletes (named body))
operation_change session Set body = Some (Sets (named body.0) body.1.0)
operation_change session Reconfig body = Some (Sets (named body.0) body.1.0)
operation_change session kind body = None

abbrev pub listed : Option Change → List Change
listed None = []
listed (Some change) = change ∷ []

-- ---- a multi

abbrev pub read_changes : ℤ → Result Operation EntryFault → List Change
read_changes session (Ok operation) = listed (operation_change session operation.kind operation.body)
read_changes session (Err fault) = []

abbrev pub part_changes : ℤ → Value part → List Change
part_changes session one = read_changes session (part_at one.0 (or_empty one.1))

abbrev pub all_changes : ℤ → List (Value part) → List Change
all_changes session [] = []
all_changes session (one ∷ parts) = part_changes session one ++ all_changes session parts

-- the changes of all parts in order, or none where a part has failed
abbrev pub parts_changes : ℤ → List (Value part) → List Change
parts_changes session parts = if list_any is_failed parts then [] else all_changes session parts

-- ---- the end of a session

-- these changes, one after another
abbrev pub with_changes : HistoryView → List Change → HistoryView
with_changes kept [] = kept
with_changes kept (change ∷ changes) = with_changes (with_change kept change) changes

-- 0 is no session
abbrev pub is_owner : ℤ → ℤ → Bool
is_owner session owner = not (int_eq session (pos 0)) && int_eq owner session

-- a node that is there and this session's
abbrev pub is_owned : ℤ → Option Node → Bool
is_owned session None = false
is_owned session (Some node) = is_owner session node.owner

-- the paths at which a session made nodes of its own by these changes
abbrev pub made_by : ℤ → List Change → List NodePath
made_by session [] = []
made_by session (Creates path content owner ∷ changes) =
    if is_owner session owner then path ∷ made_by session changes else made_by session changes
made_by session (Sets path content ∷ changes) = made_by session changes
made_by session (Deletes path ∷ changes) = made_by session changes

abbrev pub made_in : ℤ → List Transaction → List NodePath
made_in session [] = []
made_in session (one ∷ more) = made_by session one.changes ++ made_in session more

-- the deletions of those of these nodes that are due when their turn comes
abbrev pub deletions : (Option Node → Bool) → HistoryView → List NodePath → List Change
deletions due kept [] = []
deletions due kept (path ∷ paths) =
    if due (newest_tree kept path) then Deletes path ∷ deletions due (with_change kept (Deletes path)) paths else deletions due kept paths

abbrev pub then_owned : ℤ → HistoryView → List Change → List Change
then_owned session kept told =
    told ++ deletions (is_owned session) (with_changes kept told) (made_in session (with_changes kept told).transactions)

-- The end of a session deletes the nodes at the paths that it tells, as far as they are there, and those that are the session's still.
abbrev pub close_changes : ℤ → List (Option Text) → HistoryView → List Change
close_changes session paths kept = then_owned session kept (deletions is_some kept (map named paths))
