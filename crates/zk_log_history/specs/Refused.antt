-- When entries are transactions, and why they are none.
use Rattle.std.specs.Prelude.{ℤ, pos, ◌≡◌, ◌≤ℤ◌, ◌<ℤ◌, ◌⊎◌, true, false, List, [], ◌∷◌, Option, Some, None, Result, Ok, Err}
use Rattle.std.specs.Prelude.{if◌then◌else◌, ⊤}
use Rattle.std.specs.List.{list_any}
use Rattle.std.specs.Option.{option_map}
use Rattle.zk_jute.specs.Layout.{Value}
use Rattle.zk_jute.specs.Lenient.{or_empty}
use Rattle.zk_nodes.specs.Path.{Text}
use Rattle.zk_nodes.specs.PathFault.{fault_of}
use Rattle.zk_nodes.specs.History.{Change, newest}
use Rattle.zk_history.specs.HistoryView.{HistoryView, IsAccepted, natural, newest_tree, with_change}
use Rattle.zk_log.specs.declared.entry_fault.EntryFault.{EntryFault}
use Rattle.zk_log.specs.declared.kind.TxnKind.{TxnKind}
use Rattle.zk_log.specs.declared.kind.TxnKind.TheVariants.{Create, Create2, CreateContainer, CreateTtl, Delete}
use Rattle.zk_log.specs.declared.kind.TxnKind.TheVariants.{DeleteContainer, Set, Reconfig, Multi, CloseSession}
use Rattle.zk_log.specs.Kinds.{fields, part}
use Rattle.zk_log.specs.Parts.{Operation, part_at}
use Rattle.zk_log.specs.Format.{Logged}
use Rattle.zk_log.specs.Reading.{Placed}
use Rattle.zk_log.specs.Following.{is_failed}
use Rattle.zk_log_history.specs.Following.{begun, comes_next, entry_changes, transaction_of, with_whole}
use Rattle.zk_log_history.specs.declared.untold.Untold.{Untold}
use Rattle.zk_log_history.specs.declared.untold.UntoldEntry.{UntoldEntry}
use Rattle.zk_log_history.specs.declared.untold.Untold.TheVariants as untold

-- ---- what cannot be read

-- the fault of a path as it is logged; null is the empty text
abbrev pub path_fault : Option Text → Option Untold
path_fault path = option_map untold.Path (fault_of (or_empty path))

-- the fault of the path of an operation that makes a change
abbrev pub operation_fault : (kind : TxnKind) → Value (fields kind) → Option Untold
operation_fault Create body = path_fault body.0
operation_fault Create2 body = path_fault body.0
operation_fault CreateContainer body = path_fault body.0
operation_fault CreateTtl body = path_fault body.0
operation_fault Delete body = path_fault body
operation_fault DeleteContainer body = path_fault body
operation_fault Set body = path_fault body.0
operation_fault Reconfig body = path_fault body.0
operation_fault kind body = None

abbrev pub read_fault : Result Operation EntryFault → Option Untold
read_fault (Ok operation) = operation_fault operation.kind operation.body
read_fault (Err fault) = Some (untold.Part fault)

abbrev pub part_fault : Value part → Option Untold
part_fault one = read_fault (part_at one.0 (or_empty one.1))

abbrev pub earlier : Option Untold → Option Untold → Option Untold
earlier (Some fault) later = Some fault
earlier None later = later

abbrev pub first_fault : {X : Type 0} → (X → Option Untold) → List X → Option Untold
first_fault fault [] = None
first_fault fault (x ∷ xs) = earlier (fault x) (first_fault fault xs)

-- where a part has failed none is looked at
abbrev pub parts_fault : List (Value part) → Option Untold
parts_fault parts = if list_any is_failed parts then None else first_fault part_fault parts

-- The first fault of the paths and parts of an entry, if one has any.
abbrev pub entry_fault : (kind : TxnKind) → Value (fields kind) → Option Untold
entry_fault Multi body = parts_fault (or_empty body)
entry_fault CloseSession body = first_fault path_fault (or_empty body)
entry_fault kind body = operation_fault kind body

-- ---- what the tree does not admit

-- Each of these changes is one that the history takes after those before it.
abbrev pub AreTaken : HistoryView → List Change → Type 0
AreTaken kept [] = ⊤
AreTaken kept (change ∷ changes) = IsAccepted change (newest_tree kept) × AreTaken (with_change kept change) changes

-- ---- entries

-- this zxid is above all
abbrev pub IsLater : HistoryView → ℤ → Type 0
IsLater kept zxid = pos (newest 0 kept.transactions) <ℤ zxid

-- the changes of an entry, after its transaction is begun
abbrev pub changes_of : HistoryView → Logged → List Change
changes_of kept entry = entry_changes entry.session (begun kept entry) entry.kind entry.body

-- An entry is a transaction after the history that is kept: its zxid is above, none is missing before it, it can be read, and each change
-- is one that a history takes.
abbrev pub IsTold : HistoryView → Logged → Type 0
IsTold kept entry = IsLater kept entry.zxid × (comes_next (newest 0 kept.transactions) (natural entry.zxid) ≡ true)
    × (entry_fault entry.kind entry.body ≡ None) × AreTaken (begun kept entry) (changes_of kept entry)

-- It is none, and why. Of memory nothing is said.
abbrev pub IsUntold : HistoryView → Logged → Untold → Type 0
IsUntold kept entry (untold.Path why) = entry_fault entry.kind entry.body ≡ Some (untold.Path why)
IsUntold kept entry (untold.Part why) = entry_fault entry.kind entry.body ≡ Some (untold.Part why)
IsUntold kept entry untold.Order = entry.zxid ≤ℤ pos (newest 0 kept.transactions)
IsUntold kept entry untold.Missing =
    IsLater kept entry.zxid × (comes_next (newest 0 kept.transactions) (natural entry.zxid) ≡ false)
IsUntold kept entry untold.Illegal = ¬ AreTaken (begun kept entry) (changes_of kept entry)
IsUntold kept entry untold.Memory = ⊤

-- Each of these entries is a transaction after those before it.
abbrev pub AreTold : HistoryView → List Logged → Type 0
AreTold kept [] = ⊤
AreTold kept (entry ∷ entries) = IsTold kept entry × AreTold (with_whole kept (transaction_of kept entry)) entries

-- This is the first of these entries that is none, by the place of its record, and why.
abbrev pub StopsAt : HistoryView → List Placed → UntoldEntry → Type 0
StopsAt kept [] fault = ⊥
StopsAt kept (one ∷ more) fault = ((one.place ≡ fault.place) × IsUntold kept one.entry fault.why)
    ⊎ (IsTold kept one.entry × StopsAt (with_whole kept (transaction_of kept one.entry)) more fault)
