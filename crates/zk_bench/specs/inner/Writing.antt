-- What contracts of private functions say: nobody has to believe it.
use Rattle.std.specs.Prelude.{ℕ, ℤ, pos, negsuc, ◌-◌, ◌==◌, ◌≡◌, nat_lt, nat_le, Bool, true, false, ◌||◌, not, if◌then◌else◌, List, []}
use Rattle.std.specs.Prelude.{◌∷◌, ◌++◌, length, replicate, sum_by, count_by, Option, Some, None, option_map, ⊤, bytes_eq, int_lt}
use Rattle.std.specs.Fmt.{decimal}
use Rattle.std.specs.Ordering.{int_eq}
use Rattle.zk_nodes.specs.Path.{Text, NodePath, path_of}
use Rattle.zk_nodes.specs.inner.Path.{is_below}
use Rattle.zk_nodes.specs.History.{Node, Tree, Change, Creates, Transaction, newest, tree_at}
use Rattle.zk_nodes.specs.Names.{Names}
use Rattle.zk_history.specs.Shown.{stat_of}
use Rattle.zk_nodes.specs.declared.stat.Stat.{Stat}
use Rattle.zk_nodes.specs.PathFault.{fault_of}
use Rattle.zk_nodes.specs.declared.path_fault.PathFault.{PathFault}
use Rattle.zk_history.specs.HistoryView.{HistoryView, HasChildren, IsAccepted, history_of, natural}
use Rattle.zk_history.specs.HistoryView.{newest_tree}
use Rattle.zk_history.specs.declared.history_fault.HistoryFault.{HistoryFault}
use Rattle.zk_history.specs.declared.history_fault.HistoryFault.TheVariants.{Place, Order, Illegal, Memory}
use Rattle.zk_records.specs.declared.code.Code.{Code}
use Rattle.zk_bench.specs.declared.stop.Refusal.{Refusal}
use Rattle.std.specs.FinSet as set
use Rattle.zk_records.specs.declared.code.Code.TheVariants as codes
use Rattle.zk_bench.specs.declared.stop.Stop.TheVariants as stops
use Rattle.zk_bench.specs.declared.stop.Refusal.TheVariants as refusals

-- The flags of a create: whether the node is ephemeral, and whether it is sequential. There are no others.
abbrev pub mode_of : ℤ → Option (Bool × Bool)
mode_of (pos n) =
    if n == 0 then Some (false, false)
    else if n == 1 then Some (true, false)
    else if n == 2 then Some (false, true)
    else if n == 3 then Some (true, true)
    else None
mode_of (negsuc n) = None

-- the session that owns a node: this one an ephemeral one, and none another
abbrev pub owner_of : (session : ℤ) → Bool → ℤ
owner_of session true = session
owner_of session false = pos 0

-- Where writes are made

-- the tree of a history after the transactions up to a zxid
abbrev pub tree_of : HistoryView → ℤ → Tree
tree_of kept zxid = tree_at (history_of kept) (natural zxid)

-- the text, if it has no fault
abbrev pub text_unless : Option PathFault → Text → Option Text
text_unless None text = Some text
text_unless (Some fault) text = None

-- the text, if it is that of a path
abbrev pub path_told : Text → Option Text
path_told text = text_unless (fault_of text) text

-- the node at the text of a path, if there is one
abbrev pub node_of : Tree → Option Text → Option Node
node_of tree None = None
node_of tree (Some text) = tree (path_of text)

-- the node at a text, and none where it is that of no path
abbrev pub node_at : Tree → Text → Option Node
node_at tree text = node_of tree (path_told text)

-- The Stat of the node at a text, or none where no node is there.
abbrev pub IsStatAt : Tree → Text → Option Stat → Type 0
IsStatAt tree text told =
    (names : Names) × HasChildren tree (path_of text) names × (told ≡ option_map (stat_of (set.len names)) (node_at tree text))

-- Which writes are refused, and with which code

-- A refusal is a stop, or a code that has a name.
abbrev pub IsAnswer : Refusal → Type 0
IsAnswer (refusals.Code (codes.Other number)) = ⊥
IsAnswer refusal = ⊤

-- The refusal is this code, or memory ran out.
abbrev pub IsRefusedWith : Option Code → Refusal → Type 0
IsRefusedWith code (refusals.Code told) = code ≡ Some told
IsRefusedWith code (refusals.Stop stop) = stop ≡ stops.Memory

-- whether a write that asks for a version, or for any by -1, is for a node of this version
abbrev pub is_version : ℤ → ℤ → Bool
is_version asked version = int_eq asked (negsuc 0) || int_eq asked version

-- the code that refuses data at a node of this version: -103 where another one is asked for, -8 where it can't rise
abbrev pub data_refusal : ℤ → ℤ → Option Code
data_refusal asked version = if not (is_version asked version) then Some codes.BadVersion
    else (if int_lt version (pos 2147483647) then None else Some codes.BadArguments)

-- The code that refuses a setData at a node, or at none: -101 there.
abbrev pub set_refusal : Option Node → ℤ → Option Code
set_refusal None asked = Some codes.NoNode
set_refusal (Some node) asked = data_refusal asked (pos node.version)

-- the code that refuses that a node of this version with this many children is deleted: -103 where another version is asked for,
-- -111 where there are children
abbrev pub removal_refusal : ℤ → ℤ → ℤ → Option Code
removal_refusal asked version children =
    if not (is_version asked version) then Some codes.BadVersion else (if int_eq children (pos 0) then None else Some codes.NotEmpty)

-- the code that refuses that a node, or none, is deleted: -101 for none
abbrev pub absence_refusal : Option Node → ℕ → ℤ → Option Code
absence_refusal None children asked = Some codes.NoNode
absence_refusal (Some node) children asked = removal_refusal asked (pos node.version) (pos children)

-- The code that refuses a delete at a text with this many children: -8 for the root, and else as for the node there.
abbrev pub deletion_refusal : Tree → Text → ℕ → ℤ → Option Code
deletion_refusal tree text children asked =
    if bytes_eq text (47 ∷ []) then Some codes.BadArguments else absence_refusal (node_at tree text) children asked

-- Sequential nodes

-- the change makes a node right below the parent
abbrev pub makes_below : NodePath → Change → Bool
makes_below parent (Creates path content owner) = is_below parent path
makes_below parent change = false

-- how many nodes some transactions have made right below a parent, those that were deleted since among them
abbrev pub creates_below : NodePath → List Transaction → ℕ
creates_below parent transactions = sum_by (λ one. count_by (makes_below parent) one.changes) transactions

-- how many they have made below the parent of a path
abbrev pub creates_beside : NodePath → List Transaction → ℕ
creates_beside [] transactions = 0
creates_beside (name ∷ parent) transactions = creates_below parent transactions

-- the digits of a number, with zeros before them so that they are ten
abbrev pub ten_digits : ℕ → List ℕ
ten_digits number = replicate (10 - length (decimal number)) 48 ++ decimal number

-- the text of the sequential node with this number, if the number has ten digits at most and the text is that of a path
abbrev pub numbered_text : Text → ℕ → Option Text
numbered_text asked number = if nat_lt 9999999999 number then None else path_told (asked ++ ten_digits number)

-- The text of the node that a create makes, if it is that of a path.
abbrev pub made_text : Bool → Text → ℕ → Option Text
made_text false asked number = Some asked
made_text true asked number = numbered_text asked number

-- Which creates are refused

-- the code that refuses a node below this one, or below none: -101 where none is there, -108 where it has an owner
abbrev pub parent_refusal : Option Node → Option Code
parent_refusal None = Some codes.NoNode
parent_refusal (Some node) = if int_eq node.owner (pos 0) then None else Some codes.NoChildrenForEphemerals

-- the code that refuses a node below the parent of a path: -110 for the root, and else as for the parent
abbrev pub refusal_above : Tree → NodePath → Option Code
refusal_above tree [] = Some codes.NodeExists
refusal_above tree (name ∷ parent) = parent_refusal (tree parent)

-- the code that refuses a new node at the place of this one, or of none, below a parent of this many children: -110 where one is there, -8
-- where they are as many as a Stat can tell
abbrev pub place_refusal : Option Node → ℤ → Option Code
place_refusal (Some node) children = Some codes.NodeExists
place_refusal None children = if int_lt children (pos 2147483647) then None else Some codes.BadArguments

-- the code that refuses a node of this text, or of none: -8 for none
abbrev pub text_refusal : Tree → Option Text → ℤ → Option Code
text_refusal tree None children = Some codes.BadArguments
text_refusal tree (Some text) children = place_refusal (tree (path_of text)) children

-- the first of two codes
abbrev pub first_of : Option Code → Option Code → Option Code
first_of (Some code) second = Some code
first_of None second = second

-- the code that refuses a create at the text of a path, or at none: -8 for none
abbrev pub path_refusal : Tree → Bool → Option Text → ℕ → ℕ → Option Code
path_refusal tree sequential None number children = Some codes.BadArguments
path_refusal tree sequential (Some asked) number children =
    first_of (refusal_above tree (path_of asked)) (text_refusal tree (made_text sequential asked number) (pos children))

-- The code that refuses a create at a text, below a parent of this many children, where a sequential node would have this number.
abbrev pub creation_refusal : Tree → Bool → Text → ℕ → ℕ → Option Code
creation_refusal tree sequential text number children = path_refusal tree sequential (path_told text) number children

-- These are the names of the children of the parent of a path. The root has no parent.
abbrev pub AreBeside : Tree → NodePath → Names → Type 0
AreBeside tree [] names = ⊤
AreBeside tree (name ∷ parent) names = HasChildren tree parent names

-- Which changes are appended

-- no transaction can follow at this time: its zxid or the time would be past 2^63 - 1
abbrev pub is_over : HistoryView → ℕ → Bool
is_over kept time = nat_le 9223372036854775807 (newest 0 kept.transactions) || nat_lt 9223372036854775807 time

-- When a change is not appended: past the last zxid or time, where the tree does not admit it, and where memory ran out.
abbrev pub AppendRefused : HistoryView → ℕ → Change → HistoryFault → Type 0
AppendRefused kept time change Place = ⊥
AppendRefused kept time change Order = is_over kept time ≡ true
AppendRefused kept time change Illegal = (is_over kept time ≡ false) × ¬ IsAccepted change (newest_tree kept)
AppendRefused kept time change Memory = is_over kept time ≡ false

-- When the write of a client is not appended: -8 past the last zxid or time, and else a stop, of memory alone where the tree admits it.
abbrev pub WriteRefused : HistoryView → ℕ → Change → Refusal → Type 0
WriteRefused kept time change (refusals.Code code) = (code ≡ codes.BadArguments) × (is_over kept time ≡ true)
WriteRefused kept time change (refusals.Stop stop) =
    (is_over kept time ≡ false) × (IsAccepted change (newest_tree kept) → stop ≡ stops.Memory)
