-- What entries do with a tree.
use Rattle.std.specs.Prelude.{ℕ, ℤ, pos, negsuc, Bool, ◌&&◌, not, List, [], ◌∷◌, map, Option, Some, None, if◌then◌else◌}
use Rattle.std.specs.Prelude.{Result, Ok, Err, String, string_bytes}
use Rattle.std.specs.Int.{w64, int_wrapping_sub}
use Rattle.std.specs.List.{list_any}
use Rattle.std.specs.Ordering.{int_eq}
use Rattle.zk_jute.specs.Layout.{Value}
use Rattle.zk_jute.specs.Lenient.{or_empty}
use Rattle.zk_log.specs.declared.digest_node.DigestNode.{DigestNode}
use Rattle.zk_log.specs.declared.digest_node.Stamp.{Stamp}
use Rattle.zk_log.specs.declared.entry_fault.EntryFault.{EntryFault}
use Rattle.zk_log.specs.declared.kind.TxnKind.{TxnKind}
use Rattle.zk_log.specs.declared.kind.TxnKind.TheVariants.{Create, Create2, CreateContainer, CreateTtl, Delete, DeleteContainer, Set}
use Rattle.zk_log.specs.declared.kind.TxnKind.TheVariants.{Reconfig, SetAcl, Check, Multi, CreateSession, CloseSession}
use Rattle.zk_log.specs.declared.kind.TxnKind.TheVariants.{CloseSessionAlone, Error}
use Rattle.zk_log.specs.Kinds.{fields, part}
use Rattle.zk_log.specs.Format.{Logged}
use Rattle.zk_log.specs.Parts.{Operation, part_at}
use Rattle.zk_log.specs.Trees.{Tree, new_node, created, deleted, data_set, acl_set}

-- null is no path
abbrev pub on_path : Option (List ℕ) → (List ℕ → Tree → Tree) → Tree → Tree
on_path None acts tree = tree
on_path (Some path) acts tree = acts path tree

abbrev pub node_made : Stamp → Option (List ℕ) → Option (List ℕ) → (owner cversion : ℤ) → Tree → Tree
node_made stamp path content owner cversion tree =
    on_path path (λ text. created stamp text (new_node stamp text content owner) cversion) tree

abbrev pub data_written : Stamp → Option (List ℕ) → Option (List ℕ) → (version : ℤ) → Tree → Tree
data_written stamp path content version tree = on_path path (λ text. data_set stamp text content version) tree

abbrev pub acl_written : Option (List ℕ) → (version : ℤ) → Tree → Tree
acl_written path version tree = on_path path (λ text. acl_set text version) tree

abbrev pub all_deleted : Stamp → List (Option (List ℕ)) → Tree → Tree
all_deleted stamp [] tree = tree
all_deleted stamp (path ∷ paths) tree = all_deleted stamp paths (on_path path (deleted stamp) tree)

-- An ephemeral node is its session's; the owner of a container is -2^63, and that of a node with a time to live is that time less 2^56.
-- A multi stands alone, and a close without paths is told below.
abbrev pub operation_done : Stamp → (kind : TxnKind) → Value (fields kind) → Tree → Tree
operation_done stamp Create body tree =
    node_made stamp body.0 body.1.0 (if body.1.1.1.0 then stamp.session else pos 0) body.1.1.1.1 tree
operation_done stamp Create2 body tree =
    node_made stamp body.0 body.1.0 (if body.1.1.1.0 then stamp.session else pos 0) body.1.1.1.1 tree
operation_done stamp CreateContainer body tree = node_made stamp body.0 body.1.0 (negsuc 9223372036854775807) body.1.1.1 tree
operation_done stamp CreateTtl body tree =
    node_made stamp body.0 body.1.0 (int_wrapping_sub w64 body.1.1.1.1 (pos 72057594037927936)) body.1.1.1.0 tree
operation_done stamp Delete body tree = on_path body (deleted stamp) tree
operation_done stamp DeleteContainer body tree = on_path body (deleted stamp) tree
operation_done stamp Set body tree = data_written stamp body.0 body.1.0 body.1.1 tree
operation_done stamp Reconfig body tree = data_written stamp body.0 body.1.0 body.1.1 tree
operation_done stamp SetAcl body tree = acl_written body.0 body.1.1 tree
operation_done stamp CloseSession body tree = all_deleted stamp (or_empty body) tree
operation_done stamp kind body tree = tree

-- a part of a multi that failed has the number -1
abbrev pub is_failed : Value part → Bool
is_failed one = int_eq one.0 (negsuc 0)

abbrev pub read_part_done : Stamp → Result Operation EntryFault → Tree → Tree
read_part_done stamp (Ok operation) tree = operation_done stamp operation.kind operation.body tree
read_part_done stamp (Err fault) tree = tree

abbrev pub part_done : Stamp → Value part → Tree → Tree
part_done stamp one tree = read_part_done stamp (part_at one.0 (or_empty one.1)) tree

abbrev pub all_parts_done : Stamp → List (Value part) → Tree → Tree
all_parts_done stamp [] tree = tree
all_parts_done stamp (one ∷ parts) tree = all_parts_done stamp parts (part_done stamp one tree)

-- all of them, or none
abbrev pub parts_done : Stamp → List (Value part) → Tree → Tree
parts_done stamp parts tree = if list_any is_failed parts then tree else all_parts_done stamp parts tree

-- the paths of a session's nodes; 0 is no session
abbrev pub is_owned : ℤ → DigestNode → Bool
is_owned session node = not (int_eq session (pos 0)) && int_eq node.owner session

abbrev pub owned : {A : Type 0} → ℤ → List (String A × DigestNode) → List (List ℕ)
owned session [] = []
owned session (entry ∷ entries) = if is_owned session entry.1 then string_bytes entry.0 ∷ owned session entries else owned session entries

-- an operation, where the nodes of its session have these paths
abbrev pub whole_done : Stamp → List (List ℕ) → (kind : TxnKind) → Value (fields kind) → Tree → Tree
whole_done stamp paths Multi body tree = parts_done stamp (or_empty body) tree
whole_done stamp paths CloseSessionAlone body tree = all_deleted stamp (map Some paths) tree
whole_done stamp paths kind body tree = operation_done stamp kind body tree

abbrev pub stamp_of : Logged → Stamp
stamp_of entry = record { zxid = entry.zxid; time = entry.time; session = entry.session }

abbrev pub entry_done : List (List ℕ) → Logged → Tree → Tree
entry_done paths entry tree = whole_done (stamp_of entry) paths entry.kind entry.body tree
