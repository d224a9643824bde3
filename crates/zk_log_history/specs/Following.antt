-- What entries make of a history.
use Rattle.std.specs.Prelude.{ℕ, ℤ, pos, ◌+◌, ◌*◌, ◌/◌, ◌%◌, ◌==◌, nat_le, Bool, ◌||◌, if◌then◌else◌, List, [], ◌∷◌, ◌++◌, codes}
use Rattle.std.specs.Prelude.{Option, Some, None}
use Rattle.zk_jute.specs.Layout.{Value}
use Rattle.zk_jute.specs.Lenient.{or_empty}
use Rattle.zk_nodes.specs.Path.{Text, path_of}
use Rattle.zk_nodes.specs.History.{Change, Transaction}
use Rattle.zk_history.specs.HistoryView.{HistoryView, natural, empty_kept, with_node, with_transaction, made_transaction}
use Rattle.zk_log.specs.declared.kind.TxnKind.{TxnKind}
use Rattle.zk_log.specs.declared.kind.TxnKind.TheVariants.{Multi, CloseSession, CloseSessionAlone}
use Rattle.zk_log.specs.Kinds.{fields}
use Rattle.zk_log.specs.Format.{Logged}
use Rattle.zk_log_history.specs.Changes.{operation_change, listed, parts_changes, close_changes}

-- The changes of an entry, where a transaction is begun: those of a multi, of the end of a session, or at most one. An error has none.
abbrev pub entry_changes : ℤ → HistoryView → (kind : TxnKind) → Value (fields kind) → List Change
entry_changes session begun Multi body = parts_changes session (or_empty body)
entry_changes session begun CloseSession body = close_changes session (or_empty body) begun
entry_changes session begun CloseSessionAlone body = close_changes session [] begun
entry_changes session begun kind body = listed (operation_change session kind body)

-- The lower half of a zxid counts the transactions of an epoch from 1 on, and the upper half is the epoch. After a zxid none is missing
-- before the next of its epoch, nor, as far as zxids show, before the first of a later one. The first of all, which comes after 0, is of
-- epoch 0 or 1.
abbrev pub comes_next : ℕ → ℕ → Bool
comes_next last zxid =
    if last == 0 then (zxid == 1) || (zxid == 4294967297)
    else if zxid / 4294967296 == last / 4294967296 then zxid == last + 1
    else zxid % 4294967296 == 1

-- The first zxid that is missing between two, if one is: the first of a later epoch, as far as zxids show, and else the one after the last.
-- No server gives one that counts 0.
abbrev pub first_missing : ℕ → ℕ → Option ℕ
first_missing last zxid =
    if nat_le zxid last || comes_next last zxid then None
    else Some (if (zxid / 4294967296 == last / 4294967296) || (zxid % 4294967296 == 0) then last + 1
    else zxid / 4294967296 * 4294967296 + 1)

abbrev pub begun : HistoryView → Logged → HistoryView
begun kept entry = with_transaction kept (natural entry.zxid) entry.time

-- The transaction that an entry is, after the history that is kept.
abbrev pub transaction_of : HistoryView → Logged → Transaction
transaction_of kept entry =
    made_transaction (natural entry.zxid) entry.time (entry_changes entry.session (begun kept entry) entry.kind entry.body)

abbrev pub with_whole : HistoryView → Transaction → HistoryView
with_whole kept one = record { nodes = kept.nodes; transactions = kept.transactions ++ one ∷ [] }

-- Each entry is one transaction more.
abbrev pub with_entries : HistoryView → List Logged → HistoryView
with_entries kept [] = kept
with_entries kept (entry ∷ entries) = with_entries (with_whole kept (transaction_of kept entry)) entries

abbrev pub with_first : Text → HistoryView → HistoryView
with_first path kept = with_node kept (path_of path) (Some []) (pos 0)

-- Servers begin with these nodes, and the root.
abbrev pub first_kept : HistoryView
first_kept = with_first (codes "/zookeeper/config") (with_first (codes "/zookeeper/quota") (with_first (codes "/zookeeper") empty_kept))
