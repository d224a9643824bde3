-- That what is known of a path is so.
use Rattle.std.specs.Prelude.{ℤ, ◌≡◌, false, int_lt, if◌then◌else◌, List, [], ◌∷◌, Option, Some, Ok, Err}
use Rattle.zk_nodes.specs.Path.{NodePath}
use Rattle.zk_nodes.specs.History.{view}
use Rattle.zk_nodes.specs.declared.side.Side.TheVariants.{Data}
use Rattle.zk_history.specs.HistoryView.{HistoryView, first_tree, newest_tree}
use Rattle.zk_log.specs.Format.{Logged}
use Rattle.zk_log.specs.Reading.{Placed}
use Rattle.zk_log_history.specs.Changes.{is_owned}
use Rattle.zk_log_history.specs.Following.{with_entries}
use Rattle.zk_log_history.specs.Known.{PathView, Seen, unknown, entries_told, view_of}
use Rattle.zk_log_history.specs.Refused.{AreTold}
use Rattle.zk_log_history.specs.declared.untold.UntoldEntry.{UntoldEntry}

-- the entries up to a zxid
abbrev pub entries_to : ℤ → List Placed → List Logged
entries_to zxid [] = []
entries_to zxid (one ∷ more) = if int_lt zxid one.entry.zxid then entries_to zxid more else one.entry ∷ entries_to zxid more

-- before the first transaction no node is a session's
abbrev pub IsNobodys : HistoryView → Type 0
IsNobodys before = (session : ℤ) (path : NodePath) → is_owned session (first_tree before path) ≡ false

-- Whatever history stood before the entries, with whichever nodes and transactions: if the entries up to a zxid make a path known, then its
-- data are what is known, in the tree after that history and those entries.
abbrev pub KnownIsTrue : Type 0
KnownIsTrue =
    (before : HistoryView) (entries : List Placed) (path : NodePath) (zxid : ℤ) (told : PathView) (seen : Option Seen)
    → IsNobodys before → entries_told entries (unknown path zxid) ≡ Ok told → told.known ≡ Some seen
    → view Data (newest_tree (with_entries before (entries_to zxid entries))) path ≡ view_of seen

-- Entries that are refused by what is known of a path are no transactions after any such history.
abbrev pub RefusedAreUntold : Type 0
RefusedAreUntold =
    (before : HistoryView) (entries : List Placed) (path : NodePath) (zxid : ℤ) (fault : UntoldEntry)
    → IsNobodys before → entries_told entries (unknown path zxid) ≡ Err fault → ¬ AreTold before (entries_to zxid entries)
