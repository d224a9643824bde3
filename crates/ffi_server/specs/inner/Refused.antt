-- What contracts of private functions say: nobody has to believe it.
use Rattle.std.specs.Prelude.{⊤, ℕ, List, IsSome}
use Rattle.std.specs.Str.{IsUtf8}
use Rattle.zk_nodes.specs.PathFault.{fault_of}
use Rattle.zk_nodes.specs.History.{Change}
use Rattle.zk_history.specs.HistoryView.{HistoryView}
use Rattle.ffi_server.specs.Refused.{IsPast, RefusesAt, tree_now}
use Rattle.ffi_server.specs.declared.undone.Undone.{Undone}
use Rattle.ffi_server.specs.declared.undone.Undone.TheVariants.{Memory, NotText, NotPath, NoTransaction}

-- Bytes for a path: they are no UTF-8, or their text is no path, or memory ran out.
abbrev pub RefusesPath : (path : List ℕ) → Undone → Type 0
RefusesPath path Memory = ⊤
RefusesPath path NotText = IsUtf8 path → ⊥
RefusesPath path NotPath = IsSome (fault_of path)
RefusesPath path why = ⊥

-- Why a change is not appended: it would be past all zxids or times, or the tree does not admit it.
abbrev pub RefusesAppend : (now : ℕ) → Change → HistoryView → Undone → Type 0
RefusesAppend now change kept NoTransaction = IsPast now kept
RefusesAppend now change kept why = RefusesAt (tree_now kept) change why
