-- Why changes are not made, and no transaction is begun.
use Rattle.std.specs.Prelude.{ℤ, pos, ◌≡◌, ◌≤ℤ◌, false, List, Option, Some, ⊤}
use Rattle.zk_nodes.specs.History.{Change, newest}
use Rattle.zk_history.specs.HistoryView.{HistoryView, natural}
use Rattle.zk_log_history.specs.Following.{comes_next}
use Rattle.zk_log_history.specs.Refused.{AreTaken, IsLater}
use Rattle.zk_log_history.specs.declared.untold.Untold.{Untold}
use Rattle.zk_log_history.specs.declared.untold.Untold.TheVariants as untold

-- why what has this first fault is not read: nothing is said of memory
abbrev pub Unread : Option Untold → Untold → Type 0
Unread fault (untold.Path why) = fault ≡ Some (untold.Path why)
Unread fault (untold.Part why) = fault ≡ Some (untold.Part why)
Unread fault untold.Order = ⊥
Unread fault untold.Missing = ⊥
Unread fault untold.Illegal = ⊥
Unread fault untold.Memory = ⊤

-- why these changes, which have this first fault, are not made
abbrev pub Refuses : Option Untold → HistoryView → List Change → Untold → Type 0
Refuses fault kept changes (untold.Path why) = fault ≡ Some (untold.Path why)
Refuses fault kept changes (untold.Part why) = fault ≡ Some (untold.Part why)
Refuses fault kept changes untold.Order = ⊥
Refuses fault kept changes untold.Missing = ⊥
Refuses fault kept changes untold.Illegal = ¬ AreTaken kept changes
Refuses fault kept changes untold.Memory = ⊤

-- why no transaction is begun
abbrev pub BeginUntold : HistoryView → ℤ → Untold → Type 0
BeginUntold kept zxid (untold.Path why) = ⊥
BeginUntold kept zxid (untold.Part why) = ⊥
BeginUntold kept zxid untold.Order = zxid ≤ℤ pos (newest 0 kept.transactions)
BeginUntold kept zxid untold.Missing = IsLater kept zxid × (comes_next (newest 0 kept.transactions) (natural zxid) ≡ false)
BeginUntold kept zxid untold.Illegal = ⊥
BeginUntold kept zxid untold.Memory = ⊤
