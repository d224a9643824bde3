-- When a history refuses what it is given: the first fault that applies, and where none does, that memory ran out.
use Rattle.std.specs.Prelude.{ℕ, ℤ, pos, ◌≡◌, ◌≢◌, ◌≤ℤ◌, ◌<ℤ◌, List, [], Option}
use Rattle.zk_nodes.specs.Path.{NodePath}
use Rattle.zk_nodes.specs.History.{Change, Creates, newest}
use Rattle.zk_history.specs.HistoryView.{HistoryView, IsAccepted, newest_tree}
use Rattle.zk_history.specs.declared.history_fault.HistoryFault.{HistoryFault}
use Rattle.zk_history.specs.declared.history_fault.HistoryFault.TheVariants.{Place, Order, Illegal, Memory}

-- a change stands only after the beginning of a transaction
abbrev pub ChangeRefused : HistoryView → Change → HistoryFault → Type 0
ChangeRefused kept change Place = kept.transactions ≡ []
ChangeRefused kept change Order = ⊥
ChangeRefused kept change Illegal = (kept.transactions ≢ []) × ¬ IsAccepted change (newest_tree kept)
ChangeRefused kept change Memory = (kept.transactions ≢ []) × IsAccepted change (newest_tree kept)

-- a node of the first tree stands only before the first transaction
abbrev pub NodeRefused : HistoryView → NodePath → Option (List ℕ) → HistoryFault → Type 0
NodeRefused kept path content Place = kept.transactions ≢ []
NodeRefused kept path content Order = ⊥
NodeRefused kept path content Illegal = (kept.transactions ≡ []) × ¬ IsAccepted (Creates path content (pos 0)) (newest_tree kept)
NodeRefused kept path content Memory = (kept.transactions ≡ []) × IsAccepted (Creates path content (pos 0)) (newest_tree kept)

-- zxids rise, from 1 on
abbrev pub BeginRefused : HistoryView → ℤ → HistoryFault → Type 0
BeginRefused kept zxid Place = ⊥
BeginRefused kept zxid Order = zxid ≤ℤ pos (newest 0 kept.transactions)
BeginRefused kept zxid Illegal = ⊥
BeginRefused kept zxid Memory = pos (newest 0 kept.transactions) <ℤ zxid
