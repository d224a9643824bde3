-- Writes: what they make of the history, and which are refused, with which code.
use Rattle.std.specs.Prelude.{ℕ, pos, ◌+◌}
use Rattle.std.specs.FinSet as set
use Rattle.zk_nodes.specs.History.{Change, newest}
use Rattle.zk_history.specs.HistoryView.{HistoryView, with_change, with_transaction}
use Rattle.zk_records.specs.declared.code.Code.TheVariants as codes
use Rattle.zk_bench.specs.declared.stop.Stop.TheVariants as stops
use Rattle.zk_bench.specs.declared.stop.Refusal.TheVariants as refusals

-- What writes make

-- a change more, as a transaction of its own, one zxid above the last
abbrev pub appended : HistoryView → ℕ → Change → HistoryView
appended kept time change = with_change (with_transaction kept (newest 0 kept.transactions + 1) (pos time)) change
