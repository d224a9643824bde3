-- The last element kept has the newest zxid (`newest-mapped`), and it is below 2^63, so the cast keeps it.
-- What is kept is a history, since the invariant says that it is sound: `IsHistory-sound`.
use Rattle.std.proofs.Common.{subst, ◌≡◌, ◌+◌, ◌-◌, ◌<◌, ◌^◌, pos, sym, ap, ◌∙◌, arith, length, to_z, w64}
use Rattle.std.proofs.lemmas.Int.{ints}
use Rattle.std.proofs.lemmas.Bool.Decides.{nat_tests}
use Rattle.zk_history.specs.HistoryView.{HistoryView, history_of}
use Rattle.zk_nodes.specs.History.{newest, IsHistory}
use Rattle.zk_history.specs.Made.{transaction_of}
use Rattle.zk_history.proofs.HistoryLemmas.{IsHistory-sound}
use Rattle.zk_history.proofs.ViewLemmas.{newest-mapped}
use Rattle.zk_history.proofs.history.History.last_zxid.Goals as goal

pub returns-clause-value : goal.returns-clause-value
returns-clause-value g c =
    let last = c.index.result.now in
    let small : last.zxid < 2 ^ 63 = last.small in
    let cast : to_z w64 last.zxid ≡ pos last.zxid = omega (arith, ints) in
    let n : (c.len.result - 1) + 1 ≡ length c.self.inside.transactions.items = grind (arith, nat_tests) in
    cast ∙ ap pos (sym (newest-mapped transaction_of c.self.inside.transactions.items (c.len.result - 1) last n c.index.ensures))
    ∙ ap (λ (k : HistoryView). pos (newest 0 k.transactions)) c.self.view_is

pub returns-then-is_empty-clause-history : goal.returns-then-is_empty-clause-history
returns-then-is_empty-clause-history g c =
    subst (λ (k : HistoryView). IsHistory (history_of k)) c.self.view_is (IsHistory-sound _ c.self.invariant.0)

pub returns-clause-history : goal.returns-clause-history
returns-clause-history g c = subst (λ (k : HistoryView). IsHistory (history_of k)) c.self.view_is (IsHistory-sound _ c.self.invariant.0)
