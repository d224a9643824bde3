-- The n-th transaction is told as it is kept: `nth-mapped`, and arithmetic for the casts of its zxid and time. Past the last there is
-- none, by `nth-past`.
use Rattle.std.proofs.Common.{◌≡◌, ◌<◌, ◌^◌, ℤ, pos, List, Some, sym, ap, ◌∙◌, arith, to_z, of_z, w64}
use Rattle.std.proofs.lemmas.Int.{ints}
use Rattle.std.proofs.lemmas.Bool.Decides.{nat_tests}
use Rattle.zk_history.specs.declared.change.Change.{Change}
use Rattle.zk_history.specs.Made.{transaction_of, transaction_told}
use Rattle.zk_history.specs.HistoryView.{HistoryView}
use Rattle.std.specs.Prelude.{slice_get}
use Rattle.zk_history.proofs.ViewLemmas.{nth-mapped, nth-past}
use Rattle.zk_history.proofs.history.History.transaction.Goals as goal

pub returns-then-n-len : goal.returns-then-n-len
returns-then-n-len g c =
    let one = c.index-transaction.result.now in
    let small : one.zxid < 2 ^ 63 = one.small in
    let cast : to_z w64 one.zxid ≡ pos one.zxid = omega (arith, ints) in
    let time : to_z w64 (of_z w64 one.time) ≡ one.time = omega (arith, ints) in
    ap (λ (k : HistoryView). slice_get k.transactions c.args.n) (sym c.self.view_is)
    ∙ nth-mapped transaction_of c.self.inside.transactions.items c.args.n one (grind (arith, nat_tests)) c.index-transaction.ensures
    ∙ ap (λ (z : ℤ). Some (transaction_told z one.time one.changes.items)) (sym cast)
    ∙ ap (λ (t : ℤ). Some (transaction_told (to_z w64 one.zxid) t one.changes.items)) (sym time)
    ∙ ap (λ (xs : List (Change g.row.A.Denot)). Some (transaction_told (to_z w64 one.zxid) (to_z w64 (of_z w64 one.time)) xs))
    (sym c.as_slice.ensures.value)

pub returns-else-n-len : goal.returns-else-n-len
returns-else-n-len g c =
    ap (λ (k : HistoryView). slice_get k.transactions c.args.n) (sym c.self.view_is)
    ∙ nth-past transaction_of c.self.inside.transactions.items c.args.n (grind (arith, nat_tests))
