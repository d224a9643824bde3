-- A history that goes on to the same last zxid is the same: zxids rise, so one more transaction would have a higher one.
use Rattle.std.proofs.Common.{◌≡◌, ◌<◌, ◌≤◌, ◌++◌, ◌∙◌, ℕ, List, [], ◌∷◌, arith, ap, append-nil, refl, sym, subst}
use Rattle.zk_nodes.specs.History.{newest, AreRising, Transaction}
use Rattle.zk_history.specs.HistoryView.{HistoryView}
use Rattle.zk_bench.specs.Served.{Continues}

rises : (low : ℕ) (ts : List Transaction) → AreRising low ts → low ≤ newest low ts
rises low [] rising = omega arith
rises low (one ∷ more) rising =
    let first : low < one.zxid = rising.0 in
    let rest : one.zxid ≤ newest one.zxid more = rises one.zxid more rising.2 in omega (arith, first, rest)

none_more : (low : ℕ) (ts more : List Transaction) → AreRising low (ts ++ more) → newest low (ts ++ more) ≡ newest low ts → more ≡ []
none_more low [] [] rising same = refl
none_more low [] (one ∷ more) rising same =
    let first : low < one.zxid = rising.0 in
    let rest : one.zxid ≤ newest one.zxid more = rises one.zxid more rising.2 in
    let is : newest one.zxid more ≡ low = same in absurd (omega (arith, first, rest, is))
none_more low (one ∷ ts) more rising same = none_more one.zxid ts more rising.2 same

same_view : (old new : HistoryView) → new.nodes ≡ old.nodes → new.transactions ≡ old.transactions → new ≡ old
same_view old new nodes transactions = λ i. record { nodes = nodes i; transactions = transactions i }

pub stays : (old new : HistoryView) → Continues old new → AreRising 0 new.transactions
    → newest 0 new.transactions ≡ newest 0 old.transactions → new ≡ old
stays old new goes rising same =
    let none : goes.more ≡ [] =
    none_more 0 old.transactions goes.more (subst (λ (ts : List Transaction). AreRising 0 ts) goes.transactions rising)
    (ap (newest 0) (sym goes.transactions) ∙ same) in
    same_view old new goes.nodes
    (goes.transactions ∙ ap (λ (more : List Transaction). old.transactions ++ more) none ∙ append-nil old.transactions)
