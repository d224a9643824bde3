-- An empty transaction above the newest zxid (`natural_above`) leaves the history sound (`IsSound-transaction`) and its versions right
-- (`IsIndexed-transaction`).
use Rattle.std.proofs.Common.{◌≡◌, ◌<◌, ◌<ℤ◌, List, map, sym, ap, subst, ◌∙◌, arith, to_z, of_z, w64}
use Rattle.std.proofs.lemmas.Int.{ints, to_z-of_z}
use Rattle.zk_nodes.specs.History as model
use Rattle.zk_nodes.specs.History.{newest}
use Rattle.zk_history.specs.Made.{transaction_of}
use Rattle.zk_history.specs.HistoryView.{HistoryView, IsSound, natural}
use Rattle.zk_history.proofs.ViewLemmas.{IsSound-transaction, natural_above}
use Rattle.zk_history.specs.Versions.{versions_of, IsIndexed}
use Rattle.zk_history.proofs.IndexLemmas.{IsIndexed-transaction}
use Rattle.zk_history.proofs.history.History.begin.Goals as goal

pub invariant_of-self-2 : goal.invariant_of-self-2
invariant_of-self-2 g c =
    let kept : HistoryView = record {
      nodes = map transaction_of c.self.inside.nodes.items;
      transactions = map transaction_of c.self.inside.transactions.items;
    } in
    let cast : to_z w64 (of_z w64 c.args.zxid) ≡ c.args.zxid = to_z-of_z w64 c.args.zxid c.ranges.zxid in
    let later : c.last_zxid.result <ℤ c.args.zxid = omega (arith, ints) in
    let above : newest 0 c.args.self.now.transactions < c.natural.result =
    subst (λ n. newest 0 c.args.self.now.transactions < n) (sym (c.natural.ensures.value ∙ ap natural cast)) (natural_above
    (newest 0 c.args.self.now.transactions) c.args.zxid (subst (λ z. z <ℤ c.args.zxid) c.last_zxid.ensures.value later)) in
    let below : newest 0 (map transaction_of c.self.inside.transactions.items) < c.natural.result =
    subst (λ (k : HistoryView). newest 0 k.transactions < c.natural.result) (sym c.self.view_is) above in
    let P : List model.Transaction → Type 0 = λ ts.
    IsSound (record { nodes = map transaction_of c.self.inside.nodes.items; transactions = ts })
    × IsIndexed (record { nodes = map transaction_of c.self.inside.nodes.items; transactions = ts }) (versions_of c.self.inside.versions) in
    subst P (sym c.in_ok-push_empty.ensures.ok) (
      IsSound-transaction kept c.natural.result _ c.self.invariant.0 below c.natural.ensures.small,
      IsIndexed-transaction kept c.natural.result _ (versions_of c.self.inside.versions) below c.self.invariant.1,
    )
