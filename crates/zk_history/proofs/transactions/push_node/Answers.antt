-- The node's transaction, with its one change, stands last: room was reserved, so the push succeeds, and mapping goes over the append
-- (`map-append`).
use Rattle.std.proofs.Common.{◌≡◌, ◌∷◌, ◌++◌, [], ◌+◌, ◌≤◌, ap, ◌∙◌, map, to_z, of_z, w64, ℤ, arith}
use Rattle.std.proofs.lemmas.Bool.{cond-true}
use Rattle.std.proofs.lemmas.List.{map-append}
use Rattle.std.proofs.lemmas.Int.{to_z-of_z}
use Rattle.std.specs.Vec.{vec_len, vec_capacity}
use Rattle.zk_nodes.specs.History as model
use Rattle.zk_history.specs.Made.{change_of, transaction_of}
use Rattle.zk_history.specs.HistoryView.{made_transaction}
use Rattle.zk_history.proofs.VersionsLemmas.{on_ok_is}
use Rattle.zk_history.proofs.transactions.push_node.Goals as goal

pub returns-clause-ok : goal.returns-clause-ok
returns-clause-ok g c =
    let room : vec_len c.reserve.new.self + 1 ≤ vec_capacity c.reserve.new.self =
    on_ok_is c.reserve.result c.is_err.result c.is_err.ensures.value c.if-is_err.false c.reserve.ensures.ok in
    let ok = c.push-2.ensures.succeeds (omega (arith, room)) in
    let t : to_z w64 (of_z w64 c.args.time) ≡ c.args.time = to_z-of_z w64 c.args.time c.ranges.time in
    let one : transaction_of c.new_transaction.result ≡ made_transaction 0 c.args.time (change_of c.args.change ∷ []) =
    c.new_transaction.ensures ∙ ap (λ (time : ℤ). made_transaction 0 time (map change_of c.push.new.self.items)) t
    ∙ ap (λ cs. made_transaction 0 c.args.time (map change_of cs))
    (c.in_ok-push.ensures.items ∙ ap (λ cs. cs ++ c.args.change ∷ []) c.new-changes.ensures.items) in
    ap (map transaction_of)
    (c.push-2.ensures.items ∙ cond-true _ _ _ ok ∙ ap (λ xs. xs ++ c.new_transaction.result ∷ []) c.reserve.ensures.items)
    ∙ map-append transaction_of c.args.nodes.now.items (c.new_transaction.result ∷ [])
    ∙ ap (λ (o : model.Transaction). map transaction_of c.args.nodes.now.items ++ o ∷ []) one
