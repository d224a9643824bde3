-- The last transaction alone is written: with the change added it is as `last_with` says, by `mapped_set`; where memory ran out the
-- transactions are the same, by `mapped_set_same`.
use Rattle.std.proofs.Common.{◌≡◌, ◌+◌, ◌-◌, length, arith}
use Rattle.std.proofs.lemmas.Bool.Decides.{nat_tests}
use Rattle.zk_history.specs.Made.{change_of, transaction_of}
use Rattle.zk_history.proofs.ViewLemmas.{mapped_set, mapped_set_same, OnOk-map, OnErr-map}
use Rattle.zk_history.proofs.transactions.push_change.Goals as goal

pub returns-clause-ok : goal.returns-clause-ok
returns-clause-ok g c =
    let l : (c.len-last.result - 1) + 1 ≡ length c.args.transactions.now.items = grind (arith, nat_tests) in
    OnOk-map c.add_change.result
    (mapped_set transaction_of c.args.transactions.now.items (c.len-last.result - 1) c.index_mut.result.now c.add_change.new.transaction
    (change_of c.args.change) l c.index_mut.ensures.value)
    c.add_change.ensures.ok

pub returns-clause-err : goal.returns-clause-err
returns-clause-err g c =
    let l : (c.len-last.result - 1) + 1 ≡ length c.args.transactions.now.items = grind (arith, nat_tests) in
    OnErr-map c.add_change.result
    (mapped_set_same transaction_of c.args.transactions.now.items
    (c.len-last.result - 1) c.index_mut.result.now c.add_change.new.transaction l c.index_mut.ensures.value)
    c.add_change.ensures.err
