-- The last element is the last transaction (`last_transaction-mapped`), so the spot has its zxid and time; the origin is built on its
-- index and on the number of its changes, as mapping keeps lengths.
use Rattle.std.proofs.Common.{◌≡◌, ◌+◌, ◌-◌, length, ap, sym, ◌∙◌, arith, to_z, of_z, w64, map}
use Rattle.std.proofs.lemmas.Int.{ints}
use Rattle.std.proofs.lemmas.List.{length-map}
use Rattle.std.proofs.lemmas.Bool.Decides.{nat_tests}
use Rattle.zk_nodes.specs.History as model
use Rattle.zk_history.specs.Made.{change_of, transaction_of}
use Rattle.zk_history.specs.declared.version.Origin.TheVariants.{Later}
use Rattle.zk_history.specs.inner.Versions.{last_transaction}
use Rattle.zk_history.proofs.VersionsLemmas.{last_transaction-mapped}
use Rattle.zk_history.proofs.transactions.next_spot.Goals as goal

pub returns-clause-zxid : goal.returns-clause-zxid
returns-clause-zxid g c =
    let one = c.index-transactions-last.result in
    let l : (length c.args.transactions.now - 1) + 1 ≡ length c.args.transactions.now = grind (arith, nat_tests) in
    ap (λ (t : model.Transaction). t.zxid) (sym (last_transaction-mapped transaction_of c.args.transactions.now
    (length c.args.transactions.now - 1) one l c.index-transactions-last.is))

pub returns-clause-time : goal.returns-clause-time
returns-clause-time g c =
    let one = c.index-transactions-last.result in
    let l : (length c.args.transactions.now - 1) + 1 ≡ length c.args.transactions.now = grind (arith, nat_tests) in
    let t : to_z w64 (of_z w64 one.time) ≡ one.time = omega (arith, ints) in
    t ∙ ap (λ (t : model.Transaction). t.time) (sym (last_transaction-mapped transaction_of c.args.transactions.now
    (length c.args.transactions.now - 1) one l c.index-transactions-last.is))

pub returns-clause-origin : goal.returns-clause-origin
returns-clause-origin g c =
    let one = c.index-transactions-last.result in
    let xs = c.args.transactions.now in
    let l : (length xs - 1) + 1 ≡ length xs = grind (arith, nat_tests) in
    let last = last_transaction-mapped transaction_of xs (length xs - 1) one l c.index-transactions-last.is in
    let len : c.len.result ≡ length (map change_of one.changes.items) = grind (arith, nat_tests, length-map one.changes.items change_of) in
    let all : length (map transaction_of xs) ≡ length xs = length-map xs transaction_of in
    ap (λ n. Later (length xs - 1) n) (len ∙ ap (λ (t : model.Transaction). length t.changes) (sym last))
    ∙ ap (λ n. Later (n - 1) (length (last_transaction (map transaction_of xs)).changes)) (sym all)
