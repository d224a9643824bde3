-- A code other than 0 refuses setWatches: `not-same` settles the rule's test, and the rest is what `give_up` ensures.
use Rattle.std.proofs.Common.{◌≡◌, ◌≢◌, pos, w32, arith}
use Rattle.std.proofs.lemmas.Result.{on_ok_weaker}
use mir.Val.{to_z, of_z}
use Rattle.std.proofs.lemmas.Int.{ints}
use Rattle.zk_client.proofs.Decided.{not-same}
use Rattle.zk_client.proofs.machine.Core.part_set.Goals as goal

pub returns-then-err-ne0-clause-next : goal.returns-then-err-ne0-clause-next
returns-then-err-ne0-clause-next g c =
    let apart : c.args.err ≢ pos 0 = λ e. omega (arith, ints) in
    on_ok_weaker c.give_up.result (λ next. λ held pending left. rw (not-same c.args.err (pos 0) apart) (next held)) c.give_up.ensures.next

pub returns-then-err-ne0-clause-says : goal.returns-then-err-ne0-clause-says
returns-then-err-ne0-clause-says g c =
    let apart : c.args.err ≢ pos 0 = λ e. omega (arith, ints) in
    let err : to_z w32 (of_z w32 c.args.err) ≡ c.args.err = omega (arith, ints) in
    on_ok_weaker c.give_up.result
    (λ says. λ held pending left. rw (not-same c.args.err (pos 0) apart, left.1) (rw err at (says held))) c.give_up.ensures.says
