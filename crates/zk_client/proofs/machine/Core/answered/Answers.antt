-- By the timeout: 0 or less is an expiry (`takes-expiry`, by `expire`), and more is a welcome (`takes-welcome`, by `welcome`).
use Rattle.std.proofs.Common.{◌≡◌, pos, ◌≤ℤ◌, ◌<ℤ◌, arith, w32, w64}
use Rattle.std.proofs.lemmas.Result.{on_ok_weaker}
use mir.Val.{to_z, of_z}
use Rattle.std.proofs.lemmas.Int.{ints}
use Rattle.zk_records.specs.Views.{lent_response_of}
use Rattle.zk_client.proofs.Welcomes.{takes-expiry, takes-welcome}
use Rattle.zk_client.proofs.machine.Core.answered.Goals as goal

pub returns-then-taken-le0-clause-next : goal.returns-then-taken-le0-clause-next
returns-then-taken-le0-clause-next g c =
    let response = lent_response_of c.args.response.now in
    let over : c.args.response.now.time_out ≤ℤ pos 0 = omega (arith, ints) in
    on_ok_weaker c.expire.result (λ next. λ held pending left. rw (takes-expiry response over) (next held pending)) c.expire.ensures.next

pub returns-clause-next : goal.returns-clause-next
returns-clause-next g c =
    let response = lent_response_of c.args.response.now in
    let lt : pos 0 <ℤ c.args.response.now.time_out = omega (arith, ints) in
    let timeout : to_z w32 (of_z w32 c.args.response.now.time_out) ≡ c.args.response.now.time_out = omega (arith, ints) in
    let session : to_z w64 (of_z w64 c.args.response.now.session_id) ≡ c.args.response.now.session_id = omega (arith, ints) in
    on_ok_weaker c.welcome.result (λ next. λ held pending left.
    rw (takes-welcome response lt) (rw (timeout, session, c.or_empty.ensures) at (next held pending))) c.welcome.ensures.next
