-- Where no call waits, each that waits is own: `none_own`.
use Rattle.std.proofs.Common.{◌≡◌, ◌∙◌, arith, sym}
use Rattle.std.proofs.lemmas.Bool.Decides.{nat_tests}
use Rattle.zk_client.specs.Clients.{view_of}
use Rattle.zk_conversation.specs.Pending.{calls_pending}
use Rattle.zk_follow.proofs.Owned.{none_own}
use Rattle.zk_follow.proofs.follower.is_foreign_still.Goals as goal

pub returns : goal.returns
returns g c = λ subjects own e.
    let none : calls_pending (view_of c.args.client.now).pending ≡ 0 = grind (arith, nat_tests, c.pending_calls.ensures.count) in
    none_own subjects (view_of c.args.client.now).pending none
