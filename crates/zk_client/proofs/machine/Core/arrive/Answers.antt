-- A reply and a notice: what `reply` and `notice` ensure, rewritten by the case. The reply's zxid is one of 64 bits.
use Rattle.std.proofs.Common.{◌≡◌, w64, rules}
use mir.Val.{to_z, of_z}
use Rattle.zk_client.proofs.machine.Core.arrive.Goals as goal

pub returns-in-Reply-clause-next : goal.returns-in-Reply-clause-next
returns-in-Reply-clause-next g c =
    let zxid : to_z w64 (of_z w64 c.in-Reply.zxid) ≡ c.in-Reply.zxid = search rules in
    rw c.in-Reply.is (rw zxid at c.reply-taken.ensures.next)

pub returns-in-Reply-clause-says : goal.returns-in-Reply-clause-says
returns-in-Reply-clause-says g c =
    let zxid : to_z w64 (of_z w64 c.in-Reply.zxid) ≡ c.in-Reply.zxid = search rules in
    rw c.in-Reply.is (rw zxid at c.reply-taken.ensures.says)

pub returns-in-Notice-clause-next : goal.returns-in-Notice-clause-next
returns-in-Notice-clause-next g c = rw c.in-Notice.is c.notice.ensures.next

pub returns-in-Notice-clause-says : goal.returns-in-Notice-clause-says
returns-in-Notice-clause-says g c = rw c.in-Notice.is c.notice.ensures.says
