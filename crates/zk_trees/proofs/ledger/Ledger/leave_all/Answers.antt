-- Where there is no ticket nothing is done (`none_leaves`); else the subjects go, and then it is told (`ok_leaves`).
use Rattle.zk_trees.proofs.Tending.{ok_leaves}
use Rattle.zk_trees.proofs.ledger.Ledger.leave_all.Goals as goal

pub returns-clause-leaves : goal.returns-clause-leaves
returns-clause-leaves g c =
    ok_leaves c.tell_left.result c.args.tree c.args.tickets.now c.args.follower.now c.unfollow_all.new.self c.args.self.now
    c.tell_left.new.self c.unfollow_all.ensures.client c.in_ok-unfollow_all.ensures.subjects c.tell_left.ensures.told
    c.tell_left.ensures.next
