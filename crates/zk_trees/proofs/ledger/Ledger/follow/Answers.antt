-- The subject is added to those that are followed, and then it is told: `ok_follows`, of what `copy_of`, `follow` and `tell` ensure.
use Rattle.zk_trees.proofs.Tending.{ok_follows}
use Rattle.zk_trees.proofs.ledger.Ledger.follow.Goals as goal

pub returns-clause-told : goal.returns-clause-told
returns-clause-told g c =
    ok_follows c.tell.result c.args.tree c.args.ticket c.args.subject.now.side c.args.subject.now.path c.in_ok-path.path c.in_ok-copy.copy
    c.args.follower.now c.follow.new.self c.args.self.now c.tell.new.self
    c.in_ok-path.ensures c.in_ok-copy.ensures c.follow.ensures.client c.in_ok-follow.ensures.subjects
    c.tell.ensures.told c.tell.ensures.next
