-- The member is pushed, and its side followed: `ok_joins`, of what `member_of` and `follow` ensure.
use Rattle.std.proofs.Common.{◌≡◌, ◌++◌, [], ◌∷◌, rules}
use Rattle.zk_trees.specs.Tending.{bed_of}
use Rattle.zk_trees.specs.inner.Tending.{footing_of}
use Rattle.zk_trees.specs.Trees.{aim_of}
use Rattle.zk_trees.proofs.Tending.{ok_is, ok_joins}
use Rattle.zk_trees.proofs.ledger.Ledger.join.Goals as goal

pub returns-clause-joins : goal.returns-clause-joins
returns-clause-joins g c =
    let one = c.in_ok-one.one in
    let more : c.push.new.self.items ≡ c.args.tree.now.members.items ++ one ∷ [] = search rules in
    ok_joins c.follow.result c.args.ticket c.args.is_found (aim_of c.args.subject.now)
    (bed_of (footing_of c.args.follower.now c.args.self.now) c.args.tree.now)
    (footing_of c.follow.new.follower c.follow.new.self) one c.push.new.self.items
    c.in_ok-one.ensures.aim c.in_ok-one.ensures.ticket c.in_ok-one.ensures.found more c.follow.ensures.told

pub returns-clause-member : goal.returns-clause-member
returns-clause-member g c =
    let one = c.in_ok-one.one in
    let more : c.push.new.self.items ≡ c.args.tree.now.members.items ++ one ∷ [] = search rules in
    ok_is c.follow.result (one, c.in_ok-one.ensures.aim, more)
