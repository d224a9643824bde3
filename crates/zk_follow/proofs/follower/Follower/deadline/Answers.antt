-- Where the index is of all subjects, those that are not awake are still, and so due: `due_but`.
use Rattle.std.proofs.Common.{◌≤◌, length, rules, subst, sym}
use Rattle.zk_client.specs.Clients.{view_of}
use Rattle.zk_follow.specs.inner.Resting.{AreDueBut}
use Rattle.zk_follow.proofs.Again.{due_but}
use Rattle.zk_follow.proofs.follower.Follower.deadline.Goals as goal

pub first_among-requires : goal.first_among-requires
first_among-requires g c =
    let all = c.args.self.now.subjects.items in
    let awake = c.args.self.now.awake.items in
    let past : length all ≤ c.args.self.now.index.count = search rules in
    subst (λ l. AreDueBut l c.as_slice.result.now) (sym c.as_slice-subjects.ensures.value)
    (subst (AreDueBut all) (sym c.as_slice.ensures.value)
    (due_but (view_of c.args.self.now.client) c.args.self.now.index.count all awake past c.args.self.now.still))
