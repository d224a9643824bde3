-- Each subject is counted and followed after stale answers go, as before: `all_counted_still`, `all_followed_still` and `quiet_still`, at
-- the view that the client's `forget_stale` ensures.
use Rattle.std.proofs.Common.{◌++◌, subst, sym}
use Rattle.std.specs.Prelude.{All}
use Rattle.zk_turns.specs.View.{View}
use Rattle.zk_client.specs.Clients.{view_of}
use Rattle.zk_follow.specs.Following.{AreFollowed, IsCounted}
use Rattle.zk_follow.specs.Following.{AreQuietBut, AreStillBut}
use Rattle.zk_follow.specs.Owning.{AreOwn}
use Rattle.zk_follow.proofs.Forgetting.{all_counted_still, all_followed_still}
use Rattle.zk_follow.proofs.Finding.{quiet_still, still_forgot}
use Rattle.zk_follow.proofs.follower.Follower.forget_stale.Goals as goal

pub invariant_of-self : goal.invariant_of-self
invariant_of-self g c =
    let view = view_of c.args.self.now.client in
    let items = c.args.self.now.subjects.items in
    record {
      counted = subst (λ after. All (IsCounted after) items) (sym c.forget_stale.ensures.view)
          (all_counted_still view items c.args.self.now.counted);
      found = c.args.self.now.found;
      still = subst (λ after. AreStillBut after c.args.self.now.index.count items c.args.self.now.awake.items)
          (sym c.forget_stale.ensures.view)
          (still_forgot view c.args.self.now.index.count items c.args.self.now.awake.items c.args.self.now.still);
      rest = subst (λ after. AreQuietBut after c.args.self.now.index.count items
          (c.args.self.now.awake.items ++ c.args.self.now.waiting.items)) (sym c.forget_stale.ensures.view)
          (quiet_still view c.args.self.now.index.count items (c.args.self.now.awake.items ++ c.args.self.now.waiting.items)
          c.args.self.now.rest);
      own = λ going. subst (λ (after : View). AreOwn items after.pending) (sym c.forget_stale.ensures.view) (c.args.self.now.own going);
    }

pub returns-clause-followed : goal.returns-clause-followed
returns-clause-followed g c = λ now all.
    let view = view_of c.args.self.now.client in
    let items = c.args.self.now.subjects.items in
    subst (λ after. AreFollowed now after items) (sym c.forget_stale.ensures.view) (all_followed_still now view items all)
