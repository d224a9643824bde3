-- What holds of all subjects holds of those that stay (`all_hold`), which are those that are left one after the other (`all_left`). Who of
-- them may not be quiet is known.
use Rattle.std.proofs.Common.{◌++◌, arith, get_or, subst}
use Rattle.zk_client.specs.Clients.{view_of}
use Rattle.zk_follow.specs.Following.{is_quiet, IsCounted}
use Rattle.zk_follow.specs.Places.{AreFound}
use Rattle.zk_follow.proofs.Among.{all_hold, all_left}
use Rattle.zk_follow.proofs.Finding.{awake_also}
use Rattle.zk_follow.proofs.Parting.{poured_quiet, quiet_stay}
use Rattle.zk_follow.proofs.Still.{among_left, still_quiet}
use Rattle.zk_follow.proofs.follower.Follower.unfollow_all.Goals as goal

pub invariant_of-self-2 : goal.invariant_of-self-2
invariant_of-self-2 g c =
    let view = view_of c.args.self.now.client in
    let gone = c.in_ok-gone.gone.sorted.items in
    let poured = poured_quiet view c.args.self.now.index.count c.args.self.now.subjects.items c.args.self.now.found.0
    c.args.self.now.awake.items c.args.self.now.waiting.items c.pour.new.all.items
    (λ at fits e. c.in-Ok.ensures at (omega (arith, fits, c.len-count.ensures, c.args.self.now.subjects.ok)) e) c.args.self.now.rest in
    let left = quiet_stay view gone c.args.self.now.index.count c.count.result c.args.self.now.subjects.items c.as_slice.result.now
    c.pour.new.all.items c.as_slice-2.result.now c.in_ok-awake.awake.items c.remove_all.new.subjects.items
    c.as_slice-3.result.now c.index_of-index.result.0.count c.index_of-index.result.1.items c.count.ensures c.as_slice.ensures.value
    c.as_slice-2.ensures.value c.remove_all.ensures c.as_slice-3.ensures.value (c.in_ok-awake.ensures view)
    (c.index_of-index.ensures.rest view) poured in
    record {
      counted = all_hold (IsCounted view) gone c.args.self.now.subjects.items c.remove_all.new.subjects.items c.remove_all.ensures
          c.args.self.now.counted;
      found = subst (AreFound c.index_of-index.result.0) c.as_slice-3.ensures.value c.index_of-index.ensures.found;
      still = λ k d fits none. still_quiet view (get_or c.remove_all.new.subjects.items k d) (left k d fits none);
      rest = awake_also (is_quiet view) c.index_of-index.result.0.count c.remove_all.new.subjects.items c.index_of-index.result.1.items
          (c.index_of-index.result.1.items ++ c.pour.new.waiting.items)
          (λ at fits. among_left at c.index_of-index.result.1.items c.pour.new.waiting.items) left;
      own = c.is_foreign_still-self.ensures c.remove_all.new.subjects.items (λ going. absurd cc);
    }

pub invariant_of-self-in-Break-branch-2 : goal.invariant_of-self-in-Break-branch-2
invariant_of-self-in-Break-branch-2 g c =
    let old = c.args.self.now in
    let view = view_of old.client in
    let poured = poured_quiet view old.index.count old.subjects.items old.found.0
    old.awake.items old.waiting.items c.pour.new.all.items
    (λ at fits e. c.in-Ok.ensures at (omega (arith, fits, c.len-count.ensures, old.subjects.ok)) e) old.rest in
    record {
      counted = old.counted;
      found = old.found;
      still = λ k d fits none. still_quiet view (get_or old.subjects.items k d) (poured k d fits none);
      rest = awake_also (is_quiet view) old.index.count old.subjects.items c.pour.new.all.items
          (c.pour.new.all.items ++ c.pour.new.waiting.items)
          (λ at fits. among_left at c.pour.new.all.items c.pour.new.waiting.items) poured;
      own = old.own;
    }

pub returns-clause-subjects : goal.returns-clause-subjects
returns-clause-subjects g c =
    all_left c.args.tickets.now c.in_ok-gone.gone.sorted.items c.args.self.now.subjects.items c.remove_all.new.subjects.items
    c.in_ok-gone.ensures c.remove_all.ensures
