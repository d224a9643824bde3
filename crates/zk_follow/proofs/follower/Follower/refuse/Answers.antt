-- All subjects are written back, that of the ticket as refused (`mapped_back`), so they are counted and followed (`Denying`). None is in
-- the index.
use Rattle.std.proofs.Common.{◌≡◌, ◌++◌, arith, drop, length, map, subst, sym, take}
use Rattle.std.specs.Prelude.{All}
use Rattle.zk_client.specs.Clients.{view_of}
use Rattle.zk_follow.specs.Following.{is_quiet, is_still, AreFollowed, IsCounted}
use Rattle.zk_follow.specs.Refusing.{too_long_for}
use Rattle.zk_follow.proofs.Denying.{all_counted, all_followed}
use Rattle.zk_follow.proofs.Finding.{none_but, none_found}
use Rattle.zk_follow.proofs.Visiting.{mapped_back}
use Rattle.zk_follow.proofs.follower.Follower.refuse.Goals as goal
use Rattle.zk_follow.proofs.follower.Follower.refuse.Goals.{After-refuse_all}

written : (g : _) (c : After-refuse_all g) → take c.args.self.now.subjects.len
    (c.refuse_all.new.subjects ++ drop (length c.refuse_all.new.subjects) c.args.self.now.subjects.items)
    ≡ map (too_long_for c.args.now c.args.ticket) c.args.self.now.subjects.items
written g c =
    mapped_back (too_long_for c.args.now c.args.ticket) c.args.self.now.subjects.len _ c.refuse_all.new.subjects
    c.args.self.now.subjects.items (omega (arith, c.refuse_all.auto.subjects, c.as_mut_slice-subjects.ensures.len))
    c.refuse_all.ensures c.as_mut_slice-subjects.ensures.value

pub invariant_of-self : goal.invariant_of-self
invariant_of-self g c =
    let view = view_of c.args.self.now.client in
    let all = written g (goal.at.invariant_of-self g c).After-refuse_all in
    record {
      counted = subst (All (IsCounted view)) (sym all)
          (all_counted c.args.now c.args.ticket view c.args.self.now.subjects.items c.args.self.now.counted);
      found = none_found c.new.result _ c.new.ensures;
      still = none_but (is_still view) c.new.result.count _ _ c.new.ensures;
      rest = none_but (is_quiet view) c.new.result.count _ _ c.new.ensures;
      own = c.is_foreign_still-self.ensures _ (λ going. absurd cc);
    }

pub returns-clause-subjects : goal.returns-clause-subjects
returns-clause-subjects g c = written g (goal.at.returns-clause-subjects g c).After-refuse_all

pub returns-clause-followed : goal.returns-clause-followed
returns-clause-followed g c = λ all.
    subst (AreFollowed c.args.now (view_of c.args.self.now.client))
    (sym (written g (goal.at.returns-clause-followed g c).After-refuse_all))
    (all_followed c.args.now c.args.ticket (view_of c.args.self.now.client) c.args.self.now.subjects.items all)
