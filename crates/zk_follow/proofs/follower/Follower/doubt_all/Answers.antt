-- All subjects are written back as doubted (`mapped_back`), which changes nothing of whether they are counted: `All_changed`. None is in
-- the index.
use Rattle.std.proofs.Common.{◌≡◌, ◌++◌, arith, drop, length, map, subst, sym, take}
use Rattle.std.specs.Prelude.{All}
use Rattle.zk_client.specs.Clients.{view_of}
use Rattle.zk_follow.specs.Following.{doubted, is_quiet, is_still, IsCounted}
use Rattle.zk_follow.specs.Owning.{AreOwn}
use Rattle.zk_follow.proofs.Finding.{none_but, none_found}
use Rattle.zk_follow.proofs.Owned.{own_doubted}
use Rattle.zk_follow.proofs.Telling.{All_changed}
use Rattle.zk_follow.proofs.Visiting.{mapped_back}
use Rattle.zk_follow.proofs.follower.Follower.doubt_all.Goals as goal
use Rattle.zk_follow.proofs.follower.Follower.doubt_all.Goals.{After-doubt_each}

written : (g : _) (c : After-doubt_each g) → take c.args.self.now.subjects.len
    (c.doubt_each.new.subjects ++ drop (length c.doubt_each.new.subjects) c.args.self.now.subjects.items)
    ≡ map doubted c.args.self.now.subjects.items
written g c =
    mapped_back doubted c.args.self.now.subjects.len _ c.doubt_each.new.subjects c.args.self.now.subjects.items
    (omega (arith, c.doubt_each.auto.subjects, c.as_mut_slice-subjects.ensures.len)) c.doubt_each.ensures
    c.as_mut_slice-subjects.ensures.value

pub invariant_of-self : goal.invariant_of-self
invariant_of-self g c =
    let view = view_of c.args.self.now.client in
    let items = c.args.self.now.subjects.items in
    let back = written g (goal.at.invariant_of-self g c).After-doubt_each in
    record {
      counted = subst (All (IsCounted view)) (sym back)
          (All_changed (IsCounted view) doubted items (λ subject counted. counted) c.args.self.now.counted);
      found = none_found c.new.result _ c.new.ensures;
      still = none_but (is_still view) c.new.result.count _ _ c.new.ensures;
      rest = none_but (is_quiet view) c.new.result.count _ _ c.new.ensures;
      own = λ going. subst (λ all. AreOwn all view.pending) (sym back)
          (own_doubted items view.pending (c.args.self.now.own going));
    }

pub returns-clause-subjects : goal.returns-clause-subjects
returns-clause-subjects g c = written g (goal.at.returns-clause-subjects g c).After-doubt_each
