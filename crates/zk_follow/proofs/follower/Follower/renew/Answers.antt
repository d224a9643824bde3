-- All subjects are written back as due (`mapped_back`), so they are counted (`begun_counted`), and followed, since a new client is not
-- connected (`begun_followed`, `not_connected`).
use Rattle.std.proofs.Common.{◌≡◌, ◌≢◌, ◌++◌, ap, arith, drop, length, map, subst, sym, take}
use Rattle.std.specs.Prelude.{All}
use Rattle.zk_session.specs.declared.states.State.TheVariants.{Connected}
use Rattle.zk_turns.specs.View.{View}
use Rattle.zk_client.specs.Clients.{view_of}
use Rattle.zk_follow.specs.Following.{due_again, is_quiet, is_still, IsCounted}
use Rattle.zk_follow.proofs.Visiting.{begun_counted, begun_followed, mapped_back, not_connected}
use Rattle.zk_follow.proofs.Finding.{none_but, none_found}
use Rattle.zk_follow.proofs.Owned.{nothing_own}
use Rattle.zk_follow.proofs.follower.Follower.renew.Goals as goal
use Rattle.zk_follow.proofs.follower.Follower.renew.Goals.{After-begin_all}

written : (g : _) (c : After-begin_all g) → take c.args.self.now.subjects.len
    (c.begin_all.new.subjects ++ drop (length c.begin_all.new.subjects) c.args.self.now.subjects.items)
    ≡ map due_again c.args.self.now.subjects.items
written g c =
    mapped_back due_again c.args.self.now.subjects.len _ c.begin_all.new.subjects c.args.self.now.subjects.items
    (omega (arith, c.begin_all.auto.subjects, c.as_mut_slice-subjects.ensures.len)) c.begin_all.ensures
    c.as_mut_slice-subjects.ensures.value

pub invariant_of-self-2 : goal.invariant_of-self-2
invariant_of-self-2 g c =
    let all = written g (goal.at.invariant_of-self-2 g c).After-begin_all in
    record {
      counted = subst (All (IsCounted (view_of c.begin_client.new.client))) (sym all)
          (begun_counted (view_of c.begin_client.new.client) c.args.self.now.subjects.items);
      found = none_found c.new.result _ c.new.ensures;
      still = none_but (is_still (view_of c.begin_client.new.client)) c.new.result.count _ _ c.new.ensures;
      rest = none_but (is_quiet (view_of c.begin_client.new.client)) c.new.result.count _ _ c.new.ensures;
      own = λ going. nothing_own _ _ (ap (λ (v : View). v.pending) c.in_ok-begin_client.ensures.view);
    }

pub returns-clause-subjects : goal.returns-clause-subjects
returns-clause-subjects g c = written g (goal.at.returns-clause-subjects g c).After-begin_all

pub returns-clause-followed : goal.returns-clause-followed
returns-clause-followed g c = λ now.
    begun_followed now (view_of c.begin_client.new.client) _
    (subst (λ (v : View). v.standing.state ≢ Connected) (sym c.in_ok-begin_client.ensures.view)
    (not_connected c.args.timeout_ms (view_of c.args.self.now.client)))
