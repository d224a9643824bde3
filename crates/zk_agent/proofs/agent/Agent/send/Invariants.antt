-- The loop of `send`: all so far are moves of the agent's own, and once it is to stop, none waits for its turn or none can be sent: that is
-- what holds at the end. The calls that wait become fewer.
use Rattle.std.proofs.Common.{◌≡◌, ◌≢◌, ◌+◌, true, false, cond, []}
use Rattle.std.specs.Prelude.{All}
use Rattle.zk_session.specs.declared.states.State.{State}
use Rattle.zk_session.specs.declared.states.State.TheVariants.{Connected}
use Rattle.zk_session.specs.States.{is_final}
use Rattle.zk_client.specs.Clients.{view_of}
use Rattle.zk_follow.specs.Following.{AreFollowed}
use Rattle.zk_agent.specs.Agents.{trail_of}
use Rattle.zk_agent.specs.inner.Agents.{Acts}
use Rattle.zk_agent.specs.inner.Calls.{how_many_wait, IsDone}
use Rattle.zk_agent.specs.Calls.{IsInTime}
use Rattle.zk_agent.proofs.agent.Agent.send.Given as goal

-- so far calls were handed over, and where no further one is to be, none can be or none waits
abbrev pub invariant-loop-goes_on : goal.invariant-loop-goes_on
invariant-loop-goes_on g l = record {
  comes : Acts l.now [] (trail_of l.fn.self l.fn.actions.items) (trail_of l.self l.actions.items);
  followed : AreFollowed l.now (view_of l.self.asker.follower.client) l.self.asker.follower.subjects.items;
  limits : All (IsInTime l.now) l.fn.self.asker.line.entries.items → All (IsInTime l.now) l.self.asker.line.entries.items;
  same : (view_of l.fn.self.asker.follower.client).standing.state ≢ Connected → l.self.asker ≡ l.fn.self.asker;
  ends : (state : State) → is_final state ≡ true → (view_of l.self.asker.follower.client).standing.state ≡ state
      → (view_of l.fn.self.asker.follower.client).standing.state ≡ state;
  done : l.goes_on ≡ false → IsDone (view_of l.self.asker.follower.client) l.self.asker.line.entries.items;
}

-- each that is handed over waits for its turn no more
abbrev pub decreases-loop-goes_on : goal.decreases-loop-goes_on
decreases-loop-goes_on g l = cond l.goes_on (how_many_wait l.self.asker.line.entries.items + 1) 0
