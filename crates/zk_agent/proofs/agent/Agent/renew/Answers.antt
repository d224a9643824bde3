-- By the test of an expiry: after an expiry the move is `Renews`, and the client is idle (`renewed`, `begun`); else nothing happens.
use Rattle.std.proofs.Common.{ap}
use Rattle.zk_client.specs.Clients.{view_of}
use Rattle.zk_agent.specs.Agents.{trail_of}
use Rattle.zk_agent.specs.Waits.{waited_of}
use Rattle.zk_agent.proofs.Moves.{begun, followed_ok, nothing, renewed}
use Rattle.zk_agent.proofs.agent.Agent.renew.Goals as goal

pub returns-then-is_expired-clause-comes : goal.returns-then-is_expired-clause-comes
returns-then-is_expired-clause-comes g c = λ now.
    renewed c.begin.result now (trail_of c.args.self.now c.args.actions.now.items) (trail_of c.begin.new.self c.begin.new.actions.items)
    (c.is_expired.ensures.yes c.if-is_expired.true) c.begin.ensures.view c.begin.ensures.subjects c.begin.ensures.dialler
    c.begin.ensures.timeout (ap waited_of c.begin.ensures.waits) c.begin.ensures.line c.begin.ensures.told

pub returns-then-is_expired-clause-renewed : goal.returns-then-is_expired-clause-renewed
returns-then-is_expired-clause-renewed g c =
    begun c.begin.result c.args.self.now.timeout_ms (view_of c.args.self.now.asker.follower.client)
    (view_of c.begin.new.self.asker.follower.client) c.begin.ensures.view

pub returns-then-is_expired-clause-followed : goal.returns-then-is_expired-clause-followed
returns-then-is_expired-clause-followed g c = λ now all. followed_ok _ c.begin.result now c.begin.ensures.followed

pub returns-clause-comes : goal.returns-clause-comes
returns-clause-comes g c = λ now. nothing now (trail_of c.args.self.now c.args.actions.now.items)

pub returns-clause-renewed : goal.returns-clause-renewed
returns-clause-renewed g c = c.is_expired.ensures.no c.if-is_expired.false

pub returns-clause-followed : goal.returns-clause-followed
returns-clause-followed g c = λ now all. all
