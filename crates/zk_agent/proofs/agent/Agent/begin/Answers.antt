-- Where there is no memory to tell that another session has begun, it has begun: `after_renewal`.
use Rattle.std.proofs.Common.{rules, ◌≡◌, []}
use Rattle.zk_turns.specs.View.{view_at}
use Rattle.zk_client.specs.Clients.{renewed_start, view_of}
use Rattle.zk_agent.proofs.Breaking.{after_renewal, beside, err_always}
use Rattle.zk_agent.proofs.agent.Agent.begin.Goals as goal

pub returns-in_err-renew-clause-broke : goal.returns-in_err-renew-clause-broke
returns-in_err-renew-clause-broke g c =
    let old = c.args.self.now in
    err_always c.from_residual.result
    (beside old.timeout_ms (view_of old.asker.follower.client) (view_of c.renew.new.self.follower.client) c.in_err-renew.ensures.same)

pub returns-in-Err-clause-broke : goal.returns-in-Err-clause-broke
returns-in-Err-clause-broke g c =
    let old = c.args.self.now in
    let view = view_of old.asker.follower.client in
    let new = view_of c.renew.new.self.follower.client in
    let is : new ≡ view_at (renewed_start old.timeout_ms view) [] = search rules in
    after_renewal old.timeout_ms view new c.requires is
