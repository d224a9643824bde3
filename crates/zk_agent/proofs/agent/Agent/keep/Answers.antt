-- Where there is no memory for the credential, the client stands where it stood: `beside`.
use Rattle.std.proofs.Common.{refl}
use Rattle.zk_client.specs.Clients.{view_of}
use Rattle.zk_agent.proofs.Breaking.{beside, err_always}
use Rattle.zk_agent.proofs.agent.Agent.keep.Goals as goal

pub returns-in_err-add-clause-broke : goal.returns-in_err-add-clause-broke
returns-in_err-add-clause-broke g c =
    let old = c.args.self.now in
    let view = view_of old.asker.follower.client in
    err_always c.from_residual.result (beside old.timeout_ms view view refl)
