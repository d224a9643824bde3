-- The client is a new one with this timeout: what `Client::new`, `Agent::new` and `Driver::new` ensure, one after the other.
use Rattle.std.proofs.Common.{◌≡◌, [], ap, rules, unsigned_abs, ◌∙◌, to_z, of_z, w32}
use Rattle.zk_turns.specs.Turns.{new_start}
use Rattle.zk_turns.specs.View.{view_at}
use Rattle.zk_client.specs.Clients.{view_of}
use Rattle.zk_agent.specs.declared.agent.Agent.{Agent}
use Rattle.zk_driver.proofs.driver.Driver.begin.Goals as goal

pub returns-clause-client : goal.returns-clause-client
returns-clause-client g c =
    let asked : to_z w32 (of_z w32 c.args.timeout_ms) ≡ c.args.timeout_ms = search rules in
    ap (λ (a : Agent g.row.A.Denot). view_of a.asker.follower.client) c.new-3.ensures.agent
    ∙ c.in_ok-agent.ensures.client ∙ c.new.ensures.view
    ∙ ap (λ ms. view_at (new_start (unsigned_abs ms)) []) asked
