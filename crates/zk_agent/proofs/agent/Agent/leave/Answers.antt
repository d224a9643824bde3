-- A server is left that is late: the connection is hung up, the client hears the cut, and nothing waits after it (`left_late`).
use Rattle.std.proofs.Common.{◌++◌, ◌∷◌, [], refl, ap}
use Rattle.zk_client.specs.Clients.{view_of}
use Rattle.zk_agent.specs.declared.asker.Asker.{Asker}
use Rattle.zk_agent.specs.Agents.{trail_of}
use Rattle.zk_agent.specs.Telling.{HangsUp}
use Rattle.zk_agent.specs.Waits.{nothing_waits, waited_of}
use Rattle.zk_agent.proofs.Breaking.{beside, err_always}
use Rattle.zk_agent.proofs.Moves.{trail_eq}
use Rattle.zk_agent.proofs.Leaving.{left_late}
use Rattle.zk_agent.proofs.agent.Agent.leave.Goals as goal

pub returns-clause-leaves : goal.returns-clause-leaves
returns-clause-leaves g c =
    let old = trail_of c.args.self.now c.args.actions.now.items in
    let between = trail_of c.hang_up.new.self c.hang_up.new.actions.items in
    let after = trail_of c.hear_cut.new.self c.hear_cut.new.actions.items in
    let new = trail_of (record c.hear_cut.new.self { waits = c.clear.new.self }) c.hear_cut.new.actions.items in
    left_late c.args.now old between after new c.requires c.in_ok-hang_up.ensures.ends
    (trail_eq (record old { dialler = between.dialler; told = old.told ++ HangsUp ∷ [] }) between
    (ap (λ (a : Asker g.row.A.Denot). view_of a.follower.client) c.hang_up.ensures.asker)
    (ap (λ (a : Asker g.row.A.Denot). a.follower.subjects.items) c.hang_up.ensures.asker)
    (ap (λ (a : Asker g.row.A.Denot). a.line.entries.items) c.hang_up.ensures.asker) refl
    c.hang_up.ensures.timeout (ap waited_of c.hang_up.ensures.waits) c.in_ok-hang_up.ensures.told)
    c.in_ok-hear_cut.ensures.hears (trail_eq (record after { waits = nothing_waits }) new refl refl refl refl refl c.clear.ensures refl)

pub returns-in_err-hang_up-clause-broke : goal.returns-in_err-hang_up-clause-broke
returns-in_err-hang_up-clause-broke g c =
    let old = c.args.self.now in
    let view = view_of old.asker.follower.client in
    err_always c.from_residual.result (beside old.timeout_ms view (view_of c.hang_up.new.self.asker.follower.client)
    (ap (λ (a : Asker g.row.A.Denot). view_of a.follower.client) c.hang_up.ensures.asker))
