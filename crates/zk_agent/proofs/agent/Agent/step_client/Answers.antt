-- The move `Hears`: the client hears, is told of the end of the connection if a server says that the session is not its own, and subjects
-- are doubted if another epoch was seen (`hears_then`).
use Rattle.std.proofs.Common.{◌≡◌, arith, w64, ◌∙◌}
use Rattle.std.proofs.lemmas.Int.{ints}
use mir.Val.{to_z, of_z}
use Rattle.zk_agent.specs.Agents.{trail_of}
use Rattle.zk_agent.proofs.Moves.{hears_then}
use Rattle.zk_client.specs.Clients.{view_of}
use Rattle.zk_client.specs.Views.{input_view}
use Rattle.zk_agent.proofs.Breaking.{after_hears, after_leaves, err_always, err_so}
use Rattle.zk_agent.proofs.agent.Agent.step_client.Goals as goal

pub returns-clause-comes : goal.returns-clause-comes
returns-clause-comes g c =
    let hears = c.in_ok-is_lost.ensures.hears in
    let was : to_z w64 (of_z w64 c.last_zxid-was.result) ≡ c.last_zxid-was.result = omega (arith, ints) in
    hears_then c.doubt_where_risen.result c.args.now (input_view c.args.input) (trail_of c.args.self.now c.args.actions.now.items)
    (trail_of c.step_client_once.new.self c.step_client_once.new.actions.items)
    (trail_of c.leave_where_lost.new.self c.leave_where_lost.new.actions.items)
    (trail_of c.doubt_where_risen.new.self c.doubt_where_risen.new.actions.items) c.in_ok-is_lost.is_lost
    (to_z w64 (of_z w64 c.last_zxid-was.result)) hears.0 hears.1 (was ∙ c.last_zxid-was.ensures)
    c.in_ok-leave_where_lost.ensures.leaves c.doubt_where_risen.ensures.doubts

pub returns-in_err-leave_where_lost-clause-broke : goal.returns-in_err-leave_where_lost-clause-broke
returns-in_err-leave_where_lost-clause-broke g c =
    err_always c.from_residual-in_err-leave_where_lost.result
    (after_hears c.args.now (input_view c.args.input) (trail_of c.args.self.now c.args.actions.now.items)
    (trail_of c.step_client_once.new.self c.step_client_once.new.actions.items) (view_of c.leave_where_lost.new.self.asker.follower.client)
    c.in_ok-is_lost.ensures.hears.0 c.in_err-leave_where_lost.ensures.broke)

pub returns-clause-broke : goal.returns-clause-broke
returns-clause-broke g c =
    let between = trail_of c.step_client_once.new.self c.step_client_once.new.actions.items in
    let after = trail_of c.leave_where_lost.new.self c.leave_where_lost.new.actions.items in
    let last = view_of c.doubt_where_risen.new.self.asker.follower.client in
    err_so c.doubt_where_risen.result
    (λ broke. after_hears c.args.now (input_view c.args.input) (trail_of c.args.self.now c.args.actions.now.items) between last
    c.in_ok-is_lost.ensures.hears.0
    (after_leaves c.in_ok-is_lost.is_lost c.args.now between after last c.in_ok-leave_where_lost.ensures.leaves broke))
    c.doubt_where_risen.ensures.broke
