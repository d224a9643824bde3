-- After a step each subject is followed, and stays so where news are told (`followed_told`, as `report` leaves the client), and where it is
-- refused. What the client takes is as it is before that, but for the subject that is refused: `takes_refused`.
use Rattle.std.proofs.Common.{ap, rules, ◌∙◌}
use Rattle.zk_client.specs.Clients.{view_of}
use Rattle.zk_client.specs.Views.{input_view, said}
use Rattle.zk_agent.specs.Telling.{told_by}
use Rattle.zk_agent.proofs.Moves.{followed_told}
use Rattle.zk_agent.proofs.Oversized.{takes_refused}
use Rattle.zk_follow.proofs.Breaking.{after_steps, err_always}
use Rattle.zk_agent.proofs.advancing.advance.Goals as goal

pub returns-clause-takes : goal.returns-clause-takes
returns-clause-takes g c =
    let old = c.args.follower.now in
    let here = c.step_into.new.self in
    let given = said c.step_into.new.outputs.items in
    takes_refused c.args.now (input_view c.args.input) (view_of old.client) (view_of here.client) (view_of c.refuse.new.follower.client)
    old.subjects.items here.subjects.items c.report.new.follower.subjects.items c.refuse.new.follower.subjects.items
    c.args.line.now.entries.items c.report.new.line.entries.items (told_by c.args.actions.now.items)
    (told_by c.report.new.actions.items) given c.too_long_in-too_long.result c.heard_in-heard.result c.in_ok-step_into.ensures.steps
    c.in_ok-room.ensures.subjects c.in_ok-room.ensures.line c.in_ok-room.ensures.told (search rules)
    (ap view_of (c.refuse.ensures.client ∙ c.report.ensures.client)) (search rules) c.refuse.ensures.subjects

pub returns-clause-followed : goal.returns-clause-followed
returns-clause-followed g c =
    c.refuse.ensures.followed (followed_told c.args.now (view_of c.step_into.new.self.client)
    (view_of c.report.new.follower.client) c.step_into.new.self.subjects.items c.report.new.follower.subjects.items
    (ap view_of c.report.ensures.client) c.in_ok-room.ensures.subjects c.in_ok-step_into.ensures.followed)

pub returns-in_err-room-clause-broke : goal.returns-in_err-room-clause-broke
returns-in_err-room-clause-broke g c =
    let old = c.args.follower.now in
    let here = c.step_into.new.self in
    err_always c.from_residual-in_err-room.result
    (after_steps c.args.now (view_of old.client) (input_view c.args.input) old.subjects.items (view_of here.client)
    (said c.step_into.new.outputs.items) here.subjects.items (view_of c.report.new.follower.client) c.in_ok-step_into.ensures.steps
    (ap (λ client. view_of client) c.report.ensures.client))
