-- The turns of the client alone are a step of no subjects: `steps_alone`.
use Rattle.zk_client.specs.Clients.{view_of}
use Rattle.zk_client.specs.Views.{input_view, said}
use Rattle.zk_follow.proofs.Breaking.{within_step}
use Rattle.zk_follow.proofs.Visiting.{steps_alone}
use Rattle.zk_follow.proofs.follower.step_alone.Goals as goal

pub returns-in-Ok-clause-steps : goal.returns-in-Ok-clause-steps
returns-in-Ok-clause-steps g c =
    steps_alone c.args.now (view_of c.args.client.now) (input_view c.args.input) (said c.step_at_into.new.outputs.items)
    (view_of c.step_at_into.new.self) c.args._subjects.now c.requires c.in-Ok.ensures.rule

pub returns-in-Err-clause-broke : goal.returns-in-Err-clause-broke
returns-in-Err-clause-broke g c =
    within_step c.args.now (view_of c.args.client.now) (view_of c.step_at_into.new.self) c.in-Err.ensures.halt
