-- All outputs were noted at the end of the loop: `all_heard`.
use Rattle.std.proofs.Common.{◌∙◌, arith}
use Rattle.zk_agent.proofs.Saying.{all_heard}
use Rattle.zk_agent.proofs.replies.heard_in.Goals as goal

pub returns : goal.returns
returns g c =
    c.loop-output.invariant ∙ all_heard c.args.outputs.now c.loop-output.output-index
    (omega (arith, c.loop-output-test.false, c.loop-output.auto.output-index-end))
