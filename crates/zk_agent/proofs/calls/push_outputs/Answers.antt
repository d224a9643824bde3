-- One more output is told, and heard by the line: `told_more` and `heard_more`, of the first of those that were left.
use Rattle.std.proofs.Common.{ap}
use Rattle.zk_client.specs.Views.{output_view, said}
use Rattle.zk_agent.specs.Telling.{told_by}
use Rattle.zk_agent.proofs.Saying.{heard_more, told_more}
use Rattle.zk_agent.proofs.calls.push_outputs.Goals as goal

pub loop-output-preserved : goal.loop-output-preserved
loop-output-preserved g c =
    let line = c.loop-output.line.entries.items in
    let left = said c.loop-output.left.items in
    let is = ap said c.in-Some.ensures.items in
    record {
      told = told_more line c.push_output.new.line.entries.items (told_by c.loop-output.actions.items)
          (told_by c.push_output.new.actions.items) _ (output_view c.in-Some.output)
          (said c.pop_front.new.self.items) left is c.in_ok-push_output.ensures.line c.in_ok-push_output.ensures.told
          c.loop-output.invariant.told;
      line = heard_more line c.push_output.new.line.entries.items _ (output_view c.in-Some.output)
          (said c.pop_front.new.self.items) left is c.in_ok-push_output.ensures.line c.loop-output.invariant.line;
    }
