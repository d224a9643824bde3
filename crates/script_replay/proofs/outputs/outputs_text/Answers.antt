-- The text so far tells the outputs so far: one more output adds its line, by `next_told`.
use Rattle.std.specs.Prelude.{string_bytes}
use Rattle.zk_client.specs.Views.{output_view}
use Rattle.script_words.proofs.LineLemmas.{next_told}
use Rattle.script_replay.specs.Shown.{TellsOutput}
use Rattle.script_replay.proofs.outputs.outputs_text.Goals as goal

pub loop-output-preserved : goal.loop-output-preserved
loop-output-preserved g c =
    next_told TellsOutput output_view c.args.outputs.now c.loop-output.output-index c.output-item.result (string_bytes c.loop-output.text)
    (string_bytes c.push_output.new.text)
    c.loop-output-test.true c.output-item.is c.loop-output.invariant c.in_ok-push_output.ensures
