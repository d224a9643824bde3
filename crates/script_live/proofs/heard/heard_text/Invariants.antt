-- Loop over the outputs: the text tells the outputs so far. At the end they are all outputs.
use Rattle.std.proofs.Common.{take}
use Rattle.std.specs.Prelude.{string_bytes}
use Rattle.zk_client.specs.Views.{said}
use Rattle.script_live.specs.Heard.{TellsEach}
use Rattle.script_live.proofs.heard.heard_text.Given as goal

-- the text tells the outputs so far
abbrev pub invariant-loop-output : goal.invariant-loop-output
invariant-loop-output g l = TellsEach (said (take l.output-index l.outputs)) (string_bytes l.text)
