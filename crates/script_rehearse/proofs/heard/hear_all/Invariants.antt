-- Loop over the outputs: the bench has heard the outputs so far. At the end they are all outputs.
use Rattle.std.proofs.Common.{◌≡◌, take}
use Rattle.zk_client.specs.Views.{said}
use Rattle.script_rehearse.specs.Heard.{heard_all}
use Rattle.script_rehearse.proofs.heard.hear_all.Given as goal

-- the outputs so far are heard
abbrev pub invariant-loop-output : goal.invariant-loop-output
invariant-loop-output g l = l.bench ≡ heard_all (said (take l.output-index l.outputs)) l.initial.bench
