-- The loop over the outputs: the paths that those before the index report are there, and no others; at the end these are all.
use Rattle.std.proofs.Common.{take}
use Rattle.zk_client.specs.Views.{said}
use Rattle.zk_follow.specs.inner.Reported.{AreReported}
use Rattle.zk_follow.proofs.reported.Reported.of.Given as goal

-- those so far
abbrev pub invariant-loop-output : goal.invariant-loop-output
invariant-loop-output g l = AreReported l.reported (said (take l.output-index l.outputs))
