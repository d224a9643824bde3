-- Loop over the outputs: the unsent bytes are those of before and the frames of the outputs so far, at the end of all.
use Rattle.std.proofs.Common.{◌≡◌, ◌++◌, take}
use Rattle.zk_client.specs.Views.{said}
use Rattle.script_live.specs.Frames.{frames}
use Rattle.script_live.proofs.send.queue.Given as goal

-- the frames so far
abbrev pub invariant-loop-output : goal.invariant-loop-output
invariant-loop-output g l = l.unsent.items ≡ l.fn.unsent.items ++ frames (said (take l.output-index l.outputs))
