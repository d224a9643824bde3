-- Of the loop over the outputs. At its end all were gone through, and by `fold_said` that is `too_long_in` of what the client says.
use Rattle.std.proofs.Common.{◌≡◌, fold, take}
use Rattle.zk_client.specs.Views.{output_view}
use Rattle.zk_agent.specs.Overlong.{found_by, nothing_found}
use Rattle.zk_agent.proofs.overlong.too_long_in.Given as goal

-- what was found so far
abbrev pub invariant-loop-output : goal.invariant-loop-output
invariant-loop-output g l =
    l.seeking ≡ fold (λ seeking output. found_by seeking (output_view output)) nothing_found (take l.output-index l.outputs)
