-- Of the loop over the outputs. At its end all were noted, and by `all_heard` that is `heard_in` of what the client says.
use Rattle.std.proofs.Common.{◌≡◌, [], fold, take}
use Rattle.zk_client.specs.Views.{output_view}
use Rattle.zk_agent.specs.Replies.{heard_in}
use Rattle.zk_agent.specs.inner.Replies.{heard_by}
use Rattle.zk_agent.proofs.replies.heard_in.Given as goal

-- those so far were noted
abbrev pub invariant-loop-output : goal.invariant-loop-output
invariant-loop-output g l =
    l.heard ≡ fold (λ heard output. heard_by heard (output_view output)) (heard_in []) (take l.output-index l.outputs)
