-- The loop over the outputs: the subject has heard those before the index, one after the other. At the end it has heard all.
use Rattle.std.proofs.Common.{◌≡◌, fold, take}
use Rattle.zk_client.specs.Views.{output_view}
use Rattle.zk_follow.specs.Following.{heard}
use Rattle.zk_follow.proofs.subject.Subject.note_outputs.Given as goal

-- what was heard so far
abbrev pub invariant-loop-output : goal.invariant-loop-output
invariant-loop-output g l =
    l.self ≡ fold (λ subject output. heard l.now subject (output_view output)) l.fn.self (take l.output-index l.outputs)
