-- One input more is copied: `one_more`, from what `push` and `two_copies` ensure.
use Rattle.std.proofs.Common.{arith, ap, ◌∙◌, map}
use Rattle.zk_client.specs.Views.{input_view}
use Rattle.script_replay.proofs.Copying.{one_more}
use Rattle.script_replay.proofs.input_copies.copied_inputs.Goals as goal

pub loop-input-preserved : goal.loop-input-preserved
loop-input-preserved g c =
    ap (map (λ copies. input_view copies.handed)) c.in_ok-push.ensures.items
    ∙ one_more (λ copies. input_view copies.handed) input_view c.loop-input.all.items c.args.inputs.now c.loop-input.input-index
    c.in_ok-two_copies.field-0 c.input-item.result
    (omega arith) c.input-item.is c.in_ok-two_copies.ensures c.loop-input.invariant
