-- The loop over the inputs: the copies to hand out show those so far, so at its end they show all.
use Rattle.std.proofs.Common.{◌≡◌, map, take}
use Rattle.zk_client.specs.Views.{input_view}
use Rattle.script_replay.proofs.input_copies.copied_inputs.Given as goal

-- the inputs so far are copied
abbrev pub invariant-loop-input : goal.invariant-loop-input
invariant-loop-input g l = map (λ copies. input_view copies.handed) l.all.items ≡ map input_view (take l.input-index l.inputs)
