-- The search through the actions tests each of them (`any_from_yields_List`), and by `any_told` that is the test of what they tell.
use Rattle.std.proofs.Common.{◌∙◌, sym, rules, tests}
use Rattle.std.proofs.lemmas.Iterator.{YieldsList-from_slice}
use Rattle.std.proofs.lemmas.Iterator.Search.{any_from_yields_List}
use Rattle.zk_agent.specs.Telling.{action_view}
use Rattle.ffi_device.specs.Revisions.{is_another}
use Rattle.ffi_device.proofs.Told.{any_told}
use Rattle.ffi_device.proofs.revisions.has_another.Goals as goal

pub returns : goal.returns
returns c =
    any_from_yields_List (λ output. is_another (action_view output)) _ _ _ c.any.ensures.ran
    (YieldsList-from_slice c.args.actions.now cc) (λ x b q k. search (rules, tests)) ∙ sym (any_told is_another c.args.actions.now)
