-- The test is `any` over the whole slice (`any_from_yields_List`), and a test of what outputs say is one of the outputs (`any_said`).
use Rattle.std.proofs.Common.{◌∙◌, sym, rules, tests}
use Rattle.std.proofs.lemmas.Iterator.{YieldsList-from_slice}
use Rattle.std.proofs.lemmas.Iterator.Search.{any_from_yields_List}
use Rattle.zk_client.specs.Views.{output_view}
use Rattle.zk_follow.specs.inner.Resting.{is_about_some}
use Rattle.zk_follow.proofs.Telling.{any_said}
use Rattle.zk_follow.proofs.about.has_one_about_some.Goals as goal

pub returns : goal.returns
returns g c =
    any_from_yields_List (λ output. is_about_some (output_view output)) _ _ _ c.any.ensures.ran
    (YieldsList-from_slice c.args.outputs.now cc) (λ x b q k. search (rules, tests))
    ∙ sym (any_said is_about_some c.args.outputs.now)
