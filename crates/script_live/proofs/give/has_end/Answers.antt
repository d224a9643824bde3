-- The search through the outputs tests each of them (`any_from_yields_List`), and by `ends_said` that is the test of what they say.
use Rattle.std.proofs.Common.{◌∙◌, sym, rules, tests}
use Rattle.std.proofs.lemmas.Iterator.{YieldsList-from_slice}
use Rattle.std.proofs.lemmas.Iterator.Search.{any_from_yields_List}
use Rattle.zk_turns.specs.Turns.{ends_connection}
use Rattle.zk_client.specs.Views.{output_view}
use Rattle.script_live.proofs.GiveLemmas.{ends_said}
use Rattle.script_live.proofs.give.has_end.Goals as goal

pub returns : goal.returns
returns g c =
    any_from_yields_List (λ output. ends_connection (output_view output)) _ _ _ c.any.ensures.ran
    (YieldsList-from_slice c.args.outputs.now cc) (λ x b q k. search (rules, tests)) ∙ sym (ends_said c.args.outputs.now)
