-- One more output is heard after those before: `map_more` for the list, `one_more` for the bench, and what `pass_on_output` ensures.
use Rattle.std.proofs.Common.{ap, sym, ◌∙◌, take}
use Rattle.std.proofs.lemmas.List.{map_more}
use Rattle.zk_client.specs.Views.{said, output_view}
use Rattle.script_rehearse.specs.Heard.{heard}
use Rattle.script_rehearse.proofs.HeardLemmas.{one_more}
use Rattle.script_rehearse.proofs.heard.hear_all.Goals as goal

pub loop-output-preserved : goal.loop-output-preserved
loop-output-preserved g c =
    let outputs = c.args.outputs.now in
    let index = c.loop-output.output-index in
    let item = c.output-item.result in
    rw (map_more output_view outputs index item c.loop-output-test.true, ← c.output-item.is)
    (c.in_ok-pass_on_output.ensures ∙ ap (heard (output_view item)) c.loop-output.invariant
    ∙ sym (one_more (said (take index outputs)) (output_view item) c.args.bench.now))
