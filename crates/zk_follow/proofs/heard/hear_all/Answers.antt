-- One more output is heard: `heard_more`. The index finds the subjects still: `found_heard`.
use Rattle.std.proofs.Common.{◌≤◌, ◌∙◌, ap, arith, length, map, refl, sym}
use Rattle.std.proofs.lemmas.List.{take_all}
use Rattle.zk_client.specs.Views.{output_view, said}
use Rattle.zk_follow.specs.declared.subject.Subject.{Subject}
use Rattle.zk_follow.specs.Following.{heard_all}
use Rattle.zk_follow.proofs.Taking.{all_unheard, found_heard, heard_more}
use Rattle.zk_follow.proofs.heard.hear_all.Goals as goal

pub loop-output-init : goal.loop-output-init
loop-output-init g c = record { size = refl; heard = all_unheard c.args.now c.args.subjects.now; found = c.requires.found }

pub hear_output-requires-clause-count : goal.hear_output-requires-clause-count
hear_output-requires-clause-count g c = c.requires.count ∙ sym c.loop-output.invariant.size

pub loop-output-preserved : goal.loop-output-preserved
loop-output-preserved g c = record {
  size = c.hear_output.auto.subjects ∙ c.loop-output.invariant.size;
  heard = heard_more c.args.now c.args.subjects.now c.loop-output.subjects c.hear_output.new.subjects c.args.outputs.now
      c.loop-output.output-index c.output-item.result c.loop-output-test.true c.output-item.is c.loop-output.invariant.heard
      c.in_ok-hear_output.ensures;
  found = found_heard c.args.now c.args.index.now c.loop-output.subjects c.hear_output.new.subjects (output_view c.output-item.result)
      c.in_ok-hear_output.ensures c.loop-output.invariant.found;
}

pub returns : goal.returns
returns g c =
    let past : length c.args.outputs.now ≤ c.loop-output.output-index = omega (arith, c.loop-output-test.false) in
    c.loop-output.invariant.heard
    ∙ ap (λ outputs. map (λ (subject : Subject _). heard_all c.args.now subject (said outputs)) c.args.subjects.now)
    (take_all c.loop-output.output-index c.args.outputs.now past)
