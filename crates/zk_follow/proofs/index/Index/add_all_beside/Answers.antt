-- One output more is gone over: `named_more`. After the loop all are.
use Rattle.std.proofs.Common.{◌≤◌, inl, inr, ap, ◌∙◌, arith, get_or, length}
use Rattle.std.proofs.lemmas.List.{take_all}
use Rattle.std.specs.List.{list_any}
use Rattle.zk_client.specs.Views.{said}
use Rattle.zk_follow.specs.inner.Resting.{is_beside}
use Rattle.zk_follow.proofs.Finding.{named_more}
use Rattle.zk_follow.proofs.index.Index.add_all_beside.Goals as goal

pub loop-output-preserved : goal.loop-output-preserved
loop-output-preserved g c = record {
  below = λ all. c.in_ok-add_beside.ensures.below (c.loop-output.invariant.below all);
  had = λ at fits e. c.in_ok-add_beside.ensures.had at fits (c.loop-output.invariant.had at fits e);
  beside = λ k d fits e.
      let s = get_or c.args.subjects.now k d in
      elim (named_more (is_beside c.args.subjects.now s.path) c.args.outputs.now c.loop-output.output-index c.output-item.result
      c.loop-output-test.true c.output-item.is e) [
        | inl before ↦ c.in_ok-add_beside.ensures.had k fits (c.loop-output.invariant.beside k d fits before)
        | inr here ↦ c.in_ok-add_beside.ensures.beside k d fits here
      ];
}

pub returns-clause-beside : goal.returns-clause-beside
returns-clause-beside g c = λ k d fits e.
    let s = get_or c.args.subjects.now k d in
    let past : length c.args.outputs.now ≤ c.loop-output.output-index = omega (arith, c.loop-output-test.false) in
    c.loop-output.invariant.beside k d fits
    (ap (λ outputs. list_any (is_beside c.args.subjects.now s.path) (said outputs))
    (take_all c.loop-output.output-index c.args.outputs.now past) ∙ e)
