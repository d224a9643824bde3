-- One output more is gone over: `named_more`. After the loop all are.
use Rattle.std.proofs.Common.{◌≤◌, inl, inr, ap, ◌∙◌, arith, get_or, length}
use Rattle.std.proofs.lemmas.List.{take_all}
use Rattle.std.specs.List.{list_any}
use Rattle.zk_client.specs.Views.{said}
use Rattle.zk_follow.specs.inner.Places.{is_named}
use Rattle.zk_follow.proofs.Finding.{named_more}
use Rattle.zk_follow.proofs.index.Index.add_all_named.Goals as goal

pub loop-output-preserved : goal.loop-output-preserved
loop-output-preserved g c = record {
  below = λ all. c.in_ok-add_named.ensures.below (c.loop-output.invariant.below all);
  had = λ at fits e. c.in_ok-add_named.ensures.had at fits (c.loop-output.invariant.had at fits e);
  named = λ k d fits e.
      let s = get_or c.args.subjects.now k d in
      elim (named_more (is_named s.ticket s.path) c.args.outputs.now c.loop-output.output-index c.output-item.result
      c.loop-output-test.true c.output-item.is e) [
        | inl before ↦ c.in_ok-add_named.ensures.had k fits (c.loop-output.invariant.named k d fits before)
        | inr here ↦ c.in_ok-add_named.ensures.named k d fits here
      ];
}

pub returns-clause-named : goal.returns-clause-named
returns-clause-named g c = λ k d fits e.
    let s = get_or c.args.subjects.now k d in
    let past : length c.args.outputs.now ≤ c.loop-output.output-index = omega (arith, c.loop-output-test.false) in
    c.loop-output.invariant.named k d fits
    (ap (λ outputs. list_any (is_named s.ticket s.path) (said outputs)) (take_all c.loop-output.output-index c.args.outputs.now past) ∙ e)
