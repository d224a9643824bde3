-- One place more is gone over: `paths_more`. After the loop all are.
use Rattle.std.proofs.Common.{◌≤◌, ◌∙◌, ap, arith, length}
use Rattle.std.proofs.lemmas.List.{take_all}
use Rattle.zk_follow.specs.Following.{is_among}
use Rattle.zk_follow.proofs.Beside.{paths_more}
use Rattle.zk_follow.proofs.index.Index.add_by_paths.Goals as goal

pub loop-place-preserved : goal.loop-place-preserved
loop-place-preserved g c = record {
  below = λ all. c.in_ok-add_by_path.ensures.below (c.loop-place.invariant.below all);
  had = λ at fits e. c.in_ok-add_by_path.ensures.had at fits (c.loop-place.invariant.had at fits e);
  each = paths_more c.args.subjects.now c.args.self.now.count c.args.places.now c.loop-place.place-index
      c.index-subjects-place.result c.as_str.result.now c.loop-place.all.items c.add_by_path.new.all.items c.loop-place-test.true
      c.requires.within c.index-subjects-place.is c.as_str.ensures.text c.in_ok-add_by_path.ensures.had c.in_ok-add_by_path.ensures.each
      c.loop-place.invariant.each;
}

pub returns-clause-each : goal.returns-clause-each
returns-clause-each g c = λ k d among.
    let past : length c.args.places.now ≤ c.loop-place.place-index = omega (arith, c.loop-place-test.false) in
    c.loop-place.invariant.each k d (ap (is_among k) (take_all c.loop-place.place-index c.args.places.now past) ∙ among)
