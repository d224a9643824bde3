-- One more place is marked: `marked_more`. At the end all are.
use Rattle.std.proofs.Common.{◌≤◌, ◌∙◌, ap, arith, length}
use Rattle.std.proofs.lemmas.List.{take_all}
use Rattle.zk_follow.specs.Following.{is_among}
use Rattle.zk_follow.proofs.Parting.{marked_more}
use Rattle.zk_follow.proofs.leaving.mark_each.Goals as goal

pub loop-place-preserved : goal.loop-place-preserved
loop-place-preserved g c = record {
  size = c.mark.ensures.size ∙ c.loop-place.invariant.size;
  marked = marked_more c.args.places.now c.loop-place.place-index c.args.size c.loop-place.marks.items c.mark.new.marks.items
      c.loop-place-test.true c.mark.ensures.kept (λ fits. c.mark.ensures.marked (omega (arith, fits, c.loop-place.invariant.size)))
      c.loop-place.invariant.marked;
}

pub returns-clause-marked : goal.returns-clause-marked
returns-clause-marked g c = λ at fits among.
    let past : length c.args.places.now ≤ c.loop-place.place-index = omega (arith, c.loop-place-test.false) in
    c.loop-place.invariant.marked at fits (ap (is_among at) (take_all c.loop-place.place-index c.args.places.now past) ∙ among)
