-- One place more is moved: `moved_more`. Then they are put in order.
use Rattle.std.proofs.Common.{◌∙◌, ◌||◌, ap, length}
use Rattle.zk_follow.specs.Following.{is_among}
use Rattle.zk_follow.proofs.Moving.{all_or, in_order, moved_more}
use Rattle.zk_follow.proofs.queue.take_first.Goals as goal

pub loop-place-preserved : goal.loop-place-preserved
loop-place-preserved g c = record {
  below = λ all. c.in_ok-add_one.ensures.below (c.loop-place.invariant.below all);
  had = λ at fits e. c.in_ok-add_one.ensures.has at fits (all_or at c.in-Some.place c.loop-place.places.items
      (c.loop-place.invariant.had at fits e));
  kept = λ at fits e. moved_more at c.in-Some.place c.loop-place.places.items c.loop-place.waiting.items c.add_one.new.all.items
      c.next_of.new.waiting.items c.in-Some.ensures.some (c.in_ok-add_one.ensures.has at fits) (c.loop-place.invariant.kept at fits e);
}

pub returns-clause-below : goal.returns-clause-below
returns-clause-below g c = λ all. c.put_in_order.ensures.below (length c.args.subjects.now) (c.loop-place.invariant.below all)

pub returns-clause-had : goal.returns-clause-had
returns-clause-had g c = λ at fits e. c.put_in_order.ensures.has at (c.loop-place.invariant.had at fits e)

pub returns-clause-kept : goal.returns-clause-kept
returns-clause-kept g c = λ at fits e.
    in_order at c.loop-place.places.items c.put_in_order.new.places.items c.next_of.new.waiting.items (c.put_in_order.ensures.has at)
    (ap (λ all. is_among at c.loop-place.places.items || is_among at all) (c.next_of.ensures.none c.in_default.is)
    ∙ c.loop-place.invariant.kept at fits e)
