-- One place more is gone over: `rest_more`. At the end none waits, and they are put in order.
use Rattle.std.proofs.Common.{◌≡◌, ◌<◌, ◌∙◌, ap, arith, length, subst, sym}
use Rattle.std.proofs.lemmas.List.{nil_from_length}
use Rattle.std.specs.Prelude.{All}
use Rattle.zk_follow.specs.Following.{is_among}
use Rattle.zk_follow.proofs.Moving.{in_order, rest_all, rest_first, rest_more}
use Rattle.zk_follow.proofs.queue.take_rest.Goals as goal

pub loop-place-init : goal.loop-place-init
loop-place-init g c = record {
  below = subst (All (λ at. at < c.args.count)) (sym c.new-all.ensures.items) (λ k d within. absurd (omega (arith, within)));
  apart = λ at e. absurd (let f = sym (ap (is_among at) c.new-all.ensures.items) ∙ e in cc);
  has = λ at fits e. rest_first at c.args.waiting.now.items c.new-all.result.items c.args.places.now e;
}

pub loop-place-preserved : goal.loop-place-preserved
loop-place-preserved g c = record {
  below = c.in_ok-add_apart.ensures.below c.loop-place.invariant.below;
  apart = c.in_ok-add_apart.ensures.apart c.loop-place.invariant.apart;
  has = λ at fits e. rest_more at c.in-Some.place c.loop-place.all.items c.loop-place.waiting.items c.add_apart.new.all.items
      c.pop_front.new.self.items c.args.places.now c.in-Some.ensures.items (c.in_ok-add_apart.ensures.has at fits)
      (c.loop-place.invariant.has at fits e);
}

pub returns-clause-below : goal.returns-clause-below
returns-clause-below g c = c.put_in_order.ensures.below c.args.count c.loop-place.invariant.below

pub returns-clause-apart : goal.returns-clause-apart
returns-clause-apart g c = λ at e. c.loop-place.invariant.apart at (c.put_in_order.ensures.from at e)

pub returns-clause-has : goal.returns-clause-has
returns-clause-has g c = λ at fits e.
    let waiting = c.loop-place.waiting in
    let both = rw c.in_default.is at c.pop_front.ensures.cases in
    let none : length waiting.items ≡ 0 = omega (arith, both.0, waiting.ok.0) in
    in_order at c.loop-place.all.items c.put_in_order.new.places.items c.args.places.now (c.put_in_order.ensures.has at)
    (rest_all at c.loop-place.all.items c.args.places.now waiting.items (nil_from_length waiting.items none)
    (c.loop-place.invariant.has at fits e))
