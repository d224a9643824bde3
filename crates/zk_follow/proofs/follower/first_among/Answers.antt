-- One place more is gone over: `first_more`, `above_more`. After the loop all are: `first_of_all`.
use Rattle.std.proofs.Common.{◌≤◌, arith, length, refl, subst}
use Rattle.std.proofs.lemmas.List.{take_all}
use Rattle.zk_follow.proofs.Again.{above_more, first_more, first_of_all, IsFirstOf}
use Rattle.zk_follow.proofs.follower.first_among.Goals as goal

pub loop-place-init : goal.loop-place-init
loop-place-init g c = record { least = λ k d within among. absurd cc; above = refl }

pub loop-place-preserved : goal.loop-place-preserved
loop-place-preserved g c = record {
  least = first_more c.args.subjects.now c.args.places.now c.loop-place.place-index c.loop-place-test.true c.loop-place.first
      c.first_with-first.result c.first_with-first.ensures.there c.first_with-first.ensures.beyond c.loop-place.invariant.least;
  above = above_more c.args.subjects.now c.args.places.now c.loop-place.place-index c.loop-place-test.true c.loop-place.first
      c.first_with-first.result c.first_with-first.ensures.there c.first_with-first.ensures.beyond c.loop-place.invariant.above;
}

pub returns : goal.returns
returns g c =
    let places = c.args.places.now in
    let past : length places ≤ c.loop-place.place-index = omega (arith, c.loop-place-test.false) in
    first_of_all c.args.subjects.now places c.loop-place.first c.requires
    (subst (λ l. IsFirstOf c.loop-place.first c.args.subjects.now l) (take_all c.loop-place.place-index places past)
    c.loop-place.invariant.least) c.loop-place.invariant.above
