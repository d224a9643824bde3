-- Each turn changes one subject more: `told_more`, with nothing to tell. Between two places all are as they were, and after the last one:
-- `told_end`.
use Rattle.std.proofs.Common.{◌≡◌, ◌<◌, ◌∙◌, [], ap, arith, get_or, length, refl, rules}
use Rattle.std.proofs.lemmas.List.{length-set}
use Rattle.zk_follow.specs.Following.{woken}
use Rattle.zk_follow.proofs.Skipping.{told_more, told_end}
use Rattle.zk_follow.proofs.Telling.{whole_mapped}
use Rattle.zk_follow.proofs.heard.wake_each.Goals as goal

pub loop-place-init : goal.loop-place-init
loop-place-init g c = record { size = refl; awake = record { subjects = refl; all = refl } }

pub bounds-subjects-place : goal.bounds-subjects-place
bounds-subjects-place g c =
    let fits = c.requires.below c.loop-place.place-index 0 c.loop-place-test.true in
    omega (arith, fits, c.loop-place.invariant.size)

pub loop-place-preserved : goal.loop-place-preserved
loop-place-preserved g c =
    let change = woken c.args.now in
    let first = c.args.subjects.now in
    let subjects = c.loop-place.subjects in
    let place = get_or c.args.places.now c.loop-place.place-index 0 in
    let item = get_or subjects place c.index-subjects-place.result in
    record {
      size = length-set subjects place c.wake.new.self ∙ c.loop-place.invariant.size;
      awake = told_more change (λ subject. []) first subjects [] [] c.args.places.now c.loop-place.place-index c.requires.ascend
          c.requires.below (λ k d within none. (c.requires.rest k d within none, refl)) c.loop-place-test.true [] item
          c.wake.new.self c.loop-place.invariant.size (ap (get_or subjects place) c.index-subjects-place.is)
          c.wake.ensures refl c.loop-place.invariant.awake;
    }

pub returns : goal.returns
returns g c =
    let change = woken c.args.now in
    let first = c.args.subjects.now in
    let end : c.loop-place.place-index ≡ length c.args.places.now =
    omega (arith, c.loop-place-test.false, c.loop-place.auto.place-index-end) in
    let whole = told_end change (λ subject. []) first c.loop-place.subjects [] [] c.args.places.now c.loop-place.place-index
    c.requires.ascend c.requires.below (λ k d within none. (c.requires.rest k d within none, refl)) end c.loop-place.invariant.awake in
    whole.subjects ∙ whole_mapped change first (length first) (omega arith)

pub offset_bounds-subjects-place : goal.offset_bounds-subjects-place
offset_bounds-subjects-place g c =
    let fits = c.requires.below c.loop-place.place-index 0 c.loop-place-test.true in
    let less : get_or c.args.places.now c.loop-place.place-index 0 < length c.loop-place.subjects =
    omega (arith, fits, c.loop-place.invariant.size) in
    search rules
