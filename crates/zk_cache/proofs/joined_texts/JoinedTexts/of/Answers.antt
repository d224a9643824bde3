-- A text more is one text more: `next-text`. At the end they are all texts.
use Rattle.std.proofs.Common.{map, ap, refl, ◌∙◌}
use Rattle.std.proofs.lemmas.List.{take_all}
use Rattle.zk_cache.proofs.SpelledLemmas.{next-text}
use Rattle.zk_cache.proofs.joined_texts.JoinedTexts.of.Goals as goal

pub loop-segment-init : goal.loop-segment-init
loop-segment-init g c = rw (c.in_ok-spelled.ensures.items, c.in_ok-ends.ensures.items) (refl, refl)

pub loop-segment-preserved : goal.loop-segment-preserved
loop-segment-preserved g c = (
  c.in_ok-push.ensures.spelled,
  next-text (λ text. text.now) c.args.texts.now c.loop-segment.segment-index _ _ _ c.loop-segment-test.true c.loop-segment.invariant.1
      c.in_ok-push.ensures.texts,
)

pub invariant_of-result : goal.invariant_of-result
invariant_of-result g c = c.loop-segment.invariant.0

pub returns : goal.returns
returns g c =
    c.loop-segment.invariant.1
    ∙ ap (map (λ text. text.now)) (take_all c.loop-segment.segment-index c.args.texts.now c.loop-segment-test.false)
