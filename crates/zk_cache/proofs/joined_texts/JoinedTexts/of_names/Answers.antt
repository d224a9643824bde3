-- A name more is one text more: `next-text`. At the end they are all names.
use Rattle.std.proofs.Common.{◌++◌, ◌∷◌, [], map, ap, refl, ◌∙◌}
use Rattle.std.proofs.lemmas.List.{take_all}
use Rattle.zk_cache.specs.Spelled.{texts_from}
use Rattle.zk_cache.specs.inner.Contents.{name_in}
use Rattle.zk_cache.proofs.SpelledLemmas.{next-text}
use Rattle.zk_cache.proofs.joined_texts.JoinedTexts.of_names.Goals as goal

pub loop-name-init : goal.loop-name-init
loop-name-init g c = rw (c.in_ok-spelled.ensures.items, c.in_ok-ends.ensures.items) (refl, refl)

pub loop-name-preserved : goal.loop-name-preserved
loop-name-preserved g c =
    let old = texts_from c.loop-name.spelled.items 0 c.loop-name.ends.items in (
      c.in_ok-push.ensures.spelled,
      next-text name_in c.args.names.now c.loop-name.name-index _ old _ c.loop-name-test.true c.loop-name.invariant.1
          (c.in_ok-push.ensures.texts ∙ (λ i. old ++ c.or_empty.ensures i ∷ [])),
    )

pub invariant_of-result : goal.invariant_of-result
invariant_of-result g c = c.loop-name.invariant.0

pub returns : goal.returns
returns g c =
    c.loop-name.invariant.1
    ∙ ap (map name_in) (take_all c.loop-name.name-index c.args.names.now c.loop-name-test.false)
