-- A path that fits joins the open part (`so_far-fits`), else that part is cut before it (`so_far-cut`). At the end the open part is the
-- last one (`so_far-last`), or there is none (`so_far-all`), and what is so cut is `parts` (`parts_are_one`). Each part made has the zxid.
use Rattle.std.proofs.Common.{◌≡◌, ◌<◌, ◌++◌, ◌∷◌, [], take, drop, length, All, arith, ◌∙◌, ap, refl, subst, w64, to_z, of_z}
use Rattle.std.proofs.lemmas.Int.{to_z-of_z}
use Rattle.std.proofs.lemmas.List.{map-append}
use Rattle.std.proofs.lemmas.List.Elements.{All-push}
use Rattle.zk_watches.specs.Parts.{watches_of}
use Rattle.zk_watches.specs.Lent.{lists_of}
use Rattle.zk_watches.proofs.GreedyLemmas.{parts_are_one}
use Rattle.zk_watches.proofs.PartsLemmas.{so_far-fits, so_far-cut, so_far-last, so_far-all}
use Rattle.zk_watches.proofs.in_order.InOrder.parts.Goals as goal
use Rattle.zk_watches.proofs.in_order.InOrder.parts.Goals.{then-weight-more-gt-MOST_WEIGHT+in_ok-push, else-weight-more-gt-MOST_WEIGHT}
use Rattle.zk_watches.proofs.in_order.InOrder.parts.Goals.{then-start-count+in_ok-push-2, else-start-count}

pub loop-at-preserved : goal.loop-at-preserved
loop-at-preserved g c =
    let in_list : c.loop-at.at < length (watches_of c.args.self.now) = omega (arith, c.loop-at.invariant.2) in (
      elim c.if-weight-more-gt-MOST_WEIGHT.branch [
        | then-weight-more-gt-MOST_WEIGHT+in_ok-push w ↦
            rw (
              w.parts-is,
              w.start-is,
              w.weight-is,
              w.in_ok-push.ensures.items,
              map-append lists_of c.loop-at.parts.items (w.part.result ∷ []),
            )
            (so_far-cut _ _ _ _ _ c.loop-at.invariant.0 (omega arith) (lists_of w.part.result) w.part.ensures.watches
            c.weight_at-more.result in_list c.weight_at-more.ensures.weight c.weight_at-more.ensures.most
            w.if-weight-more-gt-MOST_WEIGHT.true)
        | else-weight-more-gt-MOST_WEIGHT w ↦
            rw (w.parts-is, w.start-is, w.weight-is) (so_far-fits _ _ _ _ _ c.loop-at.invariant.0 c.weight_at-more.result in_list
            c.weight_at-more.ensures.weight (omega (arith, w.if-weight-more-gt-MOST_WEIGHT.false)))
      ],
      elim c.if-weight-more-gt-MOST_WEIGHT.branch [
        | then-weight-more-gt-MOST_WEIGHT+in_ok-push w ↦
            rw (w.parts-is, w.in_ok-push.ensures.items) (All-push (λ part. part.relative_zxid ≡ to_z w64 (of_z w64 c.args.relative))
            c.loop-at.parts.items w.part.result c.loop-at.invariant.1 w.part.ensures.relative)
        | else-weight-more-gt-MOST_WEIGHT w ↦ rw w.parts-is c.loop-at.invariant.1
      ],
      c.loop-at.invariant.2,
    )

pub returns-clause-parts : goal.returns-clause-parts
returns-clause-parts g c =
    let end : c.loop-at.at ≡ length (watches_of c.args.self.now) = omega (arith, c.loop-at.invariant.2, c.loop-at.auto.at-end) in
    let whole : c.len-count.result ≡ c.loop-at.at = omega (arith, c.len-count.ensures.len, c.loop-at.invariant.2, c.loop-at.auto.at-end) in
    elim c.if-start-count.branch [
      | then-start-count+in_ok-push-2 w ↦
          rw (w.parts-is, w.in_ok-push-2.ensures.items, map-append lists_of c.loop-at.parts.items (w.part-then-start-count.result ∷ []))
          (parts_are_one _ _ (so_far-last _ _ _ _ _ c.loop-at.invariant.0 (omega (arith, end)) (lists_of w.part-then-start-count.result)
          (w.part-then-start-count.ensures.watches ∙ ap (λ n. drop c.loop-at.start (take n (watches_of c.args.self.now))) whole) _ refl
          end (omega (arith, w.if-start-count.true, c.loop-at.auto.at-end))))
      | else-start-count w ↦
          rw w.parts-is (parts_are_one _ _ (so_far-all _ _ _ _ _ c.loop-at.invariant.0 _ refl end (omega (arith, w.if-start-count.false))))
    ]

pub returns-clause-relative : goal.returns-clause-relative
returns-clause-relative g c =
    let zxid : to_z w64 (of_z w64 c.args.relative) ≡ c.args.relative = to_z-of_z w64 c.args.relative c.ranges.relative in
    elim c.if-start-count.branch [
      | then-start-count+in_ok-push-2 w ↦
          rw (w.parts-is, w.in_ok-push-2.ensures.items)
          (subst (λ z. All (λ part. part.relative_zxid ≡ z) (c.loop-at.parts.items ++ w.part-then-start-count.result ∷ [])) zxid
          (All-push (λ part. part.relative_zxid ≡ to_z w64 (of_z w64 c.args.relative)) c.loop-at.parts.items w.part-then-start-count.result
          c.loop-at.invariant.1 w.part-then-start-count.ensures.relative))
      | else-start-count w ↦
          rw w.parts-is (subst (λ z. All (λ part. part.relative_zxid ≡ z) c.loop-at.parts.items) zxid c.loop-at.invariant.1)
    ]
