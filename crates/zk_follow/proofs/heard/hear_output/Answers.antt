-- Who is none of those that the index finds is as it was: `unfound`.
use Rattle.std.proofs.Common.{◌<◌, ◌∙◌, ap, length, subst, sym}
use Rattle.std.specs.Prelude.{All}
use Rattle.zk_client.specs.Views.{output_view}
use Rattle.zk_follow.specs.Following.{is_among}
use Rattle.zk_follow.specs.inner.Places.{IsAscending}
use Rattle.zk_follow.proofs.Taking.{unfound}
use Rattle.zk_follow.proofs.heard.hear_output.Goals as goal

pub hear_each-requires-clause-ascend : goal.hear_each-requires-clause-ascend
hear_each-requires-clause-ascend g c = subst IsAscending (sym c.as_slice.ensures.value) c.in_ok-places.ensures.ascend

pub hear_each-requires-clause-below : goal.hear_each-requires-clause-below
hear_each-requires-clause-below g c =
    subst (All (λ at. at < length c.args.subjects.now)) (sym c.as_slice.ensures.value)
    (subst (λ count. All (λ at. at < count) c.in_ok-places.places.items) c.requires.count c.in_ok-places.ensures.below)

pub hear_each-requires-clause-rest : goal.hear_each-requires-clause-rest
hear_each-requires-clause-rest g c =
    λ k d within none.
    unfound c.args.now c.args.index.now.count c.args.subjects.now (output_view c.args.output.now) c.in_ok-places.places.items
    c.requires.count c.in_ok-places.ensures.hear k d within (ap (is_among k) (sym c.as_slice.ensures.value) ∙ none)
