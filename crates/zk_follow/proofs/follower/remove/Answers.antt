-- One is taken out that goes (`filter_removed`); where none is left, all that are there stay (`filter_whole`).
use Rattle.std.proofs.Common.{rules, ◌≡◌, ◌==◌, not, refl, sym, ap, ◌∙◌, eq-eqb}
use Rattle.std.specs.List.{filter, remove}
use Rattle.zk_follow.proofs.Unfollowing.{filter_removed, filter_whole}
use Rattle.zk_follow.proofs.follower.remove.Goals as goal

pub loop-place-init : goal.loop-place-init
loop-place-init g c = refl

pub loop-place-preserved : goal.loop-place-preserved
loop-place-preserved g c =
    let subjects = c.loop-place.subjects.items in
    let place = c.in-Some.place in
    let it = rw c.as_slice.ensures.value at c.in-Some.ensures.some in
    let removed : c.remove.new.self.items ≡ remove subjects place = search rules in
    ap (λ items. filter (λ subject. not (subject.ticket == c.args.ticket)) items) removed
    ∙ filter_removed (λ subject. not (subject.ticket == c.args.ticket)) subjects place c.remove.result it.0
    (ap not (eq-eqb _ c.args.ticket (it.1 c.remove.result)))
    ∙ c.loop-place.invariant

pub returns : goal.returns
returns g c =
    let all = rw c.as_slice.ensures.value at c.place_of.ensures.none c.in_default.is in
    sym (filter_whole (λ subject. not (subject.ticket == c.args.ticket)) c.loop-place.subjects.items all) ∙ c.loop-place.invariant
