-- Who is of the rest is visited, and who is not was followed: `rest_or`. Those that were visited before are as they were: `passed_over`.
use Rattle.std.proofs.Common.{◌≤◌, ◌<◌, ◌∙◌, ◌||◌, ap, arith, inl, inr, length, subst, sym}
use Rattle.std.specs.Prelude.{All}
use Rattle.zk_client.specs.Clients.{view_of}
use Rattle.zk_follow.specs.Following.{is_among}
use Rattle.zk_follow.specs.declared.reads.TheConstants.{MOST_READS}
use Rattle.zk_follow.specs.inner.Places.{IsAscending}
use Rattle.zk_follow.proofs.Breaking.{after_turns, beside, err_always}
use Rattle.zk_follow.proofs.Rounds.{all_followed, in_either, passed_over, rest_or}
use Rattle.zk_follow.proofs.Still.{in_neither}
use Rattle.zk_follow.proofs.follower.visit_rest.Goals as goal

pub take_rest-requires : goal.take_rest-requires
take_rest-requires g c = subst IsAscending (sym c.as_slice.ensures.value) c.requires.ascend

pub visit_each-requires-clause-ascend : goal.visit_each-requires-clause-ascend
visit_each-requires-clause-ascend g c = subst IsAscending (sym c.as_slice-2.ensures.value) c.in_ok-rest.ensures.ascend

pub visit_each-requires-clause-below : goal.visit_each-requires-clause-below
visit_each-requires-clause-below g c =
    subst (All (λ at. at < length c.args.subjects.now)) (sym c.as_slice-2.ensures.value) c.in_ok-rest.ensures.below

pub returns-in-Ok-clause-followed : goal.returns-in-Ok-clause-followed
returns-in-Ok-clause-followed g c =
    let first = c.args.subjects.now in
    let last = c.visit_each.new.subjects in
    let old = view_of c.args.client.now in
    let view = view_of c.visit_each.new.client in
    let goes_on = ap (λ s. s.halted) c.in_ok-_after.ensures.asks.standing ∙ c.requires.goes_on in
    all_followed c.args.now view goes_on last c.in_ok-_after.ensures.counted c.in_ok-_after._after c.in_ok-_after.ensures.count
    (λ k d within.
    rest_or c.args.now old view c.args.reads c.in_ok-_after._after first last c.args.places.now.items c.args.waiting.now.items
    c.as_slice-2.result.now
    (λ at fits e. ap (λ b. b || is_among at c.args.places.now.items) (ap (is_among at) c.as_slice-2.ensures.value)
    ∙ ap (λ places. is_among at c.in_ok-rest.rest.items || is_among at places) (sym c.as_slice.ensures.value)
    ∙ c.in_ok-rest.ensures.has at fits e)
    c.requires.followed c.in_ok-_after.ensures.followed k d (omega (arith, within, c.visit_each.auto.subjects)))

pub returns-in-Ok-clause-kept : goal.returns-in-Ok-clause-kept
returns-in-Ok-clause-kept g c = λ at fits e.
    let places = c.args.places.now.items in
    let rest = c.in_ok-rest.rest.items in
    ap (is_among at) c.in-Ok.ensures.items
    ∙ in_either at places c.args.waiting.now.items rest
    (λ f. ap (λ all. is_among at rest || is_among at all) (sym c.as_slice.ensures.value) ∙ c.in_ok-rest.ensures.has at fits f) e

pub returns-in-Ok-clause-left : goal.returns-in-Ok-clause-left
returns-in-Ok-clause-left g c = λ k d none.
    let places = c.args.places.now.items in
    let rest = c.in_ok-rest.rest.items in
    c.in_ok-_after.ensures.left k d (ap (is_among k) c.as_slice-2.ensures.value
    ∙ (in_neither k places rest (sym (ap (is_among k) c.in-Ok.ensures.items) ∙ none)).1)

pub returns-in-Ok-clause-apart : goal.returns-in-Ok-clause-apart
returns-in-Ok-clause-apart g c =
    passed_over c.args.subjects.now c.visit_each.new.subjects c.args.places.now.items c.as_slice-2.result.now
    c.in_ok-_after.ensures.left
    (λ at e. sym (ap (is_among at) c.as_slice.ensures.value)
    ∙ c.in_ok-rest.ensures.apart at (sym (ap (is_among at) c.as_slice-2.ensures.value) ∙ e))

pub returns-in-Ok-clause-room : goal.returns-in-Ok-clause-room
returns-in-Ok-clause-room g c = elim c.in_ok-_after.ensures.room [
  | inl same ↦ inl (sym c.in_ok-_after.ensures.count ∙ same)
  | inr few ↦ inr (subst (λ n. n ≤ MOST_READS) c.in_ok-_after.ensures.count few)
]

pub returns-clause-broke : goal.returns-clause-broke
returns-clause-broke g c =
    let made = c.in_ok-_after.ensures.reads in
    let view = view_of c.visit_each.new.client in
    after_turns made.calls (view_of c.args.client.now) view view made.chain (beside view)

pub returns-in_err-_after-clause-broke : goal.returns-in_err-_after-clause-broke
returns-in_err-_after-clause-broke g c = err_always c.from_residual-in_err-_after.result c.in_err-_after.ensures.broke

pub returns-in_err-rest-clause-broke : goal.returns-in_err-rest-clause-broke
returns-in_err-rest-clause-broke g c = err_always c.from_residual.result (beside (view_of c.args.client.now))
