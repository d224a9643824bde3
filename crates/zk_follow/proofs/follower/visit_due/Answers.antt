-- Who was visited is followed, and who was not rests or waits: `followed_all` where there is no room left, and `followed_but` for the
-- second round.
use Rattle.std.proofs.Common.{◌≡◌, ◌<◌, ◌∙◌, ◌++◌, ◌||◌, ap, arith, get_or, length, refl, subst, sym}
use Rattle.std.specs.Prelude.{All}
use Rattle.zk_client.specs.Clients.{view_of}
use Rattle.zk_client.specs.Views.{said}
use Rattle.zk_follow.specs.Following.{how_many_reading, is_among}
use Rattle.zk_follow.specs.inner.Places.{AreSameBut, IsAscending}
use Rattle.zk_follow.proofs.Asking.{no_calls}
use Rattle.zk_follow.proofs.Breaking.{after_turns, beside, err_always}
use Rattle.zk_follow.proofs.Passing.{none_among}
use Rattle.zk_follow.proofs.Resting.{not_visited, rest_followed}
use Rattle.zk_follow.proofs.Rounds.{all_followed, both_left, both_read, both_seen, followed_all, followed_but, on_err, on_ok, visited_at}
use Rattle.zk_follow.proofs.Silent.{none_of_both}
use Rattle.zk_follow.proofs.Visiting.{asks_on, no_reads}
use Rattle.zk_follow.proofs.follower.visit_due.Goals as goal

pub visit_each-requires-clause-ascend : goal.visit_each-requires-clause-ascend
visit_each-requires-clause-ascend g c = subst IsAscending (sym c.as_slice-2.ensures.value) c.in_ok-take_first.ensures.ascend

pub visit_each-requires-clause-below : goal.visit_each-requires-clause-below
visit_each-requires-clause-below g c =
    subst (All (λ at. at < length c.args.subjects.now)) (sym c.as_slice-2.ensures.value)
    (c.in_ok-take_first.ensures.below c.requires.below)

pub visit_rest-requires-clause-ascend : goal.visit_rest-requires-clause-ascend
visit_rest-requires-clause-ascend g c = c.in_ok-take_first.ensures.ascend

pub visit_rest-requires-clause-goes_on : goal.visit_rest-requires-clause-goes_on
visit_rest-requires-clause-goes_on g c = ap (λ s. s.halted) c.in_ok-reads.ensures.asks.standing ∙ c.requires.goes_on

pub visit_rest-requires-clause-followed : goal.visit_rest-requires-clause-followed
visit_rest-requires-clause-followed g c = λ k d within cases.
    let first = c.args.subjects.now in
    let new = c.take_first.new.places.items in
    followed_but c.args.now (view_of c.args.client.now) (view_of c.visit_each.new.client) c.args.reads c.in_ok-reads.reads first
    c.visit_each.new.subjects c.args.places.now.items c.args.waiting.now.items new c.take_first.new.waiting.items c.requires.rest
    c.in_ok-take_first.ensures.kept
    (visited_at c.args.now (view_of c.args.client.now) (view_of c.visit_each.new.client) c.args.reads c.in_ok-reads.reads first
    c.visit_each.new.subjects c.as_slice-2.result.now new c.as_slice-2.ensures.value c.in_ok-reads.ensures.followed) k d
    (omega (arith, within, c.visit_each.auto.subjects)) cases

pub returns-then-not-is_room_left-clause-followed : goal.returns-then-not-is_room_left-clause-followed
returns-then-not-is_room_left-clause-followed g c =
    let first = c.args.subjects.now in
    let new = c.take_first.new.places.items in
    let view = view_of c.visit_each.new.client in
    let goes_on = ap (λ s. s.halted) c.in_ok-reads.ensures.asks.standing ∙ c.requires.goes_on in
    all_followed c.args.now view goes_on c.visit_each.new.subjects c.in_ok-reads.ensures.counted c.in_ok-reads.reads
    c.in_ok-reads.ensures.count
    (λ k d within.
    followed_all c.args.now (view_of c.args.client.now) view c.args.reads c.in_ok-reads.reads first
    c.visit_each.new.subjects c.args.places.now.items c.args.waiting.now.items new c.take_first.new.waiting.items c.requires.rest
    c.in_ok-take_first.ensures.kept
    (visited_at c.args.now (view_of c.args.client.now) (view_of c.visit_each.new.client) c.args.reads c.in_ok-reads.reads first
    c.visit_each.new.subjects c.as_slice-2.result.now new c.as_slice-2.ensures.value c.in_ok-reads.ensures.followed)
    (c.is_room_left.ensures c.if-not-is_room_left.true) k d (omega (arith, within, c.visit_each.auto.subjects)))

pub returns-then-not-is_room_left-clause-left : goal.returns-then-not-is_room_left-clause-left
returns-then-not-is_room_left-clause-left g c =
    subst (λ all. AreSameBut all c.args.subjects.now c.visit_each.new.subjects) c.as_slice-2.ensures.value
    c.in_ok-reads.ensures.left

pub returns-clause-asks : goal.returns-clause-asks
returns-clause-asks g c =
    on_ok c.visit_rest.result
    (asks_on (view_of c.args.client.now) (view_of c.visit_each.new.client) (view_of c.visit_rest.new.client)
    c.in_ok-reads.ensures.asks) c.visit_rest.ensures.asks

pub returns-clause-had : goal.returns-clause-had
returns-clause-had g c =
    on_ok c.visit_rest.result
    (λ kept at fits e. kept at (omega (arith, fits, c.visit_each.auto.subjects))
    (ap (λ b. b || is_among at c.take_first.new.waiting.items) (c.in_ok-take_first.ensures.had at fits e)))
    c.visit_rest.ensures.kept

pub returns-clause-kept : goal.returns-clause-kept
returns-clause-kept g c =
    on_ok c.visit_rest.result
    (λ kept at fits e. ap (λ b. b || is_among at c.visit_rest.new.waiting.items)
    (kept at (omega (arith, fits, c.visit_each.auto.subjects)) (c.in_ok-take_first.ensures.kept at fits e)))
    c.visit_rest.ensures.kept

pub returns-clause-left : goal.returns-clause-left
returns-clause-left g c =
    both_left c.visit_rest.result c.args.subjects.now c.visit_each.new.subjects c.visit_rest.new.subjects
    c.as_slice-2.result.now c.take_first.new.places.items c.take_first.new.waiting.items c.visit_rest.new.places.items
    c.as_slice-2.ensures.value c.visit_each.auto.subjects c.visit_rest.auto.subjects c.in_ok-reads.ensures.left
    c.visit_rest.ensures.kept c.visit_rest.ensures.left

pub returns-clause-seen : goal.returns-clause-seen
returns-clause-seen g c =
    both_seen c.visit_rest.result c.args.now c.args.subjects.now c.visit_each.new.subjects c.visit_rest.new.subjects
    c.as_slice-2.result.now c.take_first.new.places.items c.as_slice-2.ensures.value c.visit_each.auto.subjects
    c.in_ok-reads.ensures.seen c.in_ok-reads.ensures.left c.visit_rest.ensures.seen c.visit_rest.ensures.apart

pub returns-clause-reads : goal.returns-clause-reads
returns-clause-reads g c =
    both_read c.visit_rest.result c.args.now c.args.subjects.now c.visit_each.new.subjects c.visit_rest.new.subjects
    (view_of c.args.client.now) (view_of c.visit_each.new.client) (view_of c.visit_rest.new.client) (said c.args.made.now.items)
    (said c.visit_each.new.made.items) (said c.visit_rest.new.made.items) c.in_ok-reads.reads c.in_ok-reads.ensures.count
    c.visit_each.auto.subjects c.in_ok-reads.ensures.seen c.visit_rest.ensures.room c.in_ok-reads.ensures.reads
    c.visit_rest.ensures.reads

pub returns-clause-broke : goal.returns-clause-broke
returns-clause-broke g c =
    let made = c.in_ok-reads.ensures.reads in
    on_err c.visit_rest.result
    (after_turns made.calls (view_of c.args.client.now) (view_of c.visit_each.new.client) (view_of c.visit_rest.new.client)
    made.chain)
    c.visit_rest.ensures.broke

pub returns-in_err-take_first-clause-broke : goal.returns-in_err-take_first-clause-broke
returns-in_err-take_first-clause-broke g c = err_always c.from_residual.result (beside (view_of c.args.client.now))

pub returns-in_err-reads-clause-broke : goal.returns-in_err-reads-clause-broke
returns-in_err-reads-clause-broke g c = err_always c.from_residual-in_err-reads.result c.in_err-reads.ensures.broke

pub returns-then-is_nobody-clause-followed : goal.returns-then-is_nobody-clause-followed
returns-then-is_nobody-clause-followed g c =
    let view = view_of c.args.client.now in
    let places = c.args.places.now.items in
    let waiting = c.args.waiting.now.items in
    let none = none_of_both places waiting (subst (λ its. length its ≡ 0) c.as_slice.ensures.value
    (c.is_nobody.ensures.places c.if-is_nobody.true)) (c.is_nobody.ensures.waiting c.if-is_nobody.true) in
    all_followed c.args.now view c.requires.goes_on c.args.subjects.now c.requires.counted c.args.reads c.requires.count
    (λ k d within. rest_followed c.args.now view (get_or c.args.subjects.now k d)
    (c.requires.rest k d within (none_among k (places ++ waiting) none)) c.args.reads)

pub returns-then-is_nobody-clause-asks : goal.returns-then-is_nobody-clause-asks
returns-then-is_nobody-clause-asks g c = no_calls (view_of c.args.client.now)

pub returns-then-is_nobody-clause-left : goal.returns-then-is_nobody-clause-left
returns-then-is_nobody-clause-left g c = λ k d none. refl

pub returns-then-is_nobody-clause-seen : goal.returns-then-is_nobody-clause-seen
returns-then-is_nobody-clause-seen g c =
    λ k d within. not_visited c.args.now (view_of c.args.client.now) (get_or c.args.subjects.now k d)

pub returns-then-is_nobody-clause-reads : goal.returns-then-is_nobody-clause-reads
returns-then-is_nobody-clause-reads g c =
    no_reads c.args.subjects.now (view_of c.args.client.now) (said c.args.made.now.items) (how_many_reading c.args.subjects.now)
