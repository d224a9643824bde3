-- One more subject is visited: it is followed (`followed_more`), counts as it did (`counted_more`), and all others are as they were.
use Rattle.std.proofs.Common.{◌≤◌, ◌<◌, ◌∙◌, inl, inr, refl, ap, arith, get_or, length, rules, subst}
use Rattle.std.proofs.lemmas.List.{length-set, take_all}
use Rattle.zk_client.specs.Clients.{view_of}
use Rattle.zk_client.specs.Views.{said}
use Rattle.zk_follow.specs.Following.{is_among, IsAhead}
use Rattle.zk_follow.specs.inner.Following.{Reads}
use Rattle.zk_follow.proofs.Asking.{no_calls}
use Rattle.zk_follow.proofs.Counting.{count_set, room_more}
use Rattle.zk_follow.proofs.Resting.{not_visited}
use Rattle.zk_follow.proofs.Visiting.{asks_on, holds_next, is_visited, more_reads, no_reads, seen_ahead}
use Rattle.zk_follow.proofs.Breaking.{after_turns, err_always}
use Rattle.zk_follow.proofs.Skipping.{counted_more, followed_more, same_at, same_more, same_next, seen_more}
use Rattle.zk_follow.proofs.follower.visit_each.Goals as goal

pub loop-place-init : goal.loop-place-init
loop-place-init g c = record {
  asks = no_calls (view_of c.args.client.now);
  size = refl;
  followed = λ k d within cases. elim cases [ inl among ↦ absurd cc | inr was ↦ was ];
  counted = c.requires.counted;
  seen = λ k d within. not_visited c.args.now (view_of c.args.client.now) (get_or c.args.subjects.now k d);
  same = λ k d low. refl;
  made = no_reads c.args.subjects.now (view_of c.args.client.now) (said c.args.made.now.items) c.args.reads;
  count = c.requires.count;
  room = inl refl;
  left = λ k d none. refl;
}

pub bounds-subjects-place : goal.bounds-subjects-place
bounds-subjects-place g c =
    let fits = c.requires.below c.loop-place.place-index 0 c.loop-place-test.true in
    omega (arith, fits, c.loop-place.invariant.size)

pub visit-requires-clause-counted : goal.visit-requires-clause-counted
visit-requires-clause-counted g c =
    let subjects = c.loop-place.subjects in
    let place = get_or c.args.places.now c.loop-place.place-index 0 in
    let fits = c.requires.below c.loop-place.place-index 0 c.loop-place-test.true in
    let within : place < length subjects = omega (arith, fits, c.loop-place.invariant.size) in
    let element = get_or subjects place c.index-subjects-place.result in
    c.loop-place.invariant.counted place c.index-subjects-place.result within

pub visit-requires-clause-goes_on : goal.visit-requires-clause-goes_on
visit-requires-clause-goes_on g c = ap (λ s. s.halted) c.loop-place.invariant.asks.standing ∙ c.requires.goes_on

pub visit-requires-clause-ahead : goal.visit-requires-clause-ahead
visit-requires-clause-ahead g c =
    let first = c.args.subjects.now in
    let subjects = c.loop-place.subjects in
    let index = c.loop-place.place-index in
    let place = get_or c.args.places.now index 0 in
    holds_next (λ subject. IsAhead c.args.now subject.progress) subjects first place
    (get_or subjects place c.index-subjects-place.result)
    (c.requires.below index 0 c.loop-place-test.true)
    c.requires.ahead (ap (get_or subjects place) c.index-subjects-place.is)
    (same_at c.args.places.now index subjects first c.requires.ascend c.loop-place-test.true c.loop-place.invariant.same)

pub loop-place-preserved : goal.loop-place-preserved
loop-place-preserved g c =
    let first = c.args.subjects.now in
    let subjects = c.loop-place.subjects in
    let places = c.args.places.now in
    let index = c.loop-place.place-index in
    let place = get_or places index 0 in
    let old = view_of c.args.client.now in
    let view = view_of c.loop-place.client in
    let after = view_of c.visit.new.client in
    let new = c.visit.new.self in
    let reads = c.loop-place.reads in
    let more = c.in_ok-reads.reads in
    let element = get_or subjects place c.index-subjects-place.result in
    let is = ap (get_or subjects place) c.index-subjects-place.is in
    let within = c.requires.below index 0 c.loop-place-test.true in
    let fits : place < length subjects = omega (arith, within, c.loop-place.invariant.size) in
    let same = same_at places index subjects first c.requires.ascend c.loop-place-test.true c.loop-place.invariant.same in
    record {
      asks = asks_on old view after c.loop-place.invariant.asks c.in_ok-reads.ensures.asks;
      size = length-set subjects place new ∙ c.loop-place.invariant.size;
      followed = followed_more subjects place new fits c.args.now old view after c.args.reads reads more first places index
          c.loop-place-test.true refl c.in_ok-reads.ensures.more c.in_ok-reads.ensures.asks c.in_ok-reads.ensures.followed
          c.loop-place.invariant.followed;
      counted = counted_more subjects place new fits view after c.in_ok-reads.ensures.asks c.in_ok-reads.ensures.counted
          c.loop-place.invariant.counted;
      seen = seen_more subjects place new fits c.args.now first element within is same
          (is_visited c.args.now view (said c.loop-place.made.items) reads element after
          (said c.visit.new.made.items) more new c.in_ok-reads.ensures.visits) c.loop-place.invariant.seen;
      same = same_next places index subjects first new c.requires.ascend c.loop-place-test.true c.loop-place.invariant.same;
      made = more_reads c.args.now first subjects place element old view after (said c.args.made.now.items)
          (said c.loop-place.made.items) (said c.visit.new.made.items) reads more new within is same c.loop-place.invariant.made
          c.in_ok-reads.ensures.visits;
      count = count_set subjects place element new reads more fits is c.loop-place.invariant.count c.in_ok-reads.ensures.count;
      room = room_more c.args.reads reads more c.loop-place.invariant.room c.in_ok-reads.ensures.visits.3;
      left = same_more places index first subjects new c.loop-place-test.true c.loop-place.invariant.left;
    }

pub returns-clause-followed : goal.returns-clause-followed
returns-clause-followed g c = λ k d within cases.
    let past : length c.args.places.now ≤ c.loop-place.place-index = omega (arith, c.loop-place-test.false) in
    c.loop-place.invariant.followed k d within (elim cases [
      | inl among ↦ inl (ap (is_among k) (take_all c.loop-place.place-index c.args.places.now past) ∙ among)
      | inr was ↦ inr was
    ])

pub returns-clause-ahead : goal.returns-clause-ahead
returns-clause-ahead g c =
    seen_ahead c.args.now c.ranges.now.fits c.args.subjects.now c.loop-place.subjects c.loop-place.invariant.size
    c.loop-place.invariant.seen c.requires.ahead

pub returns-clause-reads : goal.returns-clause-reads
returns-clause-reads g c =
    subst (Reads c.args.subjects.now (view_of c.args.client.now) (said c.args.made.now.items) (view_of c.loop-place.client)
    (said c.loop-place.made.items)) c.loop-place.invariant.count c.loop-place.invariant.made

pub returns-in_err-reads-clause-broke : goal.returns-in_err-reads-clause-broke
returns-in_err-reads-clause-broke g c =
    let made = c.loop-place.invariant.made in
    err_always c.from_residual.result (after_turns made.calls (view_of c.args.client.now) (view_of c.loop-place.client)
    (view_of c.visit.new.client) made.chain c.in_err-reads.ensures.broke)

pub offset_bounds-subjects-place : goal.offset_bounds-subjects-place
offset_bounds-subjects-place g c =
    let fits = c.requires.below c.loop-place.place-index 0 c.loop-place-test.true in
    let less : get_or c.args.places.now c.loop-place.place-index 0 < length c.loop-place.subjects =
    omega (arith, fits, c.loop-place.invariant.size) in
    search rules
