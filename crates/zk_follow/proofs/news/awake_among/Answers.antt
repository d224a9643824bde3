-- One more place is gone over: `awake_more`. After the loop all are.
use Rattle.std.proofs.Common.{◌≤◌, ◌∙◌, ◌||◌, ap, arith, length}
use Rattle.std.proofs.lemmas.List.{take_all}
use Rattle.zk_client.specs.Clients.{view_of}
use Rattle.zk_follow.specs.Following.{is_among, is_quiet, is_still}
use Rattle.zk_follow.proofs.Finding.{awake_more}
use Rattle.zk_follow.proofs.Moving.{either_more}
use Rattle.zk_follow.proofs.news.awake_among.Goals as goal

pub loop-place-init : goal.loop-place-init
loop-place-init g c = record {
  kept = λ at e. e;
  still = λ k d within among none. absurd cc;
  quiet = λ k d within among none. absurd cc;
}

pub loop-place-preserved : goal.loop-place-preserved
loop-place-preserved g c =
    let awake = c.loop-place.awake.items in
    let waiting = c.loop-place.waiting.items in
    let more = c.add_awake.new.awake.items in
    let last = c.add_awake.new.waiting.items in
    record {
      kept = λ at e. c.in_ok-add_awake.ensures.kept at (c.loop-place.invariant.kept at e);
      still = awake_more (is_still (view_of c.args.client.now)) c.args.subjects.now c.args.places.now c.loop-place.place-index
          (λ at. is_among at awake) (λ at. is_among at more) c.index-subjects-place.result c.loop-place-test.true
          c.index-subjects-place.is c.in_ok-add_awake.ensures.had c.in_ok-add_awake.ensures.here c.loop-place.invariant.still;
      quiet = awake_more (is_quiet (view_of c.args.client.now)) c.args.subjects.now c.args.places.now c.loop-place.place-index
          (λ at. is_among at awake || is_among at waiting) (λ at. is_among at more || is_among at last) c.index-subjects-place.result
          c.loop-place-test.true c.index-subjects-place.is
          (λ at. either_more at awake waiting more last (c.in_ok-add_awake.ensures.had at) (c.in_ok-add_awake.ensures.kept at))
          c.in_ok-add_awake.ensures.quiet c.loop-place.invariant.quiet;
    }

pub returns-clause-still : goal.returns-clause-still
returns-clause-still g c = λ k d within among.
    let past : length c.args.places.now ≤ c.loop-place.place-index = omega (arith, c.loop-place-test.false) in
    c.loop-place.invariant.still k d within (ap (is_among k) (take_all c.loop-place.place-index c.args.places.now past) ∙ among)

pub returns-clause-quiet : goal.returns-clause-quiet
returns-clause-quiet g c = λ k d within among.
    let past : length c.args.places.now ≤ c.loop-place.place-index = omega (arith, c.loop-place-test.false) in
    c.loop-place.invariant.quiet k d within (ap (is_among k) (take_all c.loop-place.place-index c.args.places.now past) ∙ among)
