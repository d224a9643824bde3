-- One place more is counted: `count_more`. Of the others none counts: `count_end`.
use Rattle.std.proofs.Common.{◌≡◌, arith, length, refl}
use Rattle.zk_follow.specs.Following.{is_reading}
use Rattle.zk_follow.proofs.Counting.{count_end, count_more, few_more}
use Rattle.zk_follow.proofs.follower.count_reads.Goals as goal

pub loop-place-init : goal.loop-place-init
loop-place-init g c = record { count = refl; few = omega arith }

pub bounds-subjects-place : goal.bounds-subjects-place
bounds-subjects-place g c = c.requires.below c.loop-place.place-index 0 c.loop-place-test.true

pub loop-place-preserved : goal.loop-place-preserved
loop-place-preserved g c =
    let subjects = c.args.subjects.now in
    let item = c.index-subjects-place.result in
    record {
      count = count_more subjects c.args.places.now c.loop-place.place-index c.requires.ascend c.requires.below c.requires.due
          c.loop-place-test.true item c.loop-place.reads c.count_read-reads.result
          c.index-subjects-place.is c.count_read-reads.ensures c.loop-place.invariant.count;
      few = few_more (is_reading item.progress) c.loop-place.reads c.count_read-reads.result c.loop-place.place-index
          c.loop-place.invariant.few c.count_read-reads.ensures;
    }

pub returns : goal.returns
returns g c =
    let end : c.loop-place.place-index ≡ length c.args.places.now =
    omega (arith, c.loop-place-test.false, c.loop-place.auto.place-index-end) in
    count_end c.args.subjects.now c.args.places.now c.loop-place.place-index c.requires.ascend c.requires.below c.requires.due end
    c.loop-place.reads c.loop-place.invariant.count
