-- One subject more is gone over: `left_more`. At the end all are.
use Rattle.std.proofs.Common.{◌≡◌, ◌≤◌, ◌<◌, ◌∙◌, ap, arith, not, length, refl, subst, sym, take}
use Rattle.std.specs.List.{filter}
use Rattle.std.proofs.lemmas.List.{take_all}
use Rattle.std.proofs.lemmas.List.Filters.{length-filter_more}
use Rattle.zk_follow.specs.declared.subject.Subject.{Subject}
use Rattle.zk_follow.specs.Following.{is_among, AreQuietBut}
use Rattle.zk_follow.proofs.Parting.{left_asleep, left_low, left_more, left_size}
use Rattle.zk_follow.proofs.leaving.awake_left.Goals as goal

pub loop-place-preserved : goal.loop-place-preserved
loop-place-preserved g c =
    let gone = c.args.gone.now.sorted.items in
    let stays = λ (subject : Subject _). not (is_among subject.ticket gone) in
    let subjects = c.args.subjects.now in
    let place = c.loop-place.place in
    let item = c.index-subjects-place.result in
    record {
      low = left_low (stays item) c.loop-place.next c.in_ok-next.next place c.loop-place.invariant.low c.in_ok-next.ensures.next;
      next = left_size stays subjects place item c.loop-place-test.true c.index-subjects-place.is c.loop-place.next c.in_ok-next.next
          c.loop-place.invariant.next c.in_ok-next.ensures.next;
      quiet = λ view all. left_more view stays subjects c.args.awake.now c.args.count place item c.loop-place-test.true
          c.index-subjects-place.is c.loop-place.next c.in_ok-next.next c.loop-place.left.items c.add_left.new.left.items
          c.is_awake-may_wake.result c.loop-place.invariant.next c.in_ok-next.ensures.next c.in_ok-next.ensures.left
          (left_asleep c.args.awake.now c.in_ok-marks.marks.items c.as_slice.result.now c.args.count place (length subjects)
          c.loop-place-test.true c.as_slice.ensures.value c.in_ok-marks.ensures.marked c.is_awake-may_wake.result
          c.is_awake-may_wake.ensures)
          all (c.loop-place.invariant.quiet view all);
    }

pub returns : goal.returns
returns g c = λ view all.
    let past : length c.args.subjects.now ≤ c.loop-place.place = omega (arith, c.loop-place-test.false) in
    let stays = λ (subject : Subject _). not (is_among subject.ticket c.args.gone.now.sorted.items) in
    let whole = take_all c.loop-place.place c.args.subjects.now past in
    subst (λ n. AreQuietBut view n (filter stays c.args.subjects.now) c.loop-place.left.items)
    (c.loop-place.invariant.next ∙ ap (λ some. length (filter stays some)) whole)
    (subst (λ some. AreQuietBut view c.loop-place.next (filter stays some) c.loop-place.left.items) whole
    (c.loop-place.invariant.quiet view all))
