-- One place more is moved: `moved_more`. At the end none waits.
use Rattle.std.proofs.Common.{◌≡◌, arith, length}
use Rattle.std.proofs.lemmas.List.{nil_from_length}
use Rattle.zk_follow.proofs.Moving.{all_moved, moved_more}
use Rattle.zk_follow.proofs.queue.pour.Goals as goal

pub loop-place-preserved : goal.loop-place-preserved
loop-place-preserved g c = λ at fits e.
    moved_more at c.in-Some.place c.loop-place.all.items c.loop-place.waiting.items c.add_one.new.all.items c.pop_front.new.self.items
    c.in-Some.ensures.items (c.in_ok-add_one.ensures.has at fits) (c.loop-place.invariant at fits e)

pub returns : goal.returns
returns g c = λ at fits e.
    let waiting = c.loop-place.waiting in
    let both = rw c.in_default.is at c.pop_front.ensures.cases in
    let none : length waiting.items ≡ 0 = omega (arith, both.0, waiting.ok.0) in
    all_moved at c.loop-place.all.items waiting.items (nil_from_length waiting.items none) (c.loop-place.invariant at fits e)
