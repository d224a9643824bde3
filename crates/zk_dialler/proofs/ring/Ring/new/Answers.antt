-- The numbers are shuffled whole.
use Rattle.std.proofs.Common.{◌≡◌, ◌∙◌, arith, drop, length}
use Rattle.zk_dialler.proofs.Shuffling.{whole_order}
use Rattle.zk_dialler.proofs.ring.Ring.new.Goals as goal

pub returns-clause-order : goal.returns-clause-order
returns-clause-order g c =
    let size : c.in_ok-order.order.len ≡ length c.shuffle.new.order = omega (arith, c.shuffle.auto.order, c.as_mut_slice.ensures.len) in
    whole_order c.args.chance.now.state c.args.count c.in_ok-order.order.len c.as_mut_slice.result.now c.shuffle.new.order
    (drop (length c.shuffle.new.order) c.in_ok-order.order.items) size c.shuffle.ensures.exact
    (c.as_mut_slice.ensures.value ∙ c.in_ok-order.ensures)
