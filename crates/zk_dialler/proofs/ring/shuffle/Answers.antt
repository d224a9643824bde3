-- One place was exchanged.
use Rattle.std.proofs.Common.{◌∙◌, arith}
use Rattle.std.proofs.lemmas.List.Sorted.{IsPermutation-trans}
use Rattle.zk_dialler.proofs.Shuffling.{goes_on, one_number}
use Rattle.zk_dialler.proofs.ring.shuffle.Goals as goal

pub loop-left-preserved : goal.loop-left-preserved
loop-left-preserved c = record {
  exact = goes_on c.loop-left.chance.state c.loop-left.left c.loop-left.order c.advance.new.self.state c.below-place.result
      c.swap.new.self c.loop-left-test.true
      c.advance.ensures c.below-place.ensures.exact c.swap.ensures.after ∙ c.loop-left.invariant.exact;
  chance = one_number c.loop-left.chance.state c.loop-left.left c.advance.new.self.state c.loop-left-test.true c.advance.ensures
      ∙ c.loop-left.invariant.chance;
  same = IsPermutation-trans c.args.order.now c.loop-left.order c.swap.new.self c.loop-left.invariant.same c.swap.ensures.permutation;
  within = omega (arith, c.swap.ensures.len, c.loop-left.invariant.within);
}
