-- One more subject is found, and all that were: `found_more`.
use Rattle.std.proofs.Common.{arith}
use Rattle.zk_follow.proofs.Finding.{found_more}
use Rattle.zk_follow.proofs.index.Index.add_all.Goals as goal

pub loop-self-preserved : goal.loop-self-preserved
loop-self-preserved g c = record {
  sized = omega (arith, c.in_ok-add.ensures.size, c.loop-self.invariant.sized);
  found = found_more c.loop-self.self c.add.new.self c.args.subjects.now c.index-subjects-self.result c.loop-self.invariant.found
      c.loop-self-test.true c.index-subjects-self.is c.in_ok-add.ensures.count c.in_ok-add.ensures.ticket c.in_ok-add.ensures.path
      c.in_ok-add.ensures.kept;
}
