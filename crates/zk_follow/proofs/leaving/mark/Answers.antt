-- A mark that is set stays so: `mark_kept`.
use Rattle.std.proofs.Common.{arith}
use Rattle.zk_follow.proofs.Parting.{mark_kept}
use Rattle.zk_follow.proofs.leaving.mark.Goals as goal

pub returns-clause-kept : goal.returns-clause-kept
returns-clause-kept g c = λ at e. mark_kept c.args.marks.now.items c.args.place at (omega arith) e
