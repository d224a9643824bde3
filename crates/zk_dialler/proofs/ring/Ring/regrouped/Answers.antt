-- No place is lost between the groups.
use Rattle.std.proofs.Common.{arith}
use Rattle.zk_dialler.proofs.Grouping.{both_groups}
use Rattle.zk_dialler.proofs.ring.Ring.regrouped.Goals as goal

pub returns-clause-each : goal.returns-clause-each
returns-clause-each g c =
    both_groups c.args.kept c.args.kept_first c.args.self.order.items c.add_group-2.new.order.items (grind (arith))
