-- Where the first limit has not come, none has: `none_late`.
use Rattle.zk_calls.proofs.Rising.{none_late}
use Rattle.zk_agent.proofs.Lines.{not_come}
use Rattle.zk_agent.proofs.asker.Asker.is_in_time.Goals as goal

pub returns : goal.returns
returns g c = λ in_time.
    let entries = c.args.self.now.line.entries.items in
    none_late c.args.now entries
    (not_come c.args.now c.deadline.result c.has_come.result entries c.has_come.ensures in_time c.deadline.ensures)
