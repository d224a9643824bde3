-- One notice: what is reported of it (`report_is`), and that it ends what was good (`ended_is`). The outputs have these reports and no
-- others, by `reports_are`. What is good after a notice was read again after it, by `read_again`.
use Rattle.zk_turns.proofs.reports.Goals as goal
use Rattle.zk_turns.proofs.Marks.{report_is, ended_is}
use Rattle.std.proofs.Common.{refl}
use Rattle.zk_turns.specs.Past.{Took, Notifies}
use Rattle.zk_turns.proofs.Meant.{read_again}
use Rattle.zk_turns.proofs.Reporting.{reports_are}

pub returns-clause-report : goal.returns-clause-report
returns-clause-report c = report_is

pub returns-clause-ended : goal.returns-clause-ended
returns-clause-ended c = ended_is

pub returns-clause-all : goal.returns-clause-all
returns-clause-all c = reports_are

pub returns-clause-once : goal.returns-clause-once
returns-clause-once c event path side since before about g = read_again side path since (Took (Notifies event path)) before (about, refl) g
