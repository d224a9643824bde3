-- Where there is no report, the path is not reported: `unreported_where`.
use Rattle.std.proofs.Common.{sym, ◌∙◌}
use Rattle.zk_client.specs.Views.{said}
use Rattle.zk_follow.proofs.Resting.{unreported_where}
use Rattle.zk_follow.proofs.news.is_reported_where.Goals as goal

pub returns-else-has_report : goal.returns-else-has_report
returns-else-has_report g c =
    c.if-has_report.false
    ∙ sym (unreported_where c.args.path.now (said c.args.outputs.now) (sym c.requires.has_report ∙ c.if-has_report.false))
