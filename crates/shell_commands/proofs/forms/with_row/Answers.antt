-- The command has one rule more, that of the row, by what `arg` ensures.
use Rattle.std.proofs.Common.{◌∙◌, ap}
use Rattle.std.proofs.lemmas.Result.{IfOk-weaker}
use Rattle.clap.specs.Words.{app_of, with_rule}
use Rattle.shell_commands.proofs.forms.with_row.Goals as goal

pub returns : goal.returns
returns c =
    IfOk-weaker c.arg.result _ _
    (λ command adds. adds.shape c.arg_of.ensures.local ∙ ap (with_rule (app_of c.args.command)) c.arg_of.ensures.rule) c.arg.ensures
