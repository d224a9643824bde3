-- The settings of the program are those of `shell_top`: by rewriting.
use Rattle.std.proofs.Common.{rules}
use Rattle.shell_commands.proofs.forms.shell_top.Goals as goal

pub returns : goal.returns
returns c = search rules
