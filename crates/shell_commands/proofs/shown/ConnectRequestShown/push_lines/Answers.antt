-- The lines of a connect request are those of its six fields: by what `push_fields` ensures.
use Rattle.shell_commands.proofs.shown.ConnectRequestShown.push_lines.Goals as goal

pub returns : goal.returns
returns g c = c.push_fields.ensures
