-- The lines of a stat are those of its eleven fields: by what `push_fields` ensures.
use Rattle.shell_commands.proofs.shown.StatShown.push_lines.Goals as goal

pub returns : goal.returns
returns g c = c.push_fields.ensures
