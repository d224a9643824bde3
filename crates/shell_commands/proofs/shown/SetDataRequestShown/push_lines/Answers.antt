-- The lines of a request that sets data are those of its path, data and version: by what `push_fields` ensures.
use Rattle.shell_commands.proofs.shown.SetDataRequestShown.push_lines.Goals as goal

pub returns : goal.returns
returns g c = c.push_fields.ensures
