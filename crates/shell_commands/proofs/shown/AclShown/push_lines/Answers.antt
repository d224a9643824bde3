-- The lines of an access rule are those of its three fields: by what `push_fields` ensures.
use Rattle.shell_commands.proofs.shown.AclShown.push_lines.Goals as goal

pub returns : goal.returns
returns g c = c.push_fields.ensures
