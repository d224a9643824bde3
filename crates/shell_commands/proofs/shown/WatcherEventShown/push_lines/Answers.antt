-- The lines of what a watch tells are those of its type, state and path: by what `push_fields` ensures.
use Rattle.shell_commands.proofs.shown.WatcherEventShown.push_lines.Goals as goal

pub returns : goal.returns
returns g c = c.push_fields.ensures
