-- The lines of a reply's header are those of xid, zxid and err: by what `push_fields` ensures.
use Rattle.shell_commands.proofs.shown.ReplyHeaderShown.push_lines.Goals as goal

pub returns : goal.returns
returns g c = c.push_fields.ensures
