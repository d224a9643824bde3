-- Bytes that are ASCII may be taken as text unchecked: they are UTF-8, by `IsUtf8-from_ascii`.
use Rattle.std.proofs.lemmas.Str.{IsUtf8-from_ascii}
use Rattle.zk_nodes.proofs.path.ascii_text.Goals as goal

pub from_utf8_unchecked-text-requires : goal.from_utf8_unchecked-text-requires
from_utf8_unchecked-text-requires g c = IsUtf8-from_ascii c.args.bytes.now c.requires
