-- Bytes that are plainly a path's are UTF-8, since they are ASCII: `IsUtf8-from_ascii`.
use Rattle.std.proofs.Common.{rules}
use Rattle.std.proofs.lemmas.Str.{IsUtf8-from_ascii}
use Rattle.std.specs.Str.{IsAscii}
use Rattle.zk_nodes.proofs.path.Path.from_utf8.Goals as goal

pub returns-then-is_plain_path-clause-text : goal.returns-then-is_plain_path-clause-text
returns-then-is_plain_path-clause-text g c =
    let ascii : IsAscii c.args.bytes.now = search rules in
    IsUtf8-from_ascii c.args.bytes.now ascii
