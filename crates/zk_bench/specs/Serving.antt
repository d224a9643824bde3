-- What a server watches and sends, in the words of the laws.
use Rattle.std.specs.Prelude.{ℕ, ◌+◌, ◌<◌, ◌^◌, Bool, ◌&&◌}
use Rattle.std.specs.FinSet as set
use Rattle.zk_nodes.specs.Path.{NodePath, path_eq, text_of, path_of}
use Rattle.zk_nodes.specs.Names.{Names}
use Rattle.zk_nodes.specs.declared.side.Side.TheVariants.{Data, Child}
use Rattle.zk_laws.specs.Server.{Watches}

-- the path is that of its text
abbrev pub is_named : NodePath → Bool
is_named path = path_eq (path_of (text_of path)) path

-- the paths of these texts are watched on the two sides
abbrev pub watches_of : Names → Names → Watches
watches_of nodes parents Data path = is_named path && set.contains nodes (text_of path)
watches_of nodes parents Child path = is_named path && set.contains parents (text_of path)

-- a result of this many bytes fits a frame, after a header of 16
abbrev pub FitsReply : ℕ → Type 0
FitsReply count = 16 + count < 2 ^ 31
