-- The watches of one side.
use Rattle.std.specs.Prelude.{Bool, true, false}
use Rattle.std.specs.FinSet as set
use Rattle.zk_nodes.specs.Path.{Text}
use Rattle.zk_nodes.specs.Names.{Names}

-- the paths that are watched after an event at one of them, which may concern this side or not
abbrev pub used_up : Bool → Names → Text → Names
used_up true paths path = set.remove paths path
used_up false paths path = paths
