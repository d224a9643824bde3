-- What contracts of private functions say: nobody has to believe it.
use Rattle.std.specs.Option.{option_copied}
use Rattle.zk_history.specs.Versions.{node_with}
use Rattle.zk_history.specs.declared.found.Found.{Found}
use Rattle.zk_nodes.specs.History as model

-- a node as it was found
abbrev pub node_of : Found → model.Node
node_of f = node_with f.entry (option_copied f.bytes)
