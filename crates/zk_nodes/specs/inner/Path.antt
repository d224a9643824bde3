-- What contracts of private functions say: nobody has to believe it.
use Rattle.std.specs.Prelude.{Bool, false, [], ◌∷◌}
use Rattle.zk_nodes.specs.Path.{NodePath, path_eq}

-- whether a path lies right below another
abbrev pub is_below : NodePath → NodePath → Bool
is_below parent [] = false
is_below parent (name ∷ path) = path_eq parent path
