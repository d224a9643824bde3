-- By whether a node is there: with none, -101 alone is true (`absent`, `absent_parent`); else its fields (`known`), its data (`full`) and
-- its children's names (`listing`) are.
use Rattle.std.specs.Prelude.{is_some, ◌∷◌}
use Rattle.zk_nodes.specs.Path.{path_of}
use Rattle.zk_laws.proofs.Reading_trees.{absent, absent_parent, known, full, listing}
use Rattle.zk_laws.proofs.read_answers.Goals as goal

pub returns-clause-absent : goal.returns-clause-absent
returns-clause-absent c tree path watch = absent (tree (path_of path))

pub returns-clause-absent_data : goal.returns-clause-absent_data
returns-clause-absent_data c tree path watch = absent (tree (path_of path))

pub returns-clause-absent_parent : goal.returns-clause-absent_parent
returns-clause-absent_parent c tree path watch = absent_parent (λ name. is_some (tree (name ∷ path_of path))) (tree (path_of path))

pub returns-clause-fields : goal.returns-clause-fields
returns-clause-fields c tree path watch stat = known stat (tree (path_of path))

pub returns-clause-data : goal.returns-clause-data
returns-clause-data c tree path watch bytes stat = full bytes stat (tree (path_of path))

pub returns-clause-children : goal.returns-clause-children
returns-clause-children c tree path watch names stat =
    listing names stat (λ name. is_some (tree (name ∷ path_of path))) (tree (path_of path))
