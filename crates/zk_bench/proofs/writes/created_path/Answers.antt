-- The parent's names are there: what `parent_of` ensures, carried from the path to the text that was asked for.
use Rattle.std.proofs.Common.{subst}
use Rattle.zk_nodes.specs.Path.{Text, path_of}
use Rattle.zk_nodes.specs.Names.{Names}
use Rattle.zk_bench.specs.inner.Writing.{tree_of, AreBeside}
use Rattle.zk_bench.proofs.writes.created_path.Goals as goal

pub returns-in-None-clause-beside : goal.returns-in-None-clause-beside
returns-in-None-clause-beside g c =
    subst (λ (text : Text). (names : Names) × AreBeside (tree_of c.args.tree.now.history.now c.args.tree.now.zxid) (path_of text) names)
    c.in_ok-asked.ensures.path c.in-Ok.ensures.beside
