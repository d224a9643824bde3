-- An index that there is has the member added (`indexed_push`).
use Rattle.std.proofs.Common.{Option, subst}
use Rattle.zk_trees.specs.declared.index.Index.{Index}
use Rattle.zk_trees.specs.inner.Trees.{IsIndexIfMade}
use Rattle.zk_trees.proofs.Indexing.{indexed_push, on_ok}
use Rattle.zk_trees.proofs.index.add_member.Goals as goal

pub returns-in-Some : goal.returns-in-Some
returns-in-Some g c = on_ok c.add.result
    (λ adds members more one same last is. indexed_push c.in-Some.index c.add.new.self members more c.args.subject.now one same last adds
    (subst (λ (o : Option (Index g.row.A.Denot)). IsIndexIfMade o members) c.in-Some.is is))
    c.add.ensures
