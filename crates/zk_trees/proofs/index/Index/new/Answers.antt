-- Neither of two empty maps has a path: `none_in`.
use Rattle.zk_trees.specs.declared.index.Index.{Index}
use Rattle.zk_trees.proofs.Indexing.{none_in}
use Rattle.zk_trees.proofs.index.Index.new.Goals as goal

pub returns : goal.returns
returns g c =
    let made : Index g.row.A.Denot = record { alloc = c.args.alloc; nodes = c.new.result; names = c.new-2.result } in
    none_in made c.new.ensures.empty c.new-2.ensures.empty
