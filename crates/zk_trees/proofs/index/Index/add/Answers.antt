-- By the side: `add_path` adds the path to one of the two maps, and the other one is as it was (`added_data`, `added_names`).
use Rattle.std.proofs.Common.{refl}
use Rattle.zk_trees.proofs.Indexing.{added_data, added_names, on_ok}
use Rattle.zk_trees.proofs.index.Index.add.Goals as goal

pub returns-in-Data : goal.returns-in-Data
returns-in-Data g c =
    let old = c.args.self.now in
    on_ok c.add_path.result (added_data old (record old { nodes = c.add_path.new.paths }) c.args.subject.now.side
    c.args.subject.now.path c.in-Data.is refl) (rw c.as_str.ensures.text at c.add_path.ensures)

pub returns-in-Child : goal.returns-in-Child
returns-in-Child g c =
    let old = c.args.self.now in
    on_ok c.add_path-in-Child.result (added_names old (record old { names = c.add_path-in-Child.new.paths }) c.args.subject.now.side
    c.args.subject.now.path c.in-Child.is refl) (rw c.as_str-in-Child.ensures.text at c.add_path-in-Child.ensures)
