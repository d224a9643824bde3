-- By whether the tree is behind already, and whether the path begins with its root.
use Rattle.std.proofs.Common.{◌∙◌, ap, sym, nat_eq}
use Rattle.std.specs.List.{starts_with}
use Rattle.zk_trees.proofs.Noting.{not_noted, noted_before, so_noted}
use Rattle.zk_trees.proofs.trees.note_report.Goals.{else-not-tree-via-then-not-tree+else-begins_with, else-not-tree-via-else-not-tree}
use Rattle.zk_trees.proofs.trees.note_report.Goals as goal

pub returns-then-begins_with : goal.returns-then-begins_with
returns-then-begins_with g c =
    so_noted c.args.tree.now (starts_with nat_eq c.args.path.now c.args.tree.now.root) _
    (sym (c.begins_with.ensures ∙ ap (starts_with nat_eq c.args.path.now) c.as_str.ensures.text) ∙ c.if-begins_with.true)

pub returns-else-not-tree : goal.returns-else-not-tree
returns-else-not-tree g c =
    let is = starts_with nat_eq c.args.path.now c.args.tree.now.root in
    elim c.else-not-tree.branch [
      | else-not-tree-via-then-not-tree+else-begins_with w ↦ not_noted c.args.tree.now is
          (sym (w.begins_with.ensures ∙ ap (starts_with nat_eq c.args.path.now) w.as_str.ensures.text) ∙ w.if-begins_with.false)
      | else-not-tree-via-else-not-tree w ↦ noted_before c.args.tree.now is w.if-not-tree.false
    ]
