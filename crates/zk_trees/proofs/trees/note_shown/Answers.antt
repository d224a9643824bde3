-- By whether the tree is behind already, and whether a member has the ticket.
use Rattle.std.proofs.Common.{◌∙◌, ap, sym}
use Rattle.zk_trees.specs.Tending.{has_ticket}
use Rattle.zk_trees.proofs.Noting.{not_noted, noted_before, so_noted}
use Rattle.zk_trees.proofs.trees.note_shown.Goals.{else-not-tree-via-then-not-tree+else-has_ticket, else-not-tree-via-else-not-tree}
use Rattle.zk_trees.proofs.trees.note_shown.Goals as goal

pub returns-then-has_ticket : goal.returns-then-has_ticket
returns-then-has_ticket g c =
    so_noted c.args.tree.now (has_ticket c.args.ticket c.args.tree.now.members.items) _
    (sym (c.has_ticket.ensures ∙ ap (has_ticket c.args.ticket) c.as_slice.ensures.value) ∙ c.if-has_ticket.true)

pub returns-else-not-tree : goal.returns-else-not-tree
returns-else-not-tree g c =
    let is = has_ticket c.args.ticket c.args.tree.now.members.items in
    elim c.else-not-tree.branch [
      | else-not-tree-via-then-not-tree+else-has_ticket w ↦ not_noted c.args.tree.now is
          (sym (w.has_ticket.ensures ∙ ap (has_ticket c.args.ticket) w.as_slice.ensures.value) ∙ w.if-has_ticket.false)
      | else-not-tree-via-else-not-tree w ↦ noted_before c.args.tree.now is w.if-not-tree.false
    ]
