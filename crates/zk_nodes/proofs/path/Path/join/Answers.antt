-- Where `child_fault` finds none, the text made is that of the path with this name right below: `joined_above`.
use Rattle.std.proofs.Common.{sym, ap, ◌∙◌}
use Rattle.zk_nodes.specs.Path.{path_of, parent_of, name_of}
use Rattle.zk_nodes.proofs.Children.{joined_above}
use Rattle.zk_nodes.proofs.path.Path.join.Goals as goal

pub returns-clause-parent : goal.returns-clause-parent
returns-clause-parent g c =
    let below = joined_above c.as_str-above.result.now c.args.self.now c.args.name.now c.as_str-above.ensures.text
    c.as_str-above.ensures.path (sym c.child_fault.ensures ∙ c.in_default.is) in
    ap parent_of (ap path_of c.in_ok-child_text.ensures ∙ below)

pub returns-clause-name : goal.returns-clause-name
returns-clause-name g c =
    let below = joined_above c.as_str-above.result.now c.args.self.now c.args.name.now c.as_str-above.ensures.text
    c.as_str-above.ensures.path (sym c.child_fault.ensures ∙ c.in_default.is) in
    ap name_of (ap path_of c.in_ok-child_text.ensures ∙ below)
