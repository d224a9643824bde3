-- A node is there after all transactions exactly where `found` finds one at a zxid above all: that tree is the newest, by `newest-tree_at`.
use Rattle.std.proofs.Common.{Option, is_some, ap, sym, ◌∙◌}
use Rattle.zk_nodes.specs.Path.{path_of}
use Rattle.zk_nodes.specs.History.{Node, Tree}
use Rattle.zk_history.specs.inner.Made.{node_of}
use Rattle.zk_history.proofs.ViewLemmas.{newest-tree_at, is_some-mapped}
use Rattle.zk_history.proofs.history.History.is_there.Goals as goal

pub returns : goal.returns
returns g c =
    c.is_some.ensures ∙ sym (is_some-mapped node_of c.found.result) ∙ ap (λ (o : Option Node). is_some o) c.found.ensures.node
    ∙ ap (λ (t : Tree). is_some (t (path_of c.args.at.now))) (newest-tree_at c.args.self.now c.found.ensures.sound)
