-- What `found` ensures of the tree above every zxid, which is the newest tree (`newest-tree_at`), in both cases of the answer.
use Rattle.std.proofs.Common.{ap, ◌∙◌}
use Rattle.zk_nodes.specs.Path.{path_of}
use Rattle.zk_nodes.specs.History.{Tree}
use Rattle.zk_history.specs.inner.Accepting.{can_rise}
use Rattle.zk_history.proofs.ViewLemmas.{newest-tree_at}
use Rattle.zk_history.proofs.history.History.can_rise.Goals as goal

pub returns-in-Some : goal.returns-in-Some
returns-in-Some g c =
    ap can_rise c.in-Some.ensures.node
    ∙ ap (λ (t : Tree). can_rise (t (path_of c.args.at.now))) (newest-tree_at c.args.self.now c.in-Some.ensures.sound)

pub returns-in-None : goal.returns-in-None
returns-in-None g c =
    ap can_rise c.in-None.ensures.node
    ∙ ap (λ (t : Tree). can_rise (t (path_of c.args.at.now))) (newest-tree_at c.args.self.now c.in-None.ensures.sound)
