-- The tree takes a create that is not refused, unless its data are too long: `create_allowed`, from what `created_path` ensures.
use Rattle.std.proofs.Common.{sym, subst, Option, List, ℕ, to_z, w64}
use Rattle.zk_nodes.specs.Path.{path_of}
use Rattle.zk_nodes.specs.History.{Creates}
use Rattle.zk_history.specs.HistoryView.{IsAccepted}
use Rattle.zk_bench.specs.inner.Writing.{tree_of}
use Rattle.zk_bench.proofs.Allowed.{create_allowed}
use Rattle.zk_bench.proofs.writes.creation.Goals as goal

pub returns-clause-allowed : goal.returns-clause-allowed
returns-clause-allowed g c = λ small.
    let tree = tree_of c.args.tree.now.history.now c.args.tree.now.zxid in
    let made = c.in-Ok.ensures in
    let beside = made.beside in
    let owner = to_z w64 c.if-mode.owner-bits in
    subst (λ (content : Option (List ℕ)). IsAccepted (Creates (path_of c.in-Ok.path) content owner) tree) (sym c.into_inner.ensures)
    (create_allowed tree c.args.mode.sequential c.args.text.now c.in-Ok.path _ beside.0 c.args.bytes owner beside.1 made.text
    (made.accepted beside.0 beside.1) small)
