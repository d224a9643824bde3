-- The names found at the place are good, since each path is kept whole (`names_at`), and so fit the history's tree (`names_fit`).
use Rattle.std.proofs.Common.{refl}
use Rattle.zk_client.specs.Clients.{view_of}
use Rattle.zk_conclusions.specs.Seen.{Is}
use Rattle.zk_conclusions.proofs.Truths.{names_fit}
use Rattle.zk_conclusions.proofs.Lent.{names_at}
use Rattle.zk_conclusions.proofs.subtree.Subtree.names.Goals as goal

pub returns-clause-kept : goal.returns-clause-kept
returns-clause-kept g c path at =
    names_at (view_of c.args.self.now.client.now).cache c.args.self.now.paths.items c.args.place c.index.result.now path _
    c.args.self.now.full c.index.ensures c.in-Some.ensures at

pub returns-clause-holds : goal.returns-clause-holds
returns-clause-holds g c h path served at = names_fit (Is path) h (view_of c.args.self.now.client.now) path _ served refl
    (returns-clause-kept g c path at)
