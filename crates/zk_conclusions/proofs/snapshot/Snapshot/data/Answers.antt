-- What is found of the node at the place is good, since the snapshot is whole (`data_at`), and so fits the history's tree (`data_fits`).
use Rattle.std.proofs.Common.{refl}
use Rattle.zk_client.specs.Clients.{view_of}
use Rattle.zk_conclusions.specs.Seen.{Is}
use Rattle.zk_conclusions.proofs.Truths.{data_at, data_fits}
use Rattle.zk_conclusions.proofs.snapshot.Snapshot.data.Goals as goal

pub returns-clause-kept : goal.returns-clause-kept
returns-clause-kept g c path at =
    data_at (view_of c.args.self.now.client.now) c.args.self.now.nodes.now c.args.self.now.parents.now c.args.place
    c.index-self-place.result path _ c.args.self.now.whole c.in-Some.ensures at

pub returns-clause-holds : goal.returns-clause-holds
returns-clause-holds g c h path served at = data_fits (Is path) h (view_of c.args.self.now.client.now) path _ served refl
    (returns-clause-kept g c path at)
