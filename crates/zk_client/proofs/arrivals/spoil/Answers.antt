-- One side after the other: `spoilt-nodes` and `spoilt-children`, from what `concerns` and `spoil_side` ensure.
use Rattle.zk_nodes.specs.declared.side.Side.TheVariants.{Data, Child}
use Rattle.zk_records.specs.Events.{concerns}
use Rattle.zk_client.proofs.CacheLemmas.{spoilt-nodes, spoilt-children}
use Rattle.zk_client.proofs.arrivals.spoil.Goals as goal

pub returns-clause-nodes : goal.returns-clause-nodes
returns-clause-nodes g c = λ text.
    spoilt-nodes c.args.cache.now c.spoil_side.new.cache c.spoil_side-2.new.cache (concerns c.args.event Data)
    (concerns c.args.event Child) c.args.path.now text
    (rw c.concerns.ensures at c.spoil_side.ensures) (rw c.concerns-2.ensures at c.spoil_side-2.ensures)

pub returns-clause-children : goal.returns-clause-children
returns-clause-children g c = λ text.
    spoilt-children c.args.cache.now c.spoil_side.new.cache c.spoil_side-2.new.cache (concerns c.args.event Data)
    (concerns c.args.event Child) c.args.path.now text
    (rw c.concerns.ensures at c.spoil_side.ensures) (rw c.concerns-2.ensures at c.spoil_side-2.ensures)
