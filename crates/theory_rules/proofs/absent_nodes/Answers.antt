-- A read may be answered with -101 where the server's tree has no node there: `absent_node`, `absent_data`, `absent_children`.
use Rattle.theory_rules.proofs.Answering.{absent_node, absent_data, absent_children}
use Rattle.theory_rules.proofs.absent_nodes.Goals as goal

pub returns-clause-absent_node : goal.returns-clause-absent_node
returns-clause-absent_node c h start entries path watch xid behind a none can = absent_node h start entries path watch xid behind none can a

pub returns-clause-absent_data : goal.returns-clause-absent_data
returns-clause-absent_data c h start entries path watch xid behind a none can = absent_data h start entries path watch xid behind none can a

pub returns-clause-absent_children : goal.returns-clause-absent_children
returns-clause-absent_children c h start entries path watch xid behind a none can =
    absent_children h start entries path watch xid behind none can a
