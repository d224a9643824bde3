-- A read may be answered with the node that the server's tree has there: `found_node`, `found_data`, `found_children`.
use Rattle.theory_rules.proofs.Answering.{found_node, found_data, found_children}
use Rattle.theory_rules.proofs.found_nodes.Goals as goal

pub returns-clause-found_node : goal.returns-clause-found_node
returns-clause-found_node c h start entries path watch xid node value ignored a there fits same can =
    found_node h start entries path watch xid node value ignored a there fits same can

pub returns-clause-found_data : goal.returns-clause-found_data
returns-clause-found_data c h start entries path watch xid node value ignored a there fits same can =
    found_data h start entries path watch xid node value ignored a there fits same can

pub returns-clause-found_children : goal.returns-clause-found_children
returns-clause-found_children c h start entries path watch xid node names value ignored a there fits same pzxid all can =
    found_children h start entries path watch xid node names value ignored a there fits same pzxid all can
