-- By the operation: the parts of a multi, the end of a session with paths, and what makes one change at most.
use Rattle.zk_nodes.specs.Path.{path_of}
use Rattle.zk_log.specs.Views.{entry_of}
use Rattle.zk_log_history.specs.Known.{known_of}
use Rattle.zk_log_history.proofs.Known.{multi_told, closed_told, rest_told}
use Rattle.zk_log_history.proofs.path_entry.with_entry.Goals as goal

pub returns-in-Multi : goal.returns-in-Multi
returns-in-Multi g c =
    multi_told (path_of c.args.path.now) (entry_of c.args.entry.now) (known_of c.args.known) c.args.txn.now c.in-Multi.parts
    c.or_empty.result.now c.with_parts.result c.in-Multi.is c.or_empty.ensures c.with_parts.ensures

pub returns-in-CloseSession : goal.returns-in-CloseSession
returns-in-CloseSession g c =
    closed_told (path_of c.args.path.now) (entry_of c.args.entry.now) (known_of c.args.known) c.args.txn.now c.in-CloseSession.paths
    c.or_empty-in-CloseSession.result.now c.with_end.result c.in-CloseSession.is c.or_empty-in-CloseSession.ensures c.with_end.ensures

pub returns-in_default : goal.returns-in_default
returns-in_default g c =
    rest_told (path_of c.args.path.now) (entry_of c.args.entry.now) (known_of c.args.known) c.args.txn.now c.with_operation.result
    c.in_default.not-Multi c.in_default.not-CloseSession c.in_default.not-CloseSessionAlone c.with_operation.ensures
