-- Going on with the versions that are left, from the names so far, gives what all versions give from the first names; at the end none
-- is left, so the names so far are those.
use Rattle.std.proofs.Common.{◌≡◌, map, drop}
use Rattle.zk_nodes.specs.Path.{path_of}
use Rattle.zk_history.specs.HistoryView.{HistoryView}
use Rattle.zk_history.specs.Made.{transaction_of}
use Rattle.zk_nodes.specs.inner.Names.{names_of}
use Rattle.zk_history.specs.Versions.{names_told}
use Rattle.zk_history.proofs.names.names_after_versions.Given as goal

abbrev pub invariant-loop-version : goal.invariant-loop-version
invariant-loop-version g l =
    let kept : HistoryView = record { nodes = map transaction_of l.nodes; transactions = map transaction_of l.transactions } in
    names_told kept (path_of l.at) l.z (drop l.version-index l.versions) (names_of l.names)
    ≡ names_told kept (path_of l.at) l.z l.versions (names_of l.fn.names)
