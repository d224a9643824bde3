-- The loop over the paths: whether all are good is whether the rest are. One that is not gives `false`, and the end, with no rest, `true`.
use Rattle.std.proofs.Common.{◌≡◌, drop}
use Rattle.zk_client.specs.Clients.{view_of}
use Rattle.zk_conclusions.specs.Snapshots.{all_good}
use Rattle.zk_conclusions.proofs.marked.are_good.Given as goal

-- all are good where those that are left are
abbrev pub invariant-loop-path : goal.invariant-loop-path
invariant-loop-path g l =
    all_good (view_of l.client).cache.nodes (drop l.path-index l.paths) ≡ all_good (view_of l.client).cache.nodes l.paths
