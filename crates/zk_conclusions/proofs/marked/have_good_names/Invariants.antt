-- The loop over the paths: whether all have good names is whether the rest have. One without gives `false`, and the end `true`.
use Rattle.std.proofs.Common.{◌≡◌, drop}
use Rattle.zk_client.specs.Clients.{view_of}
use Rattle.zk_conclusions.specs.Snapshots.{all_good}
use Rattle.zk_conclusions.proofs.marked.have_good_names.Given as goal

-- all are good where those that are left are
abbrev pub invariant-loop-path : goal.invariant-loop-path
invariant-loop-path g l =
    all_good (view_of l.client).cache.children (drop l.path-index l.paths) ≡ all_good (view_of l.client).cache.children l.paths
