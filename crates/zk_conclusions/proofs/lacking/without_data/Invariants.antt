-- The loop over the paths: those found, and those of the rest that lack data, are all that lack data. At the end no rest is left.
use Rattle.std.proofs.Common.{◌≡◌, ◌++◌, drop}
use Rattle.std.specs.List.{filter}
use Rattle.zk_client.specs.Clients.{view_of}
use Rattle.zk_conclusions.specs.Lacks.{lacks_data}
use Rattle.zk_conclusions.proofs.lacking.without_data.Given as goal

-- what was found, with what is left to be found
abbrev pub invariant-loop-path : goal.invariant-loop-path
invariant-loop-path g l = l.lacking.items ++ filter (lacks_data (view_of l.client).cache) (drop l.path-index l.paths)
    ≡ filter (lacks_data (view_of l.client).cache) l.paths
