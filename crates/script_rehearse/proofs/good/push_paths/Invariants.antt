-- Loop over the paths: what was written with whatever is told of those left is told of all. With none left it alone is.
use Rattle.std.proofs.Common.{◌≡◌, ◌++◌, ℕ, List, map}
use Rattle.std.specs.Prelude.{string_bytes}
use Rattle.zk_client.specs.Clients.{view_of}
use Rattle.script_rehearse.specs.Good.{TellsPaths}
use Rattle.script_rehearse.proofs.good.push_paths.Given as goal

-- what is written, with what is told of the paths that are left, is told of all paths
abbrev pub invariant-loop-path : goal.invariant-loop-path
invariant-loop-path g l =
    (told : List ℕ) × ((rest : List ℕ) → TellsPaths (view_of l.client) l.history (map string_bytes l.path-iterator) rest
    → TellsPaths (view_of l.client) l.history (map string_bytes l.paths.keys) (told ++ rest))
    × (string_bytes l.text ≡ string_bytes l.initial.text ++ told)
