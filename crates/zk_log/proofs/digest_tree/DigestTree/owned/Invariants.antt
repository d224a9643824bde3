-- The paths so far, before those of the nodes that are left, are those of all.
use Rattle.std.proofs.Common.{◌≡◌, ◌++◌, map}
use Rattle.std.specs.Prelude.{string_bytes}
use Rattle.zk_log.specs.Following.{owned}
use Rattle.zk_log.proofs.digest_tree.DigestTree.owned.Given as goal

abbrev pub invariant-loop-path : goal.invariant-loop-path
invariant-loop-path g l = map string_bytes l.paths.items ++ owned l.session l.path-iterator ≡ owned l.session l.self.nodes.entries
